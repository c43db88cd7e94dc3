use Rattle.std.specs.List.{position, list_any}
use Rattle.std.proofs.Common.{◌≡◌, List, refl, ap, ◌∙◌, subst, map}
use Rattle.mama_event.specs.contracts.ids.ObjectIdPartialEq.TheImpl.{eq-value}
use Rattle.mama_event.specs.declared.ids.ObjectId.{ObjectId}
use Rattle.mama_event.specs.declared.ids.ObjectId.TheVariants.{Sub, Timer, Inbox}
use Rattle.mama_event.specs.Object.{same_object}
use Rattle.mama_event.specs.Listener.{told}
use Rattle.mama_dispatch.specs.Seats.{SeatData, AreApart}
use Rattle.mama_dispatch.specs.Places.{IsSeatOf}
use Rattle.mama_dispatch.specs.Rows.{row_data}
use Rattle.mama_dispatch.proofs.PlaceLemmas.{position_same, list_any_same, place_some, place_none, place_guessed, on_true}
use Rattle.mama_dispatch.proofs.seats.Seats.place.Goals as goal

-- ids are compared by kind and numbers
same : (a b : ObjectId) → eq-value.it a b ≡ same_object a b
same (Sub a) (Sub b) = refl
same (Sub a) (Timer b) = refl
same (Sub a) (Inbox b) = refl
same (Timer a) (Sub b) = refl
same (Timer a) (Timer b) = refl
same (Timer a) (Inbox b) = refl
same (Inbox a) (Sub b) = refl
same (Inbox a) (Timer b) = refl
same (Inbox a) (Inbox b) = refl

pub returns-then-is_row_of-clause-some : goal.returns-then-is_row_of-clause-some
returns-then-is_row_of-clause-some g c =
    let o = c.args.object.now in
    let seen = ap (map (row_data (told g.L.Tagged.tagged g.L.Listener.calls g.L.Listener.heard g.L.Listener.given g.L.Listener.plan))) c.as_slice.ensures.value ∙ c.self.view_is in
    place_guessed o c.self.inside.last c.args.self.now
    (subst (λ (ss : List SeatData). IsSeatOf o c.self.inside.last ss) seen (on_true c.is_row_of.result c.if-is_row_of.true c.is_row_of.ensures))
    (subst AreApart c.self.view_is c.self.invariant.kept.apart)

pub returns-clause-some : goal.returns-clause-some
returns-clause-some g c =
    let o = c.args.object.now in
    place_some o c.get_index_of.result c.args.self.now
    (c.get_index_of.ensures.index ∙ position_same (eq-value.it o) (same_object o) _ (same o)
    ∙ ap (position (same_object o)) c.self.invariant.kept.keys
    ∙ ap (λ (ss : List SeatData). position (same_object o) (map (λ (s : SeatData). s.object) ss)) c.self.view_is)

pub returns-clause-none : goal.returns-clause-none
returns-clause-none g c =
    let o = c.args.object.now in
    place_none o c.get_index_of.result c.args.self.now
    (c.get_index_of.ensures.found ∙ list_any_same (eq-value.it o) (same_object o) _ (same o)
    ∙ ap (list_any (same_object o)) c.self.invariant.kept.keys
    ∙ ap (λ (ss : List SeatData). list_any (same_object o) (map (λ (s : SeatData). s.object) ss)) c.self.view_is)
