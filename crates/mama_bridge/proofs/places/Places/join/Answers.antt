use Rattle.std.proofs.Common.{rules, ◌||◌, sym, ◌∙◌, ap, List, ◌++◌, ◌∷◌, [], Some, subst}
use Rattle.mama_event.specs.Object.{same_sub}
use Rattle.mama_bridge.specs.Placed.{Placed, Indexed}
use Rattle.mama_bridge.specs.Ids.{is_sub_among}
use Rattle.mama_bridge.specs.declared.places.Place.{Place}
use Rattle.std.specs.declared.option.Option.{Option}
use Rattle.mama_bridge.proofs.PlaceLemmas.{noted_more, indexed_more, indexed_push}
use Rattle.mama_bridge.proofs.places.Places.join.Goals as goal

pub invariant_of-self-then-not-ended : goal.invariant_of-self-then-not-ended
invariant_of-self-then-not-ended c =
    let fresh = ap (λ (p : Placed). is_sub_among p.joined c.args.place.sub) c.self.view_is ∙ c.requires in
    subst (λ (entries : List (Option Place)). Indexed c.insert.new.self entries) (sym (c.push_reserved.ensures.items ∙ ap (λ (es : List (Option Place)). es ++ Some c.args.place ∷ []) c.reserve.ensures.items))
    (indexed_push c.self.inside.indexes c.insert.new.self c.self.inside.entries.items c.args.place c.len.result (search rules) c.in_ok-insert.ensures.updates.0 fresh c.self.invariant)

pub invariant_of-self-else-not-ended : goal.invariant_of-self-else-not-ended
invariant_of-self-else-not-ended c =
    let fresh = ap (λ (p : Placed). is_sub_among p.joined c.args.place.sub) c.self.view_is ∙ c.requires in
    subst (λ (entries : List (Option Place)). Indexed c.insert.new.self entries) (sym c.reserve.ensures.items)
    (indexed_more c.self.inside.indexes c.insert.new.self c.self.inside.entries.items c.args.place.sub c.len.result c.in_ok-insert.ensures.updates.0 fresh c.self.invariant)

pub returns-then-not-ended-clause-joined : goal.returns-then-not-ended-clause-joined
returns-then-not-ended-clause-joined c one =
    noted_more c.self.inside.indexes c.insert.new.self c.args.place.sub c.len.result c.in_ok-insert.ensures.updates.0 one
    ∙ ap (λ (p : Placed). is_sub_among p.joined one || same_sub c.args.place.sub one) c.self.view_is

pub returns-else-not-ended-clause-joined : goal.returns-else-not-ended-clause-joined
returns-else-not-ended-clause-joined c one =
    noted_more c.self.inside.indexes c.insert.new.self c.args.place.sub c.len.result c.in_ok-insert.ensures.updates.0 one
    ∙ ap (λ (p : Placed). is_sub_among p.joined one || same_sub c.args.place.sub one) c.self.view_is
