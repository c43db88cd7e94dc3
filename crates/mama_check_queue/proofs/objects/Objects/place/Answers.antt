use Rattle.std.specs.Prelude.{position}
use Rattle.std.specs.List.{list_any}
use Rattle.std.proofs.Common.{ap, ◌∙◌}
use Rattle.mama_event.specs.contracts.ids.ObjectIdPartialEq.TheImpl.{eq-value}
use Rattle.mama_event.specs.Object.{same_object}
use Rattle.mama_dispatch.proofs.Ids.{same_ids}
use Rattle.mama_dispatch.proofs.PlaceLemmas.{position_same, list_any_same}
use Rattle.mama_check_queue.specs.Rows.{SeenObjects}
use Rattle.mama_check_queue.proofs.RowLemmas.{place_some, place_within, place_none, as_many}
use Rattle.mama_check_queue.proofs.objects.Objects.place.Goals as goal

pub returns-clause-some : goal.returns-clause-some
returns-clause-some c =
    let o = c.args.object.now in
    place_some o c.get_index_of.result c.args.self.now
    (c.get_index_of.ensures.index ∙ position_same (eq-value.it o) (same_object o) _ (same_ids o) ∙ ap (λ (s : SeenObjects). position (same_object o) s.ids) c.self.view_is)

pub returns-clause-within : goal.returns-clause-within
returns-clause-within c =
    let o = c.args.object.now in
    place_within o c.get_index_of.result c.args.self.now
    (c.get_index_of.ensures.index ∙ position_same (eq-value.it o) (same_object o) _ (same_ids o) ∙ ap (λ (s : SeenObjects). position (same_object o) s.ids) c.self.view_is)
    (as_many c.self.inside.places.keys c.self.inside.rows.items c.args.self.now c.self.invariant c.self.view_is)

pub returns-clause-none : goal.returns-clause-none
returns-clause-none c =
    let o = c.args.object.now in
    place_none o c.get_index_of.result c.args.self.now
    (c.get_index_of.ensures.found ∙ list_any_same (eq-value.it o) (same_object o) _ (same_ids o) ∙ ap (λ (s : SeenObjects). list_any (same_object o) s.ids) c.self.view_is)
