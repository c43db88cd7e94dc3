use Rattle.std.specs.Prelude.{if◌then◌else◌}
use Rattle.std.proofs.Common.{Bool, [], ◌∷◌, ◌++◌, ap, ◌∙◌}
use Rattle.mama_event.specs.contracts.ids.ObjectIdPartialEq.TheImpl.{eq-value}
use Rattle.mama_event.specs.Object.{same_object}
use Rattle.mama_dispatch.proofs.PlaceLemmas.{list_any_same}
use Rattle.mama_dispatch.proofs.Ids.{same_ids}
use Rattle.mama_check_queue.proofs.objects.add_place.Goals as goal

pub returns-clause-ok : goal.returns-clause-ok
returns-clause-ok c =
    let o = c.args.object in
    let keys = c.args.places.now.keys in
    c.in_ok-insert.ensures.keys
    ∙ ap (λ (b : Bool). if b then keys else keys ++ o ∷ []) (list_any_same (eq-value.it o) (same_object o) keys (same_ids o) ∙ c.requires)
