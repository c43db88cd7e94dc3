use Rattle.std.proofs.Common.{map, ap, sym, ◌∙◌}
use Rattle.mama_dispatch.specs.Noted.{lists_in}
use Rattle.mama_dispatch.proofs.CallbackLemmas.{object_in, objects_listed}
use Rattle.mama_dispatch.proofs.callbacks.Callbacks.of.Goals as goal

pub invariant_of-result : goal.invariant_of-result
invariant_of-result g c =
    c.into_parts-places.ensures.index ∙ objects_listed c.args.seats
    ∙ sym (ap (map object_in) (c.calls_of_rows.ensures ∙ ap lists_in c.into_parts-places.ensures.rows))
