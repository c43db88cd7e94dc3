use Rattle.mama_dispatch.proofs.NoteLemmas.{none_serving}
use Rattle.mama_dispatch.proofs.serving.Serving.new.Goals as goal

pub invariant_of-result : goal.invariant_of-result
invariant_of-result g c = none_serving _ _ _ _ c.new-2.ensures.items c.new.ensures c.new-3.ensures.items c.new-4.ensures.items
