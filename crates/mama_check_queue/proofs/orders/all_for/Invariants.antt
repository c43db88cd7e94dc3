use Rattle.std.specs.Prelude.{nat_eq}
use Rattle.indexmap.specs.IndexMap.{get}
use Rattle.mama_check_queue.proofs.OrderLemmas.{AreGiven}
use Rattle.mama_check_queue.proofs.orders.all_for.Given as goal

abbrev pub invariant-loop-row : goal.invariant-loop-row
invariant-loop-row l = AreGiven (λ call. get nat_eq l.by_call call) l.rows l.row-index
