use Rattle.std.specs.Prelude.{length}
use Rattle.mama_plans.specs.Orders.{orders_in}
use Rattle.mama_check_queue.proofs.MadeLemmas.{AreMade}
use Rattle.mama_check_queue.proofs.replay.Replay.call_all.Given as goal

-- some callbacks were made, and the rest are to be made
abbrev pub invariant-loop-call : goal.invariant-loop-call
invariant-loop-call l = AreMade (orders_in l.book) l.entry l.object l.fn.calls l.rest l.fn.self.objects l.self.objects l.fn.self.puts l.self.puts

abbrev pub decreases-loop-call : goal.decreases-loop-call
decreases-loop-call l = length l.rest
