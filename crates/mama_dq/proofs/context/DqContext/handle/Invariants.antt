use Rattle.mama_dq.proofs.StrategyLemmas.{Handles}
use Rattle.mama_dq.proofs.context.DqContext.handle.Given as goal

abbrev pub invariant-loop-seq : goal.invariant-loop-seq
invariant-loop-seq l = Handles l.seq-iterator l.updates.entries l.fn.from l.sender l.self l.initial.self l.queue.items l.initial.queue.items
