use Rattle.mama_check_queue.proofs.ServeLemmas.{AreFirstServed}
use Rattle.mama_check_queue.proofs.serving.serve_all.Given as goal

-- so many queues were served
abbrev pub invariant-loop-queue : goal.invariant-loop-queue
invariant-loop-queue l = AreFirstServed l.plans l.journals l.groups l.watches l.queue l.all.items
