use Rattle.mama_check_queue.proofs.ServeLemmas.{AreServed, queue_of}
use Rattle.mama_check_queue.proofs.serving.serve_by.Given as goal

-- the journal was served this far
abbrev pub invariant-loop-entry : goal.invariant-loop-entry
invariant-loop-entry l =
    AreServed (queue_of l.plans l.groups l.watches l.journal) l.entry l.fins l.replay.objects l.replay.puts l.lists.groups l.lists.watches.watches
