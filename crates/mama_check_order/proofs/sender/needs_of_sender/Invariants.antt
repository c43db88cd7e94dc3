use Rattle.std.proofs.Common.{take, drop}
use Rattle.mama_check_order.proofs.SenderWalk.{IsHeard}
use Rattle.mama_check_order.proofs.sender.needs_of_sender.Given as goal

-- the journal was heard this far
abbrev pub invariant-loop-entry : goal.invariant-loop-entry
invariant-loop-entry l = IsHeard l.actor l.list l.journal (take l.entry-index l.journal) (drop l.entry-index l.journal) l.left l.needs.items
