use Rattle.std.proofs.Common.{◌≡◌, take}
use Rattle.mama_event.specs.Publisher.{asked_fields}
use Rattle.mama_publisher.proofs.asked.asked.Given as goal

-- the fids so far are answered
abbrev pub invariant-loop-i : goal.invariant-loop-i
invariant-loop-i l = l.reply ≡ asked_fields (take l.i l.fids) l.held
