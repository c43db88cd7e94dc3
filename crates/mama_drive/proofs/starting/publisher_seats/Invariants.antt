use Rattle.std.proofs.Common.{◌≡◌, ◌++◌, drop}
use Rattle.mama_drive.specs.Start.{senders_from}
use Rattle.mama_drive.proofs.starting.publisher_seats.Given as goal

abbrev pub invariant-loop-number : goal.invariant-loop-number
invariant-loop-number l = l.seats.items ++ senders_from l.number (drop l.number l.parts) ≡ senders_from 0 l.parts
