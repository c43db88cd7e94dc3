use Rattle.std.proofs.Common.{◌≡◌, ◌++◌, drop}
use Rattle.mama_drive.specs.Start.{stands_from}
use Rattle.mama_drive.proofs.starting.client_seats.Given as goal

abbrev pub invariant-loop-number : goal.invariant-loop-number
invariant-loop-number l = l.seats.items ++ stands_from l.queues l.number (drop l.number l.sections) ≡ stands_from l.queues 0 l.sections
