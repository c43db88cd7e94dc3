use Rattle.std.proofs.Common.{◌≡◌, length}
use Rattle.mama_seats.proofs.queue_seat.listeners_of.Given as goal

abbrev pub invariant-loop-number : goal.invariant-loop-number
invariant-loop-number l = l.number-index ≡ length l.listeners.items
