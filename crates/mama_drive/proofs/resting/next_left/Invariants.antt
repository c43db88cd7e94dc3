use Rattle.std.proofs.Common.{◌≡◌, ℕ, ◌<◌, ◌≤◌, [], map, get_or}
use Rattle.mama_seats.specs.Sender.{steps_in}
use Rattle.mama_drive.proofs.resting.next_left.Given as goal

abbrev pub invariant-loop-next : goal.invariant-loop-next
invariant-loop-next l = (n : ℕ) → n < l.next → l.from ≤ n → get_or (map steps_in l.seats) n [] ≡ []
