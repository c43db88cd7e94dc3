use Rattle.std.proofs.Common.{◌≡◌, length}
use Rattle.mama_crew.proofs.listeners.make_listeners.Given as goal

abbrev pub invariant-loop-planned : goal.invariant-loop-planned
invariant-loop-planned g l = length l.made.items ≡ l.clients
