use Rattle.std.proofs.Common.{◌≡◌, length}
use Rattle.mama_crew.proofs.listeners.no_listeners.Given as goal

abbrev pub invariant-loop : goal.invariant-loop
invariant-loop g l = length l.made.items ≡ l.counter
