use Rattle.std.proofs.Common.{◌≡◌, ◌++◌, map}
use Rattle.mama_check.specs.Causal.{of_each, client_needs}
use Rattle.mama_check.proofs.edges.add_clients.Given as goal

-- what so many need is added
abbrev pub invariant-loop-lines : goal.invariant-loop-lines
invariant-loop-lines l = map (λ actor. actor.items) l.needs.items ≡ map (λ actor. actor.items) l.initial.needs.items ++ of_each l.lines-index (client_needs l.script)
