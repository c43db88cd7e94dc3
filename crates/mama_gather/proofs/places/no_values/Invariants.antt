use Rattle.std.proofs.Common.{◌≡◌, None}
use Rattle.std.specs.List.{All}
use Rattle.mama_gather.proofs.places.no_values.Given as goal

abbrev pub invariant-loop : goal.invariant-loop
invariant-loop g l = All (λ value. value ≡ None) l.found.items
