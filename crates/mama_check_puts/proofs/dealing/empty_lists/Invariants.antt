use Rattle.std.proofs.Common.{[], map}
use Rattle.mama_check_puts.specs.Puts.{AreLists}
use Rattle.mama_check_puts.proofs.dealing.empty_lists.Given as goal

abbrev pub invariant-loop : goal.invariant-loop
invariant-loop g l = AreLists (map (λ list. list.items) l.lists.items) l.counter (λ n. [])
