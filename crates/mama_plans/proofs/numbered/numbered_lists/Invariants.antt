use Rattle.std.proofs.Common.{◌≡◌, [], map}
use Rattle.mama_journal.specs.Journal.{numbers_below}
use Rattle.mama_plans.specs.Numbered.{numbered}
use Rattle.mama_plans.proofs.numbered.numbered_lists.Given as goal

abbrev pub invariant-loop-number : goal.invariant-loop-number
invariant-loop-number g l = numbered l.lists.items ≡ map (λ n. (n, [])) (numbers_below l.number)
