use Rattle.std.proofs.Common.{◌≡◌, [], map}
use Rattle.mama_journal.specs.Journal.{numbers_below}
use Rattle.mama_plans.proofs.lists.empty_lists.Given as goal

abbrev pub invariant-loop-queue : goal.invariant-loop-queue
invariant-loop-queue g l = map (λ list. list.items) l.lists.items ≡ map (λ n. []) (numbers_below l._queue)
