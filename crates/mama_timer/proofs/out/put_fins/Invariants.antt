use Rattle.std.proofs.Common.{◌≡◌, ◌+◌, ◌++◌, map}
use Rattle.mama_journal.specs.Journal.{numbers_below}
use Rattle.mama_timer.specs.Putting.{fin_out}
use Rattle.mama_timer.proofs.out.put_fins.Given as goal

abbrev pub invariant-loop-queue : goal.invariant-loop-queue
invariant-loop-queue g l = record {
  items : l.out.items ≡ l.initial.out.items ++ map fin_out (numbers_below l.queue);
  spare : l.out.spare + l.queue ≡ l.initial.out.spare;
}
