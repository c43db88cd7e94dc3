use Rattle.std.proofs.Common.{◌≡◌}
use Rattle.mama_tests_play.proofs.watching.Watch.look_by.Given as goal

abbrev pub invariant-loop : goal.invariant-loop
invariant-loop g l = l.reader.queue ≡ l.fn.reader.queue
