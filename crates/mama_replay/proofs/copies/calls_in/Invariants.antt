use Rattle.std.proofs.Common.{◌≡◌, take}
use Rattle.mama_replay.proofs.copies.calls_in.Given as goal

abbrev pub invariant-loop-call : goal.invariant-loop-call
invariant-loop-call l = l.copy.items ≡ take l.call-index l.calls
