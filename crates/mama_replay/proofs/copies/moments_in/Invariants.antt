use Rattle.std.proofs.Common.{◌≡◌, take}
use Rattle.mama_record.specs.RunView.{moments_of}
use Rattle.mama_replay.proofs.copies.moments_in.Given as goal

abbrev pub invariant-loop-moments : goal.invariant-loop-moments
invariant-loop-moments l = moments_of l.copy.items ≡ moments_of (take l.moments-index l.clients)
