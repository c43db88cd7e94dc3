use Rattle.std.proofs.Common.{◌≡◌, take}
use Rattle.mama_replay.proofs.copies.queue_in.Given as goal

abbrev pub invariant-loop-port : goal.invariant-loop-port
invariant-loop-port l = l.copy.items ≡ take l.port-index l.journal
