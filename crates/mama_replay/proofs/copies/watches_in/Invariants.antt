use Rattle.std.proofs.Common.{◌≡◌, take}
use Rattle.mama_record.specs.RunView.{watches_of}
use Rattle.mama_replay.proofs.copies.watches_in.Given as goal

abbrev pub invariant-loop-watch : goal.invariant-loop-watch
invariant-loop-watch l = watches_of l.copy.items ≡ watches_of (take l.watch-index l.watches)
