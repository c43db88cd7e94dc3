use Rattle.std.proofs.Common.{◌≡◌, take}
use Rattle.mama_record.specs.RunView.{images_of}
use Rattle.mama_replay.proofs.copies.images_in.Given as goal

abbrev pub invariant-loop-sub : goal.invariant-loop-sub
invariant-loop-sub l = images_of l.copy.items ≡ images_of (take l.sub-index l.images)
