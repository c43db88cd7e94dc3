use Rattle.std.proofs.Common.{◌≡◌, take}
use Rattle.mama_record.specs.RunView.{groups_of}
use Rattle.mama_replay.proofs.copies.groups_in.Given as goal

abbrev pub invariant-loop-group : goal.invariant-loop-group
invariant-loop-group l = groups_of l.copy.items ≡ groups_of (take l.group-index l.groups)
