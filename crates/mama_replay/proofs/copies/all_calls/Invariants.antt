use Rattle.std.proofs.Common.{◌≡◌, take}
use Rattle.mama_record.specs.RunView.{calls_of}
use Rattle.mama_replay.proofs.copies.all_calls.Given as goal

abbrev pub invariant-loop-object : goal.invariant-loop-object
invariant-loop-object l = calls_of l.copy.items ≡ calls_of (take l.object-index l.objects)
