use Rattle.std.specs.Vec.{vec_capacity}
use Rattle.std.proofs.Common.{◌≡◌, ◌≤◌, map, length, take, drop}
use Rattle.mama_record.specs.RunView.{calls_of}
use Rattle.mama_plans.specs.Plans.{planned_objects}
use Rattle.mama_drive.specs.Given.{calls_given}
use Rattle.mama_drive.proofs.RecordingLemmas.{AreLeft}
use Rattle.mama_drive.proofs.recording.all_calls.Given as goal

abbrev pub invariant-loop-planned : goal.invariant-loop-planned
invariant-loop-planned l = record {
  moved : calls_of l.calls.items ≡ map (calls_given l.fn.given.items) (planned_objects (take l.planned-index l.objects));
  still : AreLeft l.fn.given.items l.left.items (planned_objects (drop l.planned-index l.objects));
  count : length l.calls.items ≡ l.planned-index;
  room : length l.objects ≤ vec_capacity l.calls;
}
