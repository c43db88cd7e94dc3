use Rattle.std.proofs.Common.{◌≡◌, map, take}
use Rattle.std.specs.List.{flat_map}
use Rattle.mama_record.specs.RunView.{images_of}
use Rattle.mama_plans.specs.Plans.{planned_objects}
use Rattle.mama_drive.specs.Scene.{journal_in}
use Rattle.mama_drive.specs.Record.{images_by}
use Rattle.mama_drive.proofs.recording.all_images.Given as goal

abbrev pub invariant-loop-planned : goal.invariant-loop-planned
invariant-loop-planned l = images_of l.found.items ≡ flat_map (images_by l.plans (map journal_in l.seats)) (planned_objects (take l.planned-index l.objects))
