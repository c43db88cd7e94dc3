use Rattle.std.proofs.Common.{◌≡◌, map, take}
use Rattle.std.specs.List.{flat_map}
use Rattle.mama_record.specs.RunView.{images_of}
use Rattle.mama_plans.specs.Plans.{planned_object}
use Rattle.mama_gather.specs.Left.{events_by}
use Rattle.mama_gather.specs.Places.{images_by}
use Rattle.mama_gather.proofs.images.all_images.Given as goal

abbrev pub invariant-loop-planned : goal.invariant-loop-planned
invariant-loop-planned g l = images_of l.found.items ≡ flat_map (λ p. images_by l.plans (map events_by l.queues) (planned_object p)) (take l.planned-index l.objects)
