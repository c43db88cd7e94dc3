use Rattle.std.proofs.Common.{◌≡◌, ℕ, List, take}
use Rattle.std.specs.List.{All, flat_map}
use Rattle.mama_event.specs.declared.to_queue.QueueNote.{QueueNote}
use Rattle.mama_record.specs.RunView.{images_of}
use Rattle.mama_plans.specs.Plans.{planned_object}
use Rattle.mama_gather.specs.Places.{images_by}
use Rattle.mama_shown.specs.Last.{ReadsLast}
use Rattle.mama_shown.proofs.images.all_images.Given as goal

abbrev pub invariant-loop-planned : goal.invariant-loop-planned
invariant-loop-planned g l = (journals : List (List (ℕ × QueueNote))) → All (ReadsLast l.plans journals) l.initial.readers.items
    → All (ReadsLast l.plans journals) l.readers.items × (images_of l.found.items ≡ flat_map (λ p. images_by l.plans journals (planned_object p)) (take l.planned-index l.objects))
