use Rattle.std.proofs.Common.{List, map, sym, ◌∙◌, ap}
use Rattle.std.proofs.lemmas.List.{take_all}
use Rattle.std.proofs.lemmas.List.Folds.{flat_map-map}
use Rattle.std.specs.List.{flat_map}
use Rattle.mama_record.specs.RunView.{images_of}
use Rattle.mama_rules_rounds.specs.Client.{Planned}
use Rattle.mama_plans.specs.Plans.{planned_object}
use Rattle.mama_gather.specs.Left.{events_by}
use Rattle.mama_gather.specs.Places.{images_by}
use Rattle.mama_gather.proofs.Imaging.{one_more}
use Rattle.mama_gather.proofs.images.all_images.Goals as goal

pub loop-planned-preserved : goal.loop-planned-preserved
loop-planned-preserved g c =
    one_more (λ p. images_by c.args.plans.now (map events_by c.args.queues.now) (planned_object p)) c.objects-objects.result.now c.loop-planned.planned-index c.planned-item.result c.planned-item.result
    (images_of c.loop-planned.found.items) (images_of c.add_image_of.new.found.items) c.loop-planned-test.true c.planned-item.is c.loop-planned.invariant c.in_ok-add_image_of.ensures

pub returns : goal.returns
returns g c =
    let found = images_by c.args.plans.now (map events_by c.args.queues.now) in
    let objects = c.objects-objects.result.now in
    c.loop-planned.invariant
    ∙ ap (flat_map (λ p. found (planned_object p))) (take_all c.loop-planned.planned-index objects c.loop-planned-test.false)
    ∙ sym (flat_map-map found planned_object objects)
    ∙ ap (λ (ps : List Planned). flat_map found ps) c.objects-objects.ensures
