use Rattle.std.proofs.Common.{◌≡◌, List, sym, ◌∙◌, ap}
use Rattle.std.proofs.lemmas.List.{take_all}
use Rattle.std.proofs.lemmas.Result.{IfOk-from_err}
use Rattle.std.proofs.lemmas.List.Folds.{flat_map-map}
use Rattle.std.specs.List.{flat_map}
use Rattle.mama_record.specs.RunView.{images_of}
use Rattle.mama_rules_rounds.specs.Client.{Planned}
use Rattle.mama_plans.specs.Plans.{planned_object}
use Rattle.mama_gather.specs.Places.{images_by}
use Rattle.mama_gather.proofs.Imaging.{one_more}
use Rattle.mama_shown.proofs.images.all_images.Goals as goal

pub loop-planned-preserved : goal.loop-planned-preserved
loop-planned-preserved g c = λ journals first.
    let before = c.loop-planned.invariant journals first in (
      c.in_ok-add_image_of.ensures.readers journals before.0,
      one_more (λ p. images_by c.args.plans.now journals (planned_object p)) c.objects-objects.result.now c.loop-planned.planned-index c.planned-item.result c.planned-item.result
          (images_of c.loop-planned.found.items) (images_of c.add_image_of.new.found.items) c.loop-planned-test.true c.planned-item.is before.1 (c.in_ok-add_image_of.ensures.found journals before.0),
    )

pub loop-planned-init : goal.loop-planned-init
loop-planned-init g c = λ journals first. (first, ap images_of c.new-found.ensures.items)

pub returns : goal.returns
returns g c = λ journals first.
    let found = images_by c.args.plans.now journals in
    let objects = c.objects-objects.result.now in
    (c.loop-planned.invariant journals first).1
    ∙ ap (flat_map (λ p. found (planned_object p))) (take_all c.loop-planned.planned-index objects c.loop-planned-test.false)
    ∙ sym (flat_map-map found planned_object objects)
    ∙ ap (λ (ps : List Planned). flat_map found ps) c.objects-objects.ensures

pub returns-in_err-add_image_of : goal.returns-in_err-add_image_of
returns-in_err-add_image_of g c = IfOk-from_err c.from_residual.result _ c.from_residual.ensures.0
