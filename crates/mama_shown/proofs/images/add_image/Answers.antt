use Rattle.std.specs.Prelude.{slice_index_or, [], ◌++◌}
use Rattle.std.proofs.Common.{◌∙◌, ap}
use Rattle.std.proofs.lemmas.Result.{on_ok_weaker, IfOk-from_err}
use Rattle.mama_record.specs.RunView.{images_of}
use Rattle.mama_shown.proofs.Imaging.{image_as, on_ok_always}
use Rattle.mama_shown.proofs.images.add_image.Goals as goal

pub returns-clause-readers : goal.returns-clause-readers
returns-clause-readers g c = on_ok_always c.add_found.result c.in_ok-image.ensures.readers

pub returns-clause-found : goal.returns-clause-found
returns-clause-found g c =
    on_ok_weaker c.add_found.result
    (λ more journals all.
    more ∙ ap (λ images. images_of c.args.found.now.items ++ images)
    (image_as c.args.plans.now (slice_index_or journals c.args.queue []) c.args.sub c.in_ok-image.image (c.in_ok-image.ensures.image journals all)))
    c.add_found.ensures

pub returns-in_err-image-clause-readers : goal.returns-in_err-image-clause-readers
returns-in_err-image-clause-readers g c = IfOk-from_err c.from_residual.result _ c.from_residual.ensures.0

pub returns-in_err-image-clause-found : goal.returns-in_err-image-clause-found
returns-in_err-image-clause-found g c = IfOk-from_err c.from_residual.result _ c.from_residual.ensures.0
