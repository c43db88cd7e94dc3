use Rattle.std.proofs.Common.{◌∙◌}
use Rattle.mama_record.specs.RunView as view
use Rattle.mama_check.proofs.ImageWalk.{at_start, at_next, first_here, at_end}
use Rattle.mama_check.proofs.images.first_of_images.Goals as goal

pub loop-k-init : goal.loop-k-init
loop-k-init c =
    at_start c.args.script.now c.args.run.now c.objects-objects.result.now (view.images_of c.images-left.result.now) c.requires.formed (c.objects-objects.ensures ∙ c.requires.plans) c.images-left.ensures

pub loop-k-preserved : goal.loop-k-preserved
loop-k-preserved c =
    at_next c.args.script.now c.args.run.now c.args.plans.now c.args.served.now c.objects-objects.result.now c.loop-k.k c.index-objects-k.result (view.images_of c.loop-k.left.now)
    c.objects-objects.ensures c.requires.plans c.requires.served.journals c.loop-k-test.true c.index-objects-k.is c.loop-k.invariant (view.images_of c.in-Some.rest.now)
    c.in-Some.ensures.first c.in-Some.ensures.rest

pub returns-in-None : goal.returns-in-None
returns-in-None c =
    first_here c.args.script.now c.args.run.now c.args.plans.now c.args.served.now c.objects-objects.result.now c.loop-k.k c.index-objects-k.result (view.images_of c.loop-k.left.now)
    c.objects-objects.ensures c.requires.plans c.requires.served.journals c.loop-k-test.true c.index-objects-k.is c.loop-k.invariant
    c.in-None.ensures.none

pub returns : goal.returns
returns c =
    at_end c.args.script.now c.args.run.now c.objects-objects.result.now c.loop-k.k _ (view.images_of c.loop-k.left.now) (c.objects-objects.ensures ∙ c.requires.plans) c.loop-k-test.false c.loop-k.invariant
