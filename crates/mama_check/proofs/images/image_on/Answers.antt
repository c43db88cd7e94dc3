use Rattle.std.proofs.Common.{◌∙◌}
use Rattle.mama_check_queue.proofs.RecordLemmas.{image_here}
use Rattle.mama_check.proofs.images.image_on.Goals as goal

pub returns-then-queue-served : goal.returns-then-queue-served
returns-then-queue-served c =
    c.image.ensures
    ∙ image_here c.args.plans.now c.args.served.now c.args.queue c.args.sub c.index-served-queue.result c.requires c.if-queue-served.true c.index-served-queue.is
