use Rattle.std.proofs.Common.{◌∙◌}
use Rattle.mama_check_queue.proofs.RecordLemmas.{calls_here}
use Rattle.mama_check.proofs.objects.calls_on.Goals as goal

pub returns-then-queue-served : goal.returns-then-queue-served
returns-then-queue-served c =
    c.calls.ensures
    ∙ calls_here c.args.plans.now c.args.served.now c.args.planned.now.queue c.args.planned.now.object c.index-served-queue.result c.requires c.if-queue-served.true c.index-served-queue.is
