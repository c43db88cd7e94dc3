use Rattle.std.specs.Prelude.{map}
use Rattle.std.proofs.Common.{ap, ◌∙◌}
use Rattle.mama_rules_queue.specs.Queue.{deeds, calls_of}
use Rattle.mama_rules_rounds.specs.Told.{noted}
use Rattle.mama_plans.specs.Orders.{orders_in}
use Rattle.mama_check_queue.specs.Seen.{SeenData}
use Rattle.mama_check_queue.specs.Served.{ServedData}
use Rattle.mama_check_queue.proofs.served.ServedQueue.calls.Goals as goal

pub returns : goal.returns
returns c =
    c.calls.ensures ∙ ap (λ (s : SeenData). s.calls) (c.self.invariant.seen.each c.args.object.now)
    ∙ ap (λ (s : ServedData). map noted (calls_of c.args.object.now (deeds (orders_in s.objects) s.journal))) c.self.view_is
