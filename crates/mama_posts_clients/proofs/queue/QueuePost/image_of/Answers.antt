use Rattle.std.proofs.Common.{◌∙◌, ap, sym, subst}
use Rattle.std.proofs.lemmas.Result.{IfOk-weaker}
use Rattle.mama_dispatch.specs.Hearing.{ArePlanned}
use Rattle.mama_dispatch.specs.Journals.{context_after, image_in}
use Rattle.mama_plans.specs.Orders.{orders_in}
use Rattle.mama_posts_clients.specs.Queue.{QueuePostValue}
use Rattle.mama_posts_clients.proofs.queue.QueuePost.image_of.Goals as goal

pub returns : goal.returns
returns g c =
    IfOk-weaker c.image_of.result _ _
    (λ found is objects planned.
    is (orders_in objects) (c.planned_orders_fit.ensures (orders_in objects) (subst (λ (v : QueuePostValue). ArePlanned (orders_in objects) v.served.seats) (sym c.self.view_is) planned))
    ∙ ap (λ (v : QueuePostValue). image_in (context_after (orders_in objects) v.served.journal c.args.sub)) c.self.view_is)
    c.image_of.ensures
