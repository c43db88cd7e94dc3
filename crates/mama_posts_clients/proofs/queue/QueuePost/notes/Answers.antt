use Rattle.std.proofs.Common.{◌∙◌, ap, sym, subst}
use Rattle.mama_dispatch.specs.Hearing.{ArePlanned}
use Rattle.mama_dispatch.specs.Journals.{notes_of}
use Rattle.mama_rules_queue.specs.Queue.{deeds}
use Rattle.mama_plans.specs.Orders.{orders_in}
use Rattle.mama_posts_clients.specs.Queue.{QueuePostValue}
use Rattle.mama_posts_clients.proofs.queue.QueuePost.notes.Goals as goal

pub returns : goal.returns
returns g c = λ objects planned.
    c.notes.ensures (orders_in objects) (c.planned_orders_fit.ensures (orders_in objects) (subst (λ (v : QueuePostValue). ArePlanned (orders_in objects) v.served.seats) (sym c.self.view_is) planned))
    ∙ ap (λ (v : QueuePostValue). notes_of c.args.object (deeds (orders_in objects) v.served.journal)) c.self.view_is
