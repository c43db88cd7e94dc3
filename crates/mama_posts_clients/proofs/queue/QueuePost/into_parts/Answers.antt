use Rattle.std.proofs.Common.{◌∙◌, ap, sym, subst}
use Rattle.mama_event.specs.declared.to_bridge.BridgeNote.{BridgeNote}
use Rattle.mama_event.specs.declared.to_timers.TimersNote.{TimersNote}
use Rattle.mama_lane.specs.Values.{PortValue}
use Rattle.mama_dispatch.specs.Hearing.{ArePlanned}
use Rattle.mama_dispatch.specs.Journals.{images_left}
use Rattle.mama_dispatch.specs.Notes.{calls_made}
use Rattle.mama_plans.specs.Orders.{orders_in}
use Rattle.mama_posts_clients.specs.Queue.{QueuePostValue}
use Rattle.mama_posts_clients.proofs.QueueLemmas.{served_as}
use Rattle.mama_posts_clients.proofs.queue.QueuePost.into_parts.Goals as goal

pub returns-clause-calls : goal.returns-clause-calls
returns-clause-calls g c = λ objects planned.
    c.into_notes.ensures.calls (orders_in objects) (c.planned_orders_fit.ensures (orders_in objects) (subst (λ (v : QueuePostValue). ArePlanned (orders_in objects) v.served.seats) (sym c.self.view_is) planned))
    ∙ ap (λ (v : QueuePostValue). calls_made (orders_in objects) v.served.journal) c.self.view_is

pub returns-clause-images : goal.returns-clause-images
returns-clause-images g c = λ objects planned.
    c.into_notes.ensures.images (orders_in objects) (c.planned_orders_fit.ensures (orders_in objects) (subst (λ (v : QueuePostValue). ArePlanned (orders_in objects) v.served.seats) (sym c.self.view_is) planned))
    ∙ ap (λ (v : QueuePostValue). images_left (orders_in objects) v.served.journal) c.self.view_is

pub returns-clause-done : goal.returns-clause-done
returns-clause-done g c = λ objects number seat end.
    served_as objects number c.args.self _ _ _ _ seat end
    (c.into_notes.ensures.taken ∙ ap (λ (v : QueuePostValue). v.served.journal) c.self.view_is)
    (c.into_taker.ensures.taker ∙ ap (λ (v : QueuePostValue). v.inlet.taker) c.self.view_is)
    (ap (λ (p : PortValue BridgeNote). p.put) c.into_ports-to_bridge.ensures.0 ∙ ap (λ (v : QueuePostValue). v.ports.to_bridge.put) c.self.view_is)
    (ap (λ (p : PortValue TimersNote). p.put) c.into_ports-to_bridge.ensures.1 ∙ ap (λ (v : QueuePostValue). v.ports.to_timers.put) c.self.view_is)
