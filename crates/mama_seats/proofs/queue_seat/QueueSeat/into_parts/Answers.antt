use Rattle.std.specs.Arc.{arc_value}
use Rattle.std.specs.Prelude.{map}
use Rattle.std.proofs.Common.{ℕ, List, ap, ◌∙◌}
use Rattle.mama_event.specs.declared.ids.ObjectId.{ObjectId}
use Rattle.mama_event.specs.declared.order.Order.{Order}
use Rattle.mama_rules_queue.specs.Queue.{deeds, calls_of}
use Rattle.mama_rules_rounds.specs.Told.{noted}
use Rattle.mama_seats.specs.Server.{Server}
use Rattle.mama_plans.specs.Orders.{orders_in}
use Rattle.mama_seats.specs.Heard.{group_lists, watch_lists}
use Rattle.mama_seats.proofs.KeptLemmas.{parts_heard}
use Rattle.mama_seats.proofs.queue_seat.QueueSeat.into_parts.Goals as goal

pub returns-clause-calls : goal.returns-clause-calls
returns-clause-calls c = λ o.
    let orders : ObjectId → ℕ → List Order = orders_in (arc_value c.self.inside.plans) in
    c.into_callbacks-journal.ensures.calls orders (c.planned_orders_fit.ensures orders c.self.invariant.0) o
    ∙ ap (λ (s : Server). map noted (calls_of o (deeds (orders_in s.objects) s.journal))) c.self.view_is

pub returns-clause-groups : goal.returns-clause-groups
returns-clause-groups c =
    parts_heard _ c.into_parts.result.items c.self.inside.groups c.into_parts.ensures
    ∙ c.self.invariant.1.groups_heard
    ∙ ap (λ (s : Server). group_lists (orders_in s.objects) s.heard s.groups) c.self.view_is

pub returns-clause-watches : goal.returns-clause-watches
returns-clause-watches c =
    c.into_notes.ensures
    ∙ c.self.invariant.1.watches_noted
    ∙ ap (λ (s : Server). watch_lists (orders_in s.objects) s.journal s.watches) c.self.view_is
