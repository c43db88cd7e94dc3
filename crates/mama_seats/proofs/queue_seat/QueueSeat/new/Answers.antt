use Rattle.std.specs.Arc.{arc_value}
use Rattle.std.specs.Prelude.{None}
use Rattle.std.proofs.Common.{◌≡◌, ℕ, List, [], length, map, arith, ap, sym, subst, ◌∙◌}
use Rattle.mama_event.specs.declared.group.GroupRow.{GroupRow}
use Rattle.mama_event.specs.declared.ids.ObjectId.{ObjectId}
use Rattle.mama_event.specs.declared.order.Order.{Order}
use Rattle.mama_event.specs.declared.to_queue.QueueNote.{QueueNote}
use Rattle.mama_event.specs.declared.to_queue.ToQueue.{ToQueue}
use Rattle.mama_event.specs.declared.watch.WatchRow.{WatchRow}
use Rattle.mama_rules_rounds.specs.Client.{Planned}
use Rattle.mama_dispatch.specs.Hearing.{ArePlanned}
use Rattle.mama_dispatch.specs.Served.{Served}
use Rattle.mama_timeout.specs.Table.{TableData}
use Rattle.mama_plans.specs.Orders.{orders_in}
use Rattle.mama_seats.specs.Heard.{AreKept, group_in, watch_in}
use Rattle.mama_seats.specs.Lane.{lane_notes}
use Rattle.mama_seats.specs.Server.{Server}
use Rattle.mama_seats.proofs.KeptLemmas.{kept_begun, groups_begun, watches_in_new}
use Rattle.mama_seats.proofs.queue_seat.QueueSeat.new.Goals as goal

abbrev begun : List Planned → List (ℕ × QueueNote) → List (ℕ × GroupRow) → List (ℕ × WatchRow) → List (ℕ × ToQueue ObjectId) → Server
begun objects journal groups watches lane = record { objects = objects; groups = groups; watches = watches; journal = journal; heard = journal; lane = lane_notes lane }

pub returns : goal.returns
returns c =
    let objects : List Planned = arc_value c.args.plans in
    let rows : List (ℕ × GroupRow) = c.args.groups.items in
    let watched : List (ℕ × WatchRow) = c.args.watches.items in
    let groups : List (ℕ × GroupRow) = map group_in c.in_ok-new.field-0 in
    let watches : List (ℕ × WatchRow) = map watch_in c.in_ok-new-2.field-0.watches in
    let same : length rows ≡ length c.in_ok-listeners.listeners.items = omega (arith, ap length c.deref.ensures.value, c.in_ok-listeners.ensures) in
    ap (λ (s : Served). begun objects s.journal groups watches c.new-2.result.items) c.new.ensures
    ∙ ap (λ (gs : List (ℕ × GroupRow)). begun objects [] gs watches c.new-2.result.items) (groups_begun rows _ c.in_ok-listeners.listeners.items c.in_ok-new.field-0 c.in_ok-new.ensures same)
    ∙ ap (λ (ws : List (ℕ × WatchRow)). begun objects [] rows ws c.new-2.result.items) (ap (λ (t : TableData). map watch_in t.watches) c.in_ok-new-2.ensures ∙ watches_in_new watched)
    ∙ ap (begun objects [] rows watched) c.new-2.ensures.items

pub invariant_of-result : goal.invariant_of-result
invariant_of-result c =
    let orders : ObjectId → ℕ → List Order = orders_in (arc_value c.args.plans) in (
      subst (λ (s : Served). ArePlanned orders s.seats) (sym c.new.ensures) (λ object. tt),
      subst (λ (s : Served). AreKept orders s.journal None c.in_ok-new.field-0 c.in_ok-new-2.field-0.watches) (sym c.new.ensures)
          (kept_begun orders c.args.groups.items _ c.args.watches.items c.in_ok-new.field-0 c.in_ok-new-2.field-0.watches c.in_ok-new.ensures (ap (λ (t : TableData). t.watches) c.in_ok-new-2.ensures)),
    )
