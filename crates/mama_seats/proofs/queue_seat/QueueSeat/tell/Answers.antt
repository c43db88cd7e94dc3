use Rattle.std.specs.Arc.{arc_value}
use Rattle.std.specs.Prelude.{Option, Some}
use Rattle.std.proofs.Common.{◌≡◌, ℕ, ◌-◌, List, length, map, drop, arith, ap, sym, subst, ◌∙◌}
use Rattle.std.proofs.lemmas.List.{take_rest}
use Rattle.mama_event.specs.declared.callback.CallNote.{CallNote}
use Rattle.mama_event.specs.declared.group.GroupRow.{GroupRow}
use Rattle.mama_event.specs.declared.ids.ObjectId.{ObjectId}
use Rattle.mama_event.specs.declared.ids.ObjectId.TheVariants.{Sub}
use Rattle.mama_event.specs.declared.ids.SubId.{SubId}
use Rattle.mama_event.specs.declared.order.Order.{Order}
use Rattle.mama_event.specs.declared.to_queue.QueueNote.{QueueNote}
use Rattle.mama_rules_queue.specs.Queue.{deeds}
use Rattle.mama_dispatch.specs.Journals.{notes_of}
use Rattle.mama_group.specs.Table.{GroupData, AllHeard}
use Rattle.mama_timeout.specs.Table.{WatchData}
use Rattle.mama_plans.specs.Orders.{orders_in}
use Rattle.mama_seats.specs.Heard.{AreKept, watch_in}
use Rattle.mama_seats.specs.Lane.{lane_notes}
use Rattle.mama_seats.specs.Server.{Server, all_told}
use Rattle.mama_seats.specs.declared.queue_seat.QueueSeat.TheInside.{Inside}
use Rattle.mama_seats.proofs.KeptLemmas.{groups_in_told, kept_told}
use Rattle.mama_seats.proofs.queue_seat.QueueSeat.tell.Goals as goal

-- the seat with these groups, which were told all
abbrev with_groups : Inside → List (ℕ × GroupRow) → Server
with_groups s groups = record {
  objects = arc_value s.plans;
  groups = groups;
  watches = map watch_in s.watches.watches;
  journal = s.serving.journal;
  heard = s.serving.journal;
  lane = lane_notes s.lane.items;
}

pub returns-clause-ok : goal.returns-clause-ok
returns-clause-ok c =
    ap (with_groups c.self.inside) (groups_in_told c.in-Some.sub _ c.self.inside.groups c.after.new.self c.in_ok-after.ensures.ok) ∙ ap all_told c.self.view_is

pub invariant_of-self : goal.invariant_of-self
invariant_of-self c =
    let orders : ObjectId → ℕ → List Order = orders_in (arc_value c.self.inside.plans) in (
      c.self.invariant.0,
      subst (λ (gs : List GroupData). AreKept orders c.self.inside.serving.journal c.self.inside.untold gs c.self.inside.watches.watches) (sym c.in_err-after.ensures.err) c.self.invariant.1,
    )

pub invariant_of-self-2 : goal.invariant_of-self-2
invariant_of-self-2 c =
    let orders : ObjectId → ℕ → List Order = orders_in (arc_value c.self.inside.plans) in
    let journal : List (ℕ × QueueNote) = c.self.inside.serving.journal in
    let sub : SubId = c.in-Some.sub in
    let count : ℕ = c.in-Some.calls in
    let old : List GroupData = c.self.inside.groups in
    let new : List GroupData = c.after.new.self in
    let watches : List WatchData = c.self.inside.watches.watches in
    let notes : List CallNote = c.notes-notes.result.now in
    let first : ℕ = c.saturating_sub-first.result in
    let are : notes ≡ notes_of (Sub sub) (deeds orders journal) = c.notes-notes.ensures orders (c.planned_orders_fit.ensures orders c.self.invariant.0) in
    let from : first ≡ length notes - count = omega (arith, c.saturating_sub-first.ensures) in
    let kept : AreKept orders journal (Some (sub, count)) old watches = subst (λ (u : Option (SubId × ℕ)). AreKept orders journal u old watches) c.in-Some.is c.self.invariant.1 in (
      c.self.invariant.0,
      kept_told orders journal sub count old new watches (c.groups_hear_turn_by_turn.ensures.heard orders) (c.groups_hear_turn_by_turn.ensures.unheard orders) kept
          (subst (λ (l : List CallNote). AllHeard sub (map (λ (n : CallNote). n.call) (drop (length l - count) l)) old new) are
          (subst (λ (k : ℕ). AllHeard sub (map (λ (n : CallNote). n.call) (drop k notes)) old new) from
          (subst (λ (l : List CallNote). AllHeard sub (map (λ (n : CallNote). n.call) l) old new) (take_rest notes first) c.in_ok-after.ensures.ok))),
    )
