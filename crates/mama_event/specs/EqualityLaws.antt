-- inner: the tests of plain data decide whether both sides are one, so they are equivalences.
use Rattle.std.specs.Prelude.{◌≡◌, Bool, true, ◌&&◌, List, refl}
use Rattle.std.specs.Bool.{Decides}
use Rattle.std.specs.Cmp.{IsEquivalence, decided}
use Rattle.std.specs.Cmp.Lexicographic.{pointwise_decides}
use Rattle.std.proofs.Common.{ap, sym, true≢false}
use Rattle.std.proofs.lemmas.Bool.{and_parts, and_from}
use Rattle.std.proofs.lemmas.Bool.Decides.{Decides-eqb}
use Rattle.std.proofs.lemmas.Slice.Eq.{bytes_eq-Decides}
use Rattle.mama_msg.specs.EqualityLaws.{same_message-Decides}
use Rattle.mama_link.specs.EqualityLaws.{same_rows-Decides}
use Rattle.mama_event.specs.declared.market.MsgKind.{MsgKind}
use Rattle.mama_event.specs.declared.market.MsgKind.TheVariants.{Initial, Update, Recap}
use Rattle.mama_event.specs.declared.market.Quality.{Quality}
use Rattle.mama_event.specs.declared.market.Quality.TheVariants as quality
use Rattle.mama_event.specs.declared.market.SubKind.{SubKind}
use Rattle.mama_event.specs.declared.market.SubKind.TheVariants as sub_kind
use Rattle.mama_event.specs.declared.market.MarketMsg.{MarketMsg}
use Rattle.mama_event.specs.declared.shape.Strategy.{Strategy}
use Rattle.mama_event.specs.declared.shape.Strategy.TheVariants as strategy
use Rattle.mama_event.specs.declared.order.Order.{Order}
use Rattle.mama_event.specs.declared.order.Order.TheVariants as order
use Rattle.mama_event.specs.declared.order.PlanRow.{PlanRow}
use Rattle.mama_event.specs.declared.callback.Callback.{Callback}
use Rattle.mama_event.specs.declared.callback.Callback.TheVariants as call
use Rattle.mama_event.specs.declared.callback.CallNote.{CallNote}
use Rattle.mama_event.specs.declared.wire.WireMsg.{WireMsg}
use Rattle.mama_event.specs.declared.wire.PieceMsg.{PieceMsg}
use Rattle.mama_event.specs.declared.to_publisher.PublisherNote.{PublisherNote}
use Rattle.mama_event.specs.declared.to_publisher.PublisherNote.TheVariants as asked
use Rattle.mama_event.specs.declared.publisher_entry.PublisherEntry.{PublisherEntry}
use Rattle.mama_event.specs.declared.publisher_entry.PublisherEntry.TheVariants as entry
use Rattle.mama_event.specs.declared.to_queue.Make.{Make}
use Rattle.mama_event.specs.declared.to_queue.Make.TheVariants as make
use Rattle.mama_event.specs.declared.to_queue.QueueNote.{QueueNote}
use Rattle.mama_event.specs.declared.to_queue.QueueNote.TheVariants as queued
use Rattle.mama_event.specs.declared.to_bridge.SubTerms.{SubTerms}
use Rattle.mama_event.specs.declared.to_bridge.InboxTerms.{InboxTerms}
use Rattle.mama_event.specs.declared.to_bridge.BridgeNote.{BridgeNote}
use Rattle.mama_event.specs.declared.to_bridge.BridgeNote.TheVariants as bridged
use Rattle.mama_event.specs.declared.ids.SubId.{SubId}
use Rattle.mama_event.specs.declared.group.GroupRow.{GroupRow}
use Rattle.mama_event.specs.declared.group.GroupState.{GroupState}
use Rattle.mama_event.specs.declared.group.GroupState.TheVariants as state
use Rattle.mama_event.specs.declared.group.GroupNote.{GroupNote}
use Rattle.mama_event.specs.declared.group.GroupNote.TheVariants as grouped
use Rattle.mama_event.specs.declared.watch.WatchRow.{WatchRow}
use Rattle.mama_event.specs.declared.watch.WatchNote.{WatchNote}
use Rattle.mama_event.specs.declared.watch.WatchNote.TheVariants as watched
use Rattle.mama_event.specs.declared.ids.TimerId.{TimerId}
use Rattle.mama_event.specs.declared.ids.InboxId.{InboxId}
use Rattle.mama_event.specs.declared.ids.ObjectId.{ObjectId}
use Rattle.mama_event.specs.declared.ids.ObjectId.TheVariants.{Sub, Timer, Inbox}
use Rattle.mama_event.specs.Object.{same_sub, same_timer, same_inbox, same_object}
use Rattle.mama_event.specs.Equality.{same_kind, same_quality, same_sub_kind, same_strategy, same_make, same_market_msg, same_wire_msg, same_piece_msg, same_order, same_orders, same_plan_row, same_callback, same_call_note, same_members, same_group_row, same_group_note, same_watch_row, same_watch_note, same_sub_terms, same_inbox_terms, same_publisher_note, same_publisher_entry, same_queue_note, same_bridge_note}
use Rattle.mama_event.specs.GroupStates.{same_group_state}

-- two tests decide two facts
and-Decides : {a b : Bool} {P Q : Type 0} → Decides a P → Decides b Q → Decides (a && b) (P × Q)
and-Decides {a} {b} d e = (
  λ h. let parts = and_parts a b h in (d.0 parts.0, e.0 parts.1),
  λ p. and_from a b (d.1 p.0) (e.1 p.1),
)

-- a test decides what its fact is the same as
via : {b : Bool} {P Q : Type 0} → Decides b P → (P → Q) → (Q → P) → Decides b Q
via d there back = (λ h. there (d.0 h), λ q. d.1 (back q))

pub same_sub-Decides : (a b : SubId) → Decides (same_sub a b) (a ≡ b)
same_sub-Decides a b = via (and-Decides (Decides-eqb a.client b.client) (Decides-eqb a.number b.number)) (λ p. λ i. record { client = p.0 i; number = p.1 i }) (λ e. (ap (λ (x : SubId). x.client) e, ap (λ (x : SubId). x.number) e))

pub same_timer-Decides : (a b : TimerId) → Decides (same_timer a b) (a ≡ b)
same_timer-Decides a b = via (and-Decides (Decides-eqb a.client b.client) (Decides-eqb a.number b.number)) (λ p. λ i. record { client = p.0 i; number = p.1 i }) (λ e. (ap (λ (x : TimerId). x.client) e, ap (λ (x : TimerId). x.number) e))

pub same_inbox-Decides : (a b : InboxId) → Decides (same_inbox a b) (a ≡ b)
same_inbox-Decides a b = via (and-Decides (Decides-eqb a.client b.client) (Decides-eqb a.number b.number)) (λ p. λ i. record { client = p.0 i; number = p.1 i }) (λ e. (ap (λ (x : InboxId). x.client) e, ap (λ (x : InboxId). x.number) e))

pub same_object-Decides : (a b : ObjectId) → Decides (same_object a b) (a ≡ b)
same_object-Decides (Sub a) (Sub a') = via (same_sub-Decides a a') (λ p. λ i. Sub (p i)) (λ e. (cc))
same_object-Decides (Timer a) (Timer a') = via (same_timer-Decides a a') (λ p. λ i. Timer (p i)) (λ e. (cc))
same_object-Decides (Inbox a) (Inbox a') = via (same_inbox-Decides a a') (λ p. λ i. Inbox (p i)) (λ e. (cc))
same_object-Decides _ _ = (λ h. absurd (true≢false (sym h)), λ e. cc)

pub same_kind-Decides : (a b : MsgKind) → Decides (same_kind a b) (a ≡ b)
same_kind-Decides Initial Initial = (λ h. refl, λ e. refl)
same_kind-Decides Update Update = (λ h. refl, λ e. refl)
same_kind-Decides Recap Recap = (λ h. refl, λ e. refl)
same_kind-Decides _ _ = (λ h. absurd (true≢false (sym h)), λ e. cc)

pub same_quality-Decides : (a b : Quality) → Decides (same_quality a b) (a ≡ b)
same_quality-Decides quality.Ok quality.Ok = (λ h. refl, λ e. refl)
same_quality-Decides quality.Stale quality.Stale = (λ h. refl, λ e. refl)
same_quality-Decides _ _ = (λ h. absurd (true≢false (sym h)), λ e. cc)

pub same_sub_kind-Decides : (a b : SubKind) → Decides (same_sub_kind a b) (a ≡ b)
same_sub_kind-Decides sub_kind.Market sub_kind.Market = (λ h. refl, λ e. refl)
same_sub_kind-Decides sub_kind.Snapshot sub_kind.Snapshot = (λ h. refl, λ e. refl)
same_sub_kind-Decides sub_kind.Basic sub_kind.Basic = (λ h. refl, λ e. refl)
same_sub_kind-Decides _ _ = (λ h. absurd (true≢false (sym h)), λ e. cc)

pub same_strategy-Decides : (a b : Strategy) → Decides (same_strategy a b) (a ≡ b)
same_strategy-Decides strategy.One strategy.One = (λ h. refl, λ e. refl)
same_strategy-Decides strategy.Two strategy.Two = (λ h. refl, λ e. refl)
same_strategy-Decides _ _ = (λ h. absurd (true≢false (sym h)), λ e. cc)

pub same_make-Decides : (a b : Make) → Decides (same_make a b) (a ≡ b)
same_make-Decides (make.Sub kind cache strategy) (make.Sub kind' cache' strategy') = via (and-Decides (and-Decides (same_sub_kind-Decides kind kind') (Decides-eqb cache cache')) (same_strategy-Decides strategy strategy')) (λ p. λ i. make.Sub (p.0.0 i) (p.0.1 i) (p.1 i)) (λ e. ((cc, cc), cc))
same_make-Decides make.Timer make.Timer = (λ h. refl, λ e. refl)
same_make-Decides make.Inbox make.Inbox = (λ h. refl, λ e. refl)
same_make-Decides _ _ = (λ h. absurd (true≢false (sym h)), λ e. cc)

pub same_market_msg-Decides : (a b : MarketMsg) → Decides (same_market_msg a b) (a ≡ b)
same_market_msg-Decides a b = via (and-Decides (and-Decides (and-Decides (same_kind-Decides a.kind b.kind) (Decides-eqb a.sender b.sender)) (Decides-eqb a.seq b.seq)) (same_message-Decides a.body b.body)) (λ p. λ i. record { kind = p.0.0.0 i; sender = p.0.0.1 i; seq = p.0.1 i; body = p.1 i }) (λ e. (((ap (λ (x : MarketMsg). x.kind) e, ap (λ (x : MarketMsg). x.sender) e), ap (λ (x : MarketMsg). x.seq) e), ap (λ (x : MarketMsg). x.body) e))

pub same_wire_msg-Decides : (a b : WireMsg) → Decides (same_wire_msg a b) (a ≡ b)
same_wire_msg-Decides a b = via (and-Decides (and-Decides (and-Decides (same_kind-Decides a.kind b.kind) (Decides-eqb a.sender b.sender)) (Decides-eqb a.seq b.seq)) (bytes_eq-Decides a.body b.body)) (λ p. λ i. record { kind = p.0.0.0 i; sender = p.0.0.1 i; seq = p.0.1 i; body = p.1 i }) (λ e. (((ap (λ (x : WireMsg). x.kind) e, ap (λ (x : WireMsg). x.sender) e), ap (λ (x : WireMsg). x.seq) e), ap (λ (x : WireMsg). x.body) e))

pub same_piece_msg-Decides : (a b : PieceMsg) → Decides (same_piece_msg a b) (a ≡ b)
same_piece_msg-Decides a b = via (and-Decides (and-Decides (and-Decides (same_kind-Decides a.kind b.kind) (Decides-eqb a.sender b.sender)) (Decides-eqb a.seq b.seq)) (bytes_eq-Decides a.body b.body)) (λ p. λ i. record { kind = p.0.0.0 i; sender = p.0.0.1 i; seq = p.0.1 i; body = p.1 i }) (λ e. (((ap (λ (x : PieceMsg). x.kind) e, ap (λ (x : PieceMsg). x.sender) e), ap (λ (x : PieceMsg). x.seq) e), ap (λ (x : PieceMsg). x.body) e))

pub same_order-Decides : (a b : Order) → Decides (same_order a b) (a ≡ b)
same_order-Decides (order.Stop sub) (order.Stop sub') = via (same_sub-Decides sub sub') (λ p. λ i. order.Stop (p i)) (λ e. (cc))
same_order-Decides (order.Disarm timer) (order.Disarm timer') = via (same_timer-Decides timer timer') (λ p. λ i. order.Disarm (p i)) (λ e. (cc))
same_order-Decides (order.Close inbox) (order.Close inbox') = via (same_inbox-Decides inbox inbox') (λ p. λ i. order.Close (p i)) (λ e. (cc))
same_order-Decides (order.Ask inbox topic fids) (order.Ask inbox' topic' fids') = via (and-Decides (and-Decides (same_inbox-Decides inbox inbox') (Decides-eqb topic topic')) (bytes_eq-Decides fids fids')) (λ p. λ i. order.Ask (p.0.0 i) (p.0.1 i) (p.1 i)) (λ e. (((cc), (cc)), (cc)))
same_order-Decides _ _ = (λ h. absurd (true≢false (sym h)), λ e. cc)

pub same_orders-Decides : (a b : List Order) → Decides (same_orders a b) (a ≡ b)
same_orders-Decides a b = pointwise_decides same_order-Decides a b

pub same_plan_row-Decides : (a b : PlanRow) → Decides (same_plan_row a b) (a ≡ b)
same_plan_row-Decides a b = via (and-Decides (Decides-eqb a.call b.call) (same_order-Decides a.order b.order)) (λ p. λ i. record { call = p.0 i; order = p.1 i }) (λ e. (ap (λ (x : PlanRow). x.call) e, ap (λ (x : PlanRow). x.order) e))

pub same_callback-Decides : (a b : Callback) → Decides (same_callback a b) (a ≡ b)
same_callback-Decides call.Create call.Create = (λ h. refl, λ e. refl)
same_callback-Decides (call.Msg msg quality) (call.Msg msg' quality') = via (and-Decides (same_market_msg-Decides msg msg') (same_quality-Decides quality quality')) (λ p. λ i. call.Msg (p.0 i) (p.1 i)) (λ e. ((cc), (cc)))
same_callback-Decides (call.Gap first to) (call.Gap first' to') = via (and-Decides (Decides-eqb first first') (Decides-eqb to to')) (λ p. λ i. call.Gap (p.0 i) (p.1 i)) (λ e. ((cc), (cc)))
same_callback-Decides (call.Quality quality number) (call.Quality quality' number') = via (and-Decides (same_quality-Decides quality quality') (Decides-eqb number number')) (λ p. λ i. call.Quality (p.0 i) (p.1 i)) (λ e. ((cc), (cc)))
same_callback-Decides (call.RecapRequest sender) (call.RecapRequest sender') = via (Decides-eqb sender sender') (λ p. λ i. call.RecapRequest (p i)) (λ e. (cc))
same_callback-Decides (call.Late sender seq) (call.Late sender' seq') = via (and-Decides (Decides-eqb sender sender') (Decides-eqb seq seq')) (λ p. λ i. call.Late (p.0 i) (p.1 i)) (λ e. ((cc), (cc)))
same_callback-Decides (call.Error code) (call.Error code') = via (Decides-eqb code code') (λ p. λ i. call.Error (p i)) (λ e. (cc))
same_callback-Decides call.Destroy call.Destroy = (λ h. refl, λ e. refl)
same_callback-Decides (call.Tick moment) (call.Tick moment') = via (Decides-eqb moment moment') (λ p. λ i. call.Tick (p i)) (λ e. (cc))
same_callback-Decides (call.Reply body) (call.Reply body') = via (same_message-Decides body body') (λ p. λ i. call.Reply (p i)) (λ e. (cc))
same_callback-Decides _ _ = (λ h. absurd (true≢false (sym h)), λ e. cc)

pub same_call_note-Decides : (a b : CallNote) → Decides (same_call_note a b) (a ≡ b)
same_call_note-Decides a b = via (and-Decides (same_callback-Decides a.call b.call) (same_orders-Decides a.orders b.orders)) (λ p. λ i. record { call = p.0 i; orders = p.1 i }) (λ e. (ap (λ (x : CallNote). x.call) e, ap (λ (x : CallNote). x.orders) e))

pub same_members-Decides : (a b : List SubId) → Decides (same_members a b) (a ≡ b)
same_members-Decides a b = pointwise_decides same_sub-Decides a b

pub same_group_row-Decides : (a b : GroupRow) → Decides (same_group_row a b) (a ≡ b)
same_group_row-Decides a b = via (same_members-Decides a.members b.members) (λ p. λ i. record { members = p i }) (λ e. ap (λ (x : GroupRow). x.members) e)

pub same_group_state-Decides : (a b : GroupState) → Decides (same_group_state a b) (a ≡ b)
same_group_state-Decides state.Waiting state.Waiting = (λ h. refl, λ e. refl)
same_group_state-Decides state.Fresh state.Fresh = (λ h. refl, λ e. refl)
same_group_state-Decides state.Stale state.Stale = (λ h. refl, λ e. refl)
same_group_state-Decides state.Ended state.Ended = (λ h. refl, λ e. refl)
same_group_state-Decides _ _ = (λ h. absurd (true≢false (sym h)), λ e. cc)

pub same_group_note-Decides : (a b : GroupNote) → Decides (same_group_note a b) (a ≡ b)
same_group_note-Decides (grouped.Call sub call) (grouped.Call sub' call') = via (and-Decides (same_sub-Decides sub sub') (same_callback-Decides call call')) (λ p. λ i. grouped.Call (p.0 i) (p.1 i)) (λ e. ((cc), (cc)))
same_group_note-Decides (grouped.State s) (grouped.State s') = via (same_group_state-Decides s s') (λ p. λ i. grouped.State (p i)) (λ e. (cc))
same_group_note-Decides _ _ = (λ h. absurd (true≢false (sym h)), λ e. cc)

pub same_watch_row-Decides : (a b : WatchRow) → Decides (same_watch_row a b) (a ≡ b)
same_watch_row-Decides a b =
    via (and-Decides (same_sub-Decides a.sub b.sub) (and-Decides (same_timer-Decides a.timer b.timer) (and-Decides (Decides-eqb a.retries b.retries) (Decides-eqb a.sender b.sender))))
    (λ p. λ i. record { sub = p.0 i; timer = p.1.0 i; retries = p.1.1.0 i; sender = p.1.1.1 i })
    (λ e. (ap (λ (x : WatchRow). x.sub) e, (ap (λ (x : WatchRow). x.timer) e, (ap (λ (x : WatchRow). x.retries) e, ap (λ (x : WatchRow). x.sender) e))))

pub same_watch_note-Decides : (a b : WatchNote) → Decides (same_watch_note a b) (a ≡ b)
same_watch_note-Decides (watched.Retry count moment) (watched.Retry count' moment') = via (and-Decides (Decides-eqb count count') (Decides-eqb moment moment')) (λ p. λ i. watched.Retry (p.0 i) (p.1 i)) (λ e. ((cc), (cc)))
same_watch_note-Decides (watched.Timeout moment) (watched.Timeout moment') = via (Decides-eqb moment moment') (λ p. λ i. watched.Timeout (p i)) (λ e. (cc))
same_watch_note-Decides _ _ = (λ h. absurd (true≢false (sym h)), λ e. cc)

pub same_sub_terms-Decides : (a b : SubTerms) → Decides (same_sub_terms a b) (a ≡ b)
same_sub_terms-Decides a b = via (and-Decides (and-Decides (and-Decides (and-Decides (and-Decides (Decides-eqb a.topic b.topic) (same_sub_kind-Decides a.kind b.kind)) (Decides-eqb a.queue b.queue)) (Decides-eqb a.cache b.cache)) (Decides-eqb a.recaps b.recaps)) (same_rows-Decides a.faults b.faults)) (λ p. λ i. record { topic = p.0.0.0.0.0 i; kind = p.0.0.0.0.1 i; queue = p.0.0.0.1 i; cache = p.0.0.1 i; recaps = p.0.1 i; faults = p.1 i }) (λ e. (((((ap (λ (x : SubTerms). x.topic) e, ap (λ (x : SubTerms). x.kind) e), ap (λ (x : SubTerms). x.queue) e), ap (λ (x : SubTerms). x.cache) e), ap (λ (x : SubTerms). x.recaps) e), ap (λ (x : SubTerms). x.faults) e))

pub same_inbox_terms-Decides : (a b : InboxTerms) → Decides (same_inbox_terms a b) (a ≡ b)
same_inbox_terms-Decides a b = via (and-Decides (Decides-eqb a.queue b.queue) (same_rows-Decides a.faults b.faults)) (λ p. λ i. record { queue = p.0 i; faults = p.1 i }) (λ e. (ap (λ (x : InboxTerms). x.queue) e, ap (λ (x : InboxTerms). x.faults) e))

pub same_publisher_note-Decides : (a b : PublisherNote) → Decides (same_publisher_note a b) (a ≡ b)
same_publisher_note-Decides (asked.Want sub kind) (asked.Want sub' kind') = via (and-Decides (same_sub-Decides sub sub') (same_kind-Decides kind kind')) (λ p. λ i. asked.Want (p.0 i) (p.1 i)) (λ e. ((cc), (cc)))
same_publisher_note-Decides (asked.Ask inbox fids) (asked.Ask inbox' fids') = via (and-Decides (same_inbox-Decides inbox inbox') (bytes_eq-Decides fids fids')) (λ p. λ i. asked.Ask (p.0 i) (p.1 i)) (λ e. ((cc), (cc)))
same_publisher_note-Decides asked.Settle asked.Settle = (λ h. refl, λ e. refl)
same_publisher_note-Decides asked.Fin asked.Fin = (λ h. refl, λ e. refl)
same_publisher_note-Decides _ _ = (λ h. absurd (true≢false (sym h)), λ e. cc)

pub same_publisher_entry-Decides : (a b : PublisherEntry) → Decides (same_publisher_entry a b) (a ≡ b)
same_publisher_entry-Decides entry.Send entry.Send = (λ h. refl, λ e. refl)
same_publisher_entry-Decides entry.Done entry.Done = (λ h. refl, λ e. refl)
same_publisher_entry-Decides (entry.Took note) (entry.Took note') = via (same_publisher_note-Decides note note') (λ p. λ i. entry.Took (p i)) (λ e. (cc))
same_publisher_entry-Decides _ _ = (λ h. absurd (true≢false (sym h)), λ e. cc)

pub same_queue_note-Decides : (a b : QueueNote) → Decides (same_queue_note a b) (a ≡ b)
same_queue_note-Decides (queued.Create slot object made tag) (queued.Create slot' object' made' tag') = via (and-Decides (Decides-eqb slot slot') (and-Decides (and-Decides (same_object-Decides object object') (same_make-Decides made made')) (same_object-Decides tag tag'))) (λ p. λ i. queued.Create (p.0 i) (p.1.0.0 i) (p.1.0.1 i) (p.1.1 i)) (λ e. ((cc), (((cc), (cc)), (cc))))
same_queue_note-Decides (queued.Deliver slot sub msg) (queued.Deliver slot' sub' msg') = via (and-Decides (and-Decides (Decides-eqb slot slot') (same_sub-Decides sub sub')) (same_market_msg-Decides msg msg')) (λ p. λ i. queued.Deliver (p.0.0 i) (p.0.1 i) (p.1 i)) (λ e. (((cc), (cc)), (cc)))
same_queue_note-Decides (queued.Reply slot inbox body) (queued.Reply slot' inbox' body') = via (and-Decides (and-Decides (Decides-eqb slot slot') (same_inbox-Decides inbox inbox')) (same_message-Decides body body')) (λ p. λ i. queued.Reply (p.0.0 i) (p.0.1 i) (p.1 i)) (λ e. (((cc), (cc)), (cc)))
same_queue_note-Decides (queued.Bad slot sub kind sender seq bytes) (queued.Bad slot' sub' kind' sender' seq' bytes') =
    via (and-Decides (and-Decides (and-Decides (Decides-eqb slot slot') (same_sub-Decides sub sub')) (and-Decides (and-Decides (same_kind-Decides kind kind') (Decides-eqb sender sender')) (Decides-eqb seq seq'))) (bytes_eq-Decides bytes bytes'))
    (λ p. λ i. queued.Bad (p.0.0.0 i) (p.0.0.1 i) (p.0.1.0.0 i) (p.0.1.0.1 i) (p.0.1.1 i) (p.1 i))
    (λ e. ((((cc), (cc)), (((cc), (cc)), (cc))), (cc)))
same_queue_note-Decides (queued.BadReply slot inbox bytes) (queued.BadReply slot' inbox' bytes') = via (and-Decides (and-Decides (Decides-eqb slot slot') (same_inbox-Decides inbox inbox')) (bytes_eq-Decides bytes bytes')) (λ p. λ i. queued.BadReply (p.0.0 i) (p.0.1 i) (p.1 i)) (λ e. (((cc), (cc)), (cc)))
same_queue_note-Decides (queued.Tick slot timer moment) (queued.Tick slot' timer' moment') = via (and-Decides (and-Decides (Decides-eqb slot slot') (same_timer-Decides timer timer')) (Decides-eqb moment moment')) (λ p. λ i. queued.Tick (p.0.0 i) (p.0.1 i) (p.1 i)) (λ e. (((cc), (cc)), (cc)))
same_queue_note-Decides (queued.Gone slot object) (queued.Gone slot' object') = via (and-Decides (Decides-eqb slot slot') (same_object-Decides object object')) (λ p. λ i. queued.Gone (p.0 i) (p.1 i)) (λ e. ((cc), (cc)))
same_queue_note-Decides queued.Fin queued.Fin = (λ h. refl, λ e. refl)
same_queue_note-Decides _ _ = (λ h. absurd (true≢false (sym h)), λ e. cc)

pub same_bridge_note-Decides : (a b : BridgeNote) → Decides (same_bridge_note a b) (a ≡ b)
same_bridge_note-Decides (bridged.Join sub terms tag) (bridged.Join sub' terms' tag') = via (and-Decides (and-Decides (same_sub-Decides sub sub') (same_sub_terms-Decides terms terms')) (same_object-Decides tag tag')) (λ p. λ i. bridged.Join (p.0.0 i) (p.0.1 i) (p.1 i)) (λ e. (((cc), (cc)), (cc)))
same_bridge_note-Decides (bridged.Leave sub) (bridged.Leave sub') = via (same_sub-Decides sub sub') (λ p. λ i. bridged.Leave (p i)) (λ e. (cc))
same_bridge_note-Decides (bridged.OpenInbox inbox terms tag) (bridged.OpenInbox inbox' terms' tag') = via (and-Decides (and-Decides (same_inbox-Decides inbox inbox') (same_inbox_terms-Decides terms terms')) (same_object-Decides tag tag')) (λ p. λ i. bridged.OpenInbox (p.0.0 i) (p.0.1 i) (p.1 i)) (λ e. (((cc), (cc)), (cc)))
same_bridge_note-Decides (bridged.CloseInbox inbox) (bridged.CloseInbox inbox') = via (same_inbox-Decides inbox inbox') (λ p. λ i. bridged.CloseInbox (p i)) (λ e. (cc))
same_bridge_note-Decides (bridged.Ask inbox topic fids) (bridged.Ask inbox' topic' fids') = via (and-Decides (and-Decides (same_inbox-Decides inbox inbox') (Decides-eqb topic topic')) (bytes_eq-Decides fids fids')) (λ p. λ i. bridged.Ask (p.0.0 i) (p.0.1 i) (p.1 i)) (λ e. (((cc), (cc)), (cc)))
same_bridge_note-Decides (bridged.Publish msg) (bridged.Publish msg') = via (same_market_msg-Decides msg msg') (λ p. λ i. bridged.Publish (p i)) (λ e. (cc))
same_bridge_note-Decides (bridged.Image sub msg) (bridged.Image sub' msg') = via (and-Decides (same_sub-Decides sub sub') (same_market_msg-Decides msg msg')) (λ p. λ i. bridged.Image (p.0 i) (p.1 i)) (λ e. ((cc), (cc)))
same_bridge_note-Decides (bridged.Reply inbox body) (bridged.Reply inbox' body') = via (and-Decides (same_inbox-Decides inbox inbox') (same_message-Decides body body')) (λ p. λ i. bridged.Reply (p.0 i) (p.1 i)) (λ e. ((cc), (cc)))
same_bridge_note-Decides (bridged.RecapWish sub sender) (bridged.RecapWish sub' sender') = via (and-Decides (same_sub-Decides sub sub') (Decides-eqb sender sender')) (λ p. λ i. bridged.RecapWish (p.0 i) (p.1 i)) (λ e. ((cc), (cc)))
same_bridge_note-Decides bridged.ClientDone bridged.ClientDone = (λ h. refl, λ e. refl)
same_bridge_note-Decides bridged.SendsDone bridged.SendsDone = (λ h. refl, λ e. refl)
same_bridge_note-Decides bridged.Settled bridged.Settled = (λ h. refl, λ e. refl)
same_bridge_note-Decides bridged.Bye bridged.Bye = (λ h. refl, λ e. refl)
same_bridge_note-Decides _ _ = (λ h. absurd (true≢false (sym h)), λ e. cc)

-- so they are equivalences
pub same_market_msg_equivalence : IsEquivalence same_market_msg
same_market_msg_equivalence = decided same_market_msg same_market_msg-Decides

pub same_wire_msg_equivalence : IsEquivalence same_wire_msg
same_wire_msg_equivalence = decided same_wire_msg same_wire_msg-Decides

pub same_piece_msg_equivalence : IsEquivalence same_piece_msg
same_piece_msg_equivalence = decided same_piece_msg same_piece_msg-Decides

pub same_order_equivalence : IsEquivalence same_order
same_order_equivalence = decided same_order same_order-Decides

pub same_orders_equivalence : IsEquivalence same_orders
same_orders_equivalence = decided same_orders same_orders-Decides

pub same_plan_row_equivalence : IsEquivalence same_plan_row
same_plan_row_equivalence = decided same_plan_row same_plan_row-Decides

pub same_callback_equivalence : IsEquivalence same_callback
same_callback_equivalence = decided same_callback same_callback-Decides

pub same_call_note_equivalence : IsEquivalence same_call_note
same_call_note_equivalence = decided same_call_note same_call_note-Decides

pub same_members_equivalence : IsEquivalence same_members
same_members_equivalence = decided same_members same_members-Decides

pub same_group_note_equivalence : IsEquivalence same_group_note
same_group_note_equivalence = decided same_group_note same_group_note-Decides

pub same_watch_note_equivalence : IsEquivalence same_watch_note
same_watch_note_equivalence = decided same_watch_note same_watch_note-Decides

pub same_sub_terms_equivalence : IsEquivalence same_sub_terms
same_sub_terms_equivalence = decided same_sub_terms same_sub_terms-Decides

pub same_inbox_terms_equivalence : IsEquivalence same_inbox_terms
same_inbox_terms_equivalence = decided same_inbox_terms same_inbox_terms-Decides

pub same_publisher_note_equivalence : IsEquivalence same_publisher_note
same_publisher_note_equivalence = decided same_publisher_note same_publisher_note-Decides

pub same_publisher_entry_equivalence : IsEquivalence same_publisher_entry
same_publisher_entry_equivalence = decided same_publisher_entry same_publisher_entry-Decides

pub same_queue_note_equivalence : IsEquivalence same_queue_note
same_queue_note_equivalence = decided same_queue_note same_queue_note-Decides

pub same_bridge_note_equivalence : IsEquivalence same_bridge_note
same_bridge_note_equivalence = decided same_bridge_note same_bridge_note-Decides
