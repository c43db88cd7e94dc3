-- believed: plain data is compared exactly: the tests hold where both sides are one, and nowhere else.
use Rattle.std.specs.Prelude.{ℕ, Bool, true, false, ◌==◌, ◌&&◌, List}
use Rattle.std.specs.Cmp.Lexicographic.{pointwise}
use Rattle.std.specs.Str.{bytes_eq}
use Rattle.mama_msg.specs.Equality.{same_message}
use Rattle.mama_link.specs.Equality.{same_rows}
use Rattle.mama_event.specs.Object.{same_sub, same_timer, same_inbox, same_object}
use Rattle.mama_event.specs.GroupStates.{same_group_state}
use Rattle.mama_event.specs.declared.market.MsgKind.{MsgKind}
use Rattle.mama_event.specs.declared.market.MsgKind.TheVariants.{Initial, Update, Recap}
use Rattle.mama_event.specs.declared.market.Quality.{Quality}
use Rattle.mama_event.specs.declared.market.Quality.TheVariants as quality
use Rattle.mama_event.specs.declared.market.SubKind.{SubKind}
use Rattle.mama_event.specs.declared.market.SubKind.TheVariants as sub_kind
use Rattle.mama_event.specs.declared.market.MarketMsg.{MarketMsg}
use Rattle.mama_event.specs.declared.wire.WireMsg.{WireMsg}
use Rattle.mama_event.specs.declared.wire.PieceMsg.{PieceMsg}
use Rattle.mama_event.specs.declared.shape.Strategy.{Strategy}
use Rattle.mama_event.specs.declared.shape.Strategy.TheVariants as strategy
use Rattle.mama_event.specs.declared.order.Order.{Order}
use Rattle.mama_event.specs.declared.order.Order.TheVariants as order
use Rattle.mama_event.specs.declared.order.PlanRow.{PlanRow}
use Rattle.mama_event.specs.declared.callback.Callback.{Callback}
use Rattle.mama_event.specs.declared.callback.Callback.TheVariants as call
use Rattle.mama_event.specs.declared.callback.CallNote.{CallNote}
use Rattle.mama_event.specs.declared.ids.SubId.{SubId}
use Rattle.mama_event.specs.declared.group.GroupRow.{GroupRow}
use Rattle.mama_event.specs.declared.group.GroupNote.{GroupNote}
use Rattle.mama_event.specs.declared.group.GroupNote.TheVariants as grouped
use Rattle.mama_event.specs.declared.watch.WatchRow.{WatchRow}
use Rattle.mama_event.specs.declared.watch.WatchNote.{WatchNote}
use Rattle.mama_event.specs.declared.watch.WatchNote.TheVariants as watched
use Rattle.mama_event.specs.declared.to_publisher.PublisherNote.{PublisherNote}
use Rattle.mama_event.specs.declared.to_publisher.PublisherNote.TheVariants as asked
use Rattle.mama_event.specs.declared.publisher_entry.PublisherEntry.{PublisherEntry}
use Rattle.mama_event.specs.declared.publisher_entry.PublisherEntry.TheVariants as entry
use Rattle.mama_event.specs.declared.to_queue.Make.{Make}
use Rattle.mama_event.specs.declared.to_queue.Make.TheVariants as make
use Rattle.mama_event.specs.declared.to_queue.QueueNote.{QueueNote}
use Rattle.mama_event.specs.declared.to_queue.QueueNote.TheVariants as queued
use Rattle.mama_event.specs.declared.to_bridge.SubTerms.{SubTerms}
use Rattle.mama_event.specs.declared.to_bridge.InboxTerms.{InboxTerms}
use Rattle.mama_event.specs.declared.to_bridge.BridgeNote.{BridgeNote}
use Rattle.mama_event.specs.declared.to_bridge.BridgeNote.TheVariants as bridged

-- two messages are of one kind
abbrev pub same_kind : MsgKind → MsgKind → Bool
same_kind Initial Initial = true
same_kind Update Update = true
same_kind Recap Recap = true
same_kind _ _ = false

-- two images are of one quality
abbrev pub same_quality : Quality → Quality → Bool
same_quality quality.Ok quality.Ok = true
same_quality quality.Stale quality.Stale = true
same_quality _ _ = false

-- two subscriptions are of one kind
abbrev pub same_sub_kind : SubKind → SubKind → Bool
same_sub_kind sub_kind.Market sub_kind.Market = true
same_sub_kind sub_kind.Snapshot sub_kind.Snapshot = true
same_sub_kind sub_kind.Basic sub_kind.Basic = true
same_sub_kind _ _ = false

-- two strategies are one
abbrev pub same_strategy : Strategy → Strategy → Bool
same_strategy strategy.One strategy.One = true
same_strategy strategy.Two strategy.Two = true
same_strategy _ _ = false

-- two objects are made alike
abbrev pub same_make : Make → Make → Bool
same_make (make.Sub kind cache strategy) (make.Sub kind' cache' strategy') = same_sub_kind kind kind' && cache == cache' && same_strategy strategy strategy'
same_make make.Timer make.Timer = true
same_make make.Inbox make.Inbox = true
same_make _ _ = false

-- two messages are of one kind, sender and number, and have the same fields in the same order
abbrev pub same_market_msg : MarketMsg → MarketMsg → Bool
same_market_msg a b = same_kind a.kind b.kind && a.sender == b.sender && a.seq == b.seq && same_message a.body b.body

-- two messages are of one kind, sender and number
abbrev pub same_heads : MsgKind → ℕ → ℕ → MsgKind → ℕ → ℕ → Bool
same_heads kind sender seq kind' sender' seq' = same_kind kind kind' && sender == sender' && seq == seq'

-- two messages that travel have the same head and the same bytes
abbrev pub same_wire_msg : WireMsg → WireMsg → Bool
same_wire_msg a b = same_heads a.kind a.sender a.seq b.kind b.sender b.seq && bytes_eq a.body b.body

abbrev pub same_piece_msg : PieceMsg → PieceMsg → Bool
same_piece_msg a b = same_heads a.kind a.sender a.seq b.kind b.sender b.seq && bytes_eq a.body b.body

-- two orders order the same
abbrev pub same_order : Order → Order → Bool
same_order (order.Stop sub) (order.Stop sub') = same_sub sub sub'
same_order (order.Disarm timer) (order.Disarm timer') = same_timer timer timer'
same_order (order.Close inbox) (order.Close inbox') = same_inbox inbox inbox'
same_order (order.Ask inbox topic fids) (order.Ask inbox' topic' fids') = same_inbox inbox inbox' && topic == topic' && bytes_eq fids fids'
same_order _ _ = false

-- two callbacks have the same orders, in the same order
abbrev pub same_orders : List Order → List Order → Bool
same_orders a b = pointwise same_order a b

-- two rows plan the same order for the same call
abbrev pub same_plan_row : PlanRow → PlanRow → Bool
same_plan_row a b = a.call == b.call && same_order a.order b.order

-- two callbacks tell the same
abbrev pub same_callback : Callback → Callback → Bool
same_callback call.Create call.Create = true
same_callback (call.Msg msg quality) (call.Msg msg' quality') = same_market_msg msg msg' && same_quality quality quality'
same_callback (call.Gap first to) (call.Gap first' to') = first == first' && to == to'
same_callback (call.Quality quality number) (call.Quality quality' number') = same_quality quality quality' && number == number'
same_callback (call.RecapRequest sender) (call.RecapRequest sender') = sender == sender'
same_callback (call.Late sender seq) (call.Late sender' seq') = sender == sender' && seq == seq'
same_callback (call.Error code) (call.Error code') = code == code'
same_callback call.Destroy call.Destroy = true
same_callback (call.Tick moment) (call.Tick moment') = moment == moment'
same_callback (call.Reply body) (call.Reply body') = same_message body body'
same_callback _ _ = false

-- two calls were the same callback with the same orders
abbrev pub same_call_note : CallNote → CallNote → Bool
same_call_note a b = same_callback a.call b.call && same_orders a.orders b.orders

-- two groups have the same members, in the same order
abbrev pub same_members : List SubId → List SubId → Bool
same_members a b = pointwise same_sub a b

abbrev pub same_group_row : GroupRow → GroupRow → Bool
same_group_row a b = same_members a.members b.members

-- two notes of a group are one
abbrev pub same_group_note : GroupNote → GroupNote → Bool
same_group_note (grouped.Call sub call) (grouped.Call sub' call') = same_sub sub sub' && same_callback call call'
same_group_note (grouped.State s) (grouped.State s') = same_group_state s s'
same_group_note _ _ = false

-- two watches are of one subscription and one timer, with the same number of retries and the same sender
abbrev pub same_watch_row : WatchRow → WatchRow → Bool
same_watch_row a b = same_sub a.sub b.sub && (same_timer a.timer b.timer && (a.retries == b.retries && a.sender == b.sender))

-- two notes of a watch are one
abbrev pub same_watch_note : WatchNote → WatchNote → Bool
same_watch_note (watched.Retry count moment) (watched.Retry count' moment') = count == count' && moment == moment'
same_watch_note (watched.Timeout moment) (watched.Timeout moment') = moment == moment'
same_watch_note _ _ = false

-- two subscriptions have the same terms
abbrev pub same_sub_terms : SubTerms → SubTerms → Bool
same_sub_terms a b = a.topic == b.topic && same_sub_kind a.kind b.kind && a.queue == b.queue && a.cache == b.cache && a.recaps == b.recaps && same_rows a.faults b.faults

-- two inboxes have the same terms
abbrev pub same_inbox_terms : InboxTerms → InboxTerms → Bool
same_inbox_terms a b = a.queue == b.queue && same_rows a.faults b.faults

-- two notes of a publisher are one
abbrev pub same_publisher_note : PublisherNote → PublisherNote → Bool
same_publisher_note (asked.Want sub kind) (asked.Want sub' kind') = same_sub sub sub' && same_kind kind kind'
same_publisher_note (asked.Ask inbox fids) (asked.Ask inbox' fids') = same_inbox inbox inbox' && bytes_eq fids fids'
same_publisher_note asked.Settle asked.Settle = true
same_publisher_note asked.Fin asked.Fin = true
same_publisher_note _ _ = false

-- two entries of a publisher are one
abbrev pub same_publisher_entry : PublisherEntry → PublisherEntry → Bool
same_publisher_entry entry.Send entry.Send = true
same_publisher_entry entry.Done entry.Done = true
same_publisher_entry (entry.Took note) (entry.Took note') = same_publisher_note note note'
same_publisher_entry _ _ = false

-- two notes of a queue are one
abbrev pub same_queue_note : QueueNote → QueueNote → Bool
same_queue_note (queued.Create slot object made tag) (queued.Create slot' object' made' tag') = slot == slot' && (same_object object object' && same_make made made' && same_object tag tag')
same_queue_note (queued.Deliver slot sub msg) (queued.Deliver slot' sub' msg') = slot == slot' && same_sub sub sub' && same_market_msg msg msg'
same_queue_note (queued.Reply slot inbox body) (queued.Reply slot' inbox' body') = slot == slot' && same_inbox inbox inbox' && same_message body body'
same_queue_note (queued.Bad slot sub kind sender seq bytes) (queued.Bad slot' sub' kind' sender' seq' bytes') = slot == slot' && same_sub sub sub' && same_heads kind sender seq kind' sender' seq' && bytes_eq bytes bytes'
same_queue_note (queued.BadReply slot inbox bytes) (queued.BadReply slot' inbox' bytes') = slot == slot' && same_inbox inbox inbox' && bytes_eq bytes bytes'
same_queue_note (queued.Tick slot timer moment) (queued.Tick slot' timer' moment') = slot == slot' && same_timer timer timer' && moment == moment'
same_queue_note (queued.Gone slot object) (queued.Gone slot' object') = slot == slot' && same_object object object'
same_queue_note queued.Fin queued.Fin = true
same_queue_note _ _ = false

-- two notes of the bridge are one
abbrev pub same_bridge_note : BridgeNote → BridgeNote → Bool
same_bridge_note (bridged.Join sub terms tag) (bridged.Join sub' terms' tag') = same_sub sub sub' && same_sub_terms terms terms' && same_object tag tag'
same_bridge_note (bridged.Leave sub) (bridged.Leave sub') = same_sub sub sub'
same_bridge_note (bridged.OpenInbox inbox terms tag) (bridged.OpenInbox inbox' terms' tag') = same_inbox inbox inbox' && same_inbox_terms terms terms' && same_object tag tag'
same_bridge_note (bridged.CloseInbox inbox) (bridged.CloseInbox inbox') = same_inbox inbox inbox'
same_bridge_note (bridged.Ask inbox topic fids) (bridged.Ask inbox' topic' fids') = same_inbox inbox inbox' && topic == topic' && bytes_eq fids fids'
same_bridge_note (bridged.Publish msg) (bridged.Publish msg') = same_market_msg msg msg'
same_bridge_note (bridged.Image sub msg) (bridged.Image sub' msg') = same_sub sub sub' && same_market_msg msg msg'
same_bridge_note (bridged.Reply inbox body) (bridged.Reply inbox' body') = same_inbox inbox inbox' && same_message body body'
same_bridge_note (bridged.RecapWish sub sender) (bridged.RecapWish sub' sender') = same_sub sub sub' && sender == sender'
same_bridge_note bridged.ClientDone bridged.ClientDone = true
same_bridge_note bridged.SendsDone bridged.SendsDone = true
same_bridge_note bridged.Settled bridged.Settled = true
same_bridge_note bridged.Bye bridged.Bye = true
same_bridge_note _ _ = false
