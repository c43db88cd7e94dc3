-- What holds of each message, and of each reply, that a note, an event, a put or a deed carries.
use Rattle.std.specs.Prelude.{List}
use Rattle.mama_msg.specs.Field.{FieldData}
use Rattle.mama_event.specs.declared.market.MarketMsg.{MarketMsg}
use Rattle.mama_event.specs.declared.market.MsgKind.{MsgKind}
use Rattle.mama_event.specs.declared.market.MsgKind.TheVariants.{Initial, Update, Recap}
use Rattle.mama_event.specs.declared.to_bridge.BridgeNote.{BridgeNote}
use Rattle.mama_event.specs.declared.to_bridge.BridgeNote.TheVariants as b
use Rattle.mama_event.specs.declared.to_publisher.PublisherNote.{PublisherNote}
use Rattle.mama_event.specs.declared.to_publisher.PublisherNote.TheVariants as p
use Rattle.mama_event.specs.declared.publisher_entry.PublisherEntry.{PublisherEntry}
use Rattle.mama_event.specs.declared.publisher_entry.PublisherEntry.TheVariants.{Send, Done, Took}
use Rattle.mama_rules_services.specs.Bridge.{BridgeEvent, joins, leaves, opens, closes, asks, publishes, images, replies, wishes, client_done, sends_done, settled, bye, no_event, BridgePut, to_publisher, to_queue, to_timers}
use Rattle.mama_rules_queue.specs.Queue.{QueuePut, Deed, handled, called}
use Rattle.mama_rules_queue.specs.Queue as queue
use Rattle.mama_laws_genuine.specs.Sent.{Delivers, Gives}

module _ (G : MarketMsg → Type 0) (R : List FieldData → Type 0) where
  abbrev pub InBridgeNote : BridgeNote → Type 0
  InBridgeNote (b.Join sub terms tag) = Unit {0}
  InBridgeNote (b.Leave sub) = Unit {0}
  InBridgeNote (b.OpenInbox inbox terms tag) = Unit {0}
  InBridgeNote (b.CloseInbox inbox) = Unit {0}
  InBridgeNote (b.Ask inbox topic fids) = Unit {0}
  InBridgeNote (b.Publish msg) = G msg
  InBridgeNote (b.Image sub msg) = G msg
  InBridgeNote (b.Reply inbox body) = R body
  InBridgeNote (b.RecapWish sub sender) = Unit {0}
  InBridgeNote b.ClientDone = Unit {0}
  InBridgeNote b.SendsDone = Unit {0}
  InBridgeNote b.Settled = Unit {0}
  InBridgeNote b.Bye = Unit {0}

  abbrev pub InEvent : BridgeEvent → Type 0
  InEvent (joins s terms tag) = Unit {0}
  InEvent (leaves s) = Unit {0}
  InEvent (opens i terms tag) = Unit {0}
  InEvent (closes i) = Unit {0}
  InEvent (asks i topic fids) = Unit {0}
  InEvent (publishes r msg) = G msg
  InEvent (images s msg) = G msg
  InEvent (replies i body) = R body
  InEvent (wishes s sender) = Unit {0}
  InEvent (client_done c) = Unit {0}
  InEvent (sends_done r) = Unit {0}
  InEvent (settled r) = Unit {0}
  InEvent (bye k) = Unit {0}
  InEvent no_event = Unit {0}

  abbrev pub InQueuePut : QueuePut → Type 0
  InQueuePut (queue.to_bridge note) = InBridgeNote note
  InQueuePut (queue.to_timers note) = Unit {0}

  abbrev pub InDeed : Deed → Type 0
  InDeed (handled sub msg) = G msg
  InDeed (called object call orders) = Gives G R call

-- an image is asked for as an initial one or as a recap
abbrev pub IsImageKind : MsgKind → Type 0
IsImageKind Initial = Unit {0}
IsImageKind Recap = Unit {0}
IsImageKind Update = ⊥

abbrev pub AsksImage : PublisherNote → Type 0
AsksImage (p.Want sub kind) = IsImageKind kind
AsksImage (p.Ask inbox fids) = Unit {0}
AsksImage p.Settle = Unit {0}
AsksImage p.Fin = Unit {0}

abbrev pub IsPlainEntry : PublisherEntry → Type 0
IsPlainEntry Send = Unit {0}
IsPlainEntry Done = Unit {0}
IsPlainEntry (Took note) = AsksImage note

-- what holds of what the bridge puts: its messages have G, and it asks for images as such
abbrev pub InBridgePut : (MarketMsg → Type 0) → (List FieldData → Type 0) → BridgePut → Type 0
InBridgePut G R (to_publisher r note) = AsksImage note
InBridgePut G R (to_queue k note) = Delivers G R note
InBridgePut G R (to_timers note) = Unit {0}

-- what holds more seldom holds of each message where the other does
pub note_weaker : (G H : MarketMsg → Type 0) (R S : List FieldData → Type 0) → ((m : MarketMsg) → G m → H m) → ((body : List FieldData) → R body → S body)
    → (note : BridgeNote) → InBridgeNote G R note → InBridgeNote H S note
note_weaker G H R S each other (b.Publish msg) h = each msg h
note_weaker G H R S each other (b.Image sub msg) h = each msg h
note_weaker G H R S each other (b.Reply inbox body) h = other body h
note_weaker G H R S each other _ h = tt
