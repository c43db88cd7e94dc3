-- believed: what the bridge takes, as plain data, and what its ports may put.
use Rattle.std.specs.Prelude.{Bool, true, false, ◌&&◌, nat_lt, List}
use Rattle.mama_packet.specs.Packet.{message_of}
use Rattle.mama_event.specs.Wire.{market_of}
use Rattle.mama_event.specs.declared.ids.ObjectId.{ObjectId}
use Rattle.mama_event.specs.declared.shape.Bounds.{Bounds}
use Rattle.mama_event.specs.declared.to_bridge.ToBridge.{ToBridge}
use Rattle.mama_event.specs.declared.to_bridge.ToBridge.TheVariants as event
use Rattle.mama_event.specs.declared.to_bridge.BridgeNote.{BridgeNote}
use Rattle.mama_event.specs.declared.to_bridge.BridgeNote.TheVariants as note

-- the note of an event: the same data, with the listener's tag in place of the listener, and the message that a packet spells
abbrev pub note_of : {L : Type 0} → (L → ObjectId) → ToBridge L → BridgeNote
note_of tagged (event.Join sub terms listener) = note.Join sub terms (tagged listener)
note_of tagged (event.Leave sub) = note.Leave sub
note_of tagged (event.OpenInbox inbox terms listener) = note.OpenInbox inbox terms (tagged listener)
note_of tagged (event.CloseInbox inbox) = note.CloseInbox inbox
note_of tagged (event.Ask inbox topic fids) = note.Ask inbox topic fids
note_of tagged (event.Publish msg) = note.Publish (market_of msg)
note_of tagged (event.Image sub msg) = note.Image sub (market_of msg)
note_of tagged (event.Reply inbox body) = note.Reply inbox (message_of body)
note_of tagged (event.RecapWish sub sender) = note.RecapWish sub sender
note_of tagged event.ClientDone = note.ClientDone
note_of tagged event.SendsDone = note.SendsDone
note_of tagged event.Settled = note.Settled
note_of tagged event.Bye = note.Bye

-- nothing follows a ClientDone, a Settled or a Bye
abbrev pub is_last : BridgeNote → Bool
is_last (note.Join sub terms tag) = false
is_last (note.Leave sub) = false
is_last (note.OpenInbox inbox terms tag) = false
is_last (note.CloseInbox inbox) = false
is_last (note.Ask inbox topic fids) = false
is_last (note.Publish msg) = false
is_last (note.Image sub msg) = false
is_last (note.Reply inbox body) = false
is_last (note.RecapWish sub sender) = false
is_last note.ClientDone = true
is_last note.SendsDone = false
is_last note.Settled = true
is_last note.Bye = true

-- the topic and the queue that a Join or an OpenInbox names are there
abbrev pub is_within : Bounds → BridgeNote → Bool
is_within bounds (note.Join sub terms tag) = nat_lt terms.topic bounds.topics && nat_lt terms.queue bounds.queues
is_within bounds (note.Leave sub) = true
is_within bounds (note.OpenInbox inbox terms tag) = nat_lt terms.queue bounds.queues
is_within bounds (note.CloseInbox inbox) = true
is_within bounds (note.Ask inbox topic fids) = true
is_within bounds (note.Publish msg) = true
is_within bounds (note.Image sub msg) = true
is_within bounds (note.Reply inbox body) = true
is_within bounds (note.RecapWish sub sender) = true
is_within bounds note.ClientDone = true
is_within bounds note.SendsDone = true
is_within bounds note.Settled = true
is_within bounds note.Bye = true

-- what a port puts names topics and queues that are there, whatever it put before
abbrev pub fits : Bounds → List BridgeNote → BridgeNote → Bool
fits bounds before n = is_within bounds n
