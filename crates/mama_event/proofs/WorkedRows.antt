-- Small cases of the definitions, which compute.
use Rattle.std.specs.Prelude.{codes}
use Rattle.std.proofs.Common.{◌≡◌, ℕ, Bool, true, false, List, [], ◌∷◌, refl}
use Rattle.mama_msg.specs.Field.{FieldData}
use Rattle.mama_msg.specs.declared.value.Value.TheVariants.{U32}
use Rattle.mama_event.specs.Lawful.{each_fits, may_follow}
use Rattle.mama_event.specs.Publisher.{SendLine, PublisherScript, publisher_puts, message_of}
use Rattle.mama_event.specs.ToQueue.{is_last, fits}
use Rattle.mama_event.specs.declared.ids.SubId.{SubId}
use Rattle.mama_event.specs.declared.ids.InboxId.{InboxId}
use Rattle.mama_event.specs.declared.ids.TimerId.{TimerId}
use Rattle.mama_event.specs.declared.ids.ObjectId.{ObjectId}
use Rattle.mama_event.specs.declared.ids.ObjectId.TheVariants as object
use Rattle.mama_event.specs.declared.market.MsgKind.TheVariants as kind
use Rattle.mama_event.specs.declared.market.SubKind.TheVariants as sub_kind
use Rattle.mama_event.specs.declared.to_publisher.PublisherNote.TheVariants as asked
use Rattle.mama_event.specs.declared.publisher_entry.PublisherEntry.{PublisherEntry}
use Rattle.mama_event.specs.declared.publisher_entry.PublisherEntry.TheVariants as entry
use Rattle.mama_event.specs.declared.to_bridge.BridgeNote.{BridgeNote}
use Rattle.mama_event.specs.declared.to_bridge.BridgeNote.TheVariants as put
use Rattle.mama_event.specs.declared.shape.Strategy.TheVariants as strategy
use Rattle.mama_event.specs.declared.to_queue.Make.TheVariants as make
use Rattle.mama_event.specs.declared.to_queue.QueueNote.{QueueNote}
use Rattle.mama_event.specs.declared.to_queue.QueueNote.TheVariants as note

abbrev first : SubId
first = record { client = 0; number = 0 }

abbrev second : SubId
second = record { client = 0; number = 1 }

abbrev inbox : InboxId
inbox = record { client = 0; number = 0 }

abbrev timer : TimerId
timer = record { client = 0; number = 0 }

abbrev bid : ℕ → FieldData
bid n = record { fid = 22; name = codes "bid"; value = U32 n }

abbrev ask : ℕ → FieldData
ask n = record { fid = 25; name = codes "ask"; value = U32 n }

-- a publisher that is asked for a first image, sends two updates and a recap, and ends
abbrev script : PublisherScript
script = record {
  number = 0;
  base = bid 100 ∷ [];
  lines = SendLine.Update (bid 101 ∷ []) ∷ SendLine.Update (ask 103 ∷ []) ∷ SendLine.Recap ∷ [];
}

abbrev journal : List PublisherEntry
journal =
    entry.Took (asked.Want first kind.Initial) ∷ entry.Send ∷ entry.Send
    ∷ entry.Took (asked.Ask inbox (7 ∷ 25 ∷ [])) ∷ entry.Send ∷ entry.Done
    ∷ entry.Took (asked.Want first kind.Recap) ∷ entry.Took asked.Settle ∷ entry.Took asked.Fin ∷ []

abbrev expected : List BridgeNote
expected =
    put.Image first (message_of 0 kind.Initial 0 (bid 100 ∷ []))
    ∷ put.Publish (message_of 0 kind.Update 1 (bid 101 ∷ []))
    ∷ put.Publish (message_of 0 kind.Update 2 (ask 103 ∷ []))
    ∷ put.Reply inbox (ask 103 ∷ [])
    ∷ put.Publish (message_of 0 kind.Recap 2 (bid 101 ∷ ask 103 ∷ []))
    ∷ put.SendsDone
    ∷ put.Image first (message_of 0 kind.Recap 2 (bid 101 ∷ ask 103 ∷ []))
    ∷ put.Settled ∷ []

sent : publisher_puts script journal ≡ expected
sent = refl

abbrev created : ℕ → SubId → QueueNote
created slot sub = note.Create slot (object.Sub sub) (make.Sub sub_kind.Market 10 strategy.One) (object.Sub sub)

abbrev gone : ℕ → SubId → QueueNote
gone slot sub = note.Gone slot (object.Sub sub)

abbrev is_lawful : ℕ → List QueueNote → Bool
is_lawful port notes = each_fits (may_follow is_last (fits port)) [] notes

-- a slot serves one object after another
slot_again : is_lawful 0 (created 0 first ∷ gone 0 first ∷ created 0 second ∷ gone 0 second ∷ note.Fin ∷ []) ≡ true
slot_again = refl

-- a reply belongs to the block of its slot
stray_reply : is_lawful 0 (created 0 first ∷ created 1 second ∷ note.Reply 2 inbox [] ∷ []) ≡ false
stray_reply = refl

-- a slot that is taken serves nothing else
taken_slot : is_lawful 0 (created 0 first ∷ created 0 second ∷ []) ≡ false
taken_slot = refl

-- no object has two blocks
second_block : is_lawful 0 (created 0 first ∷ gone 0 first ∷ created 0 first ∷ []) ≡ false
second_block = refl

-- a Fin comes after finished blocks alone, and nothing follows it
unfinished : is_lawful 0 (created 0 first ∷ note.Fin ∷ []) ≡ false
unfinished = refl

after_fin : is_lawful 0 (note.Fin ∷ note.Fin ∷ []) ≡ false
after_fin = refl

-- a Gone is of the object in its slot, and once
wrong_gone : is_lawful 0 (created 0 first ∷ gone 0 second ∷ []) ≡ false
wrong_gone = refl

twice_gone : is_lawful 0 (created 0 first ∷ gone 0 first ∷ gone 0 first ∷ []) ≡ false
twice_gone = refl

-- the make is of the object's kind, and the object of the port's
wrong_make : is_lawful 0 (note.Create 0 (object.Sub first) make.Inbox (object.Sub first) ∷ []) ≡ false
wrong_make = refl

wrong_port : is_lawful 1 (created 0 first ∷ []) ≡ false
wrong_port = refl

ticks : is_lawful 1 (note.Create 0 (object.Timer timer) make.Timer (object.Timer timer) ∷ note.Tick 0 timer 5 ∷ note.Gone 0 (object.Timer timer) ∷ note.Fin ∷ []) ≡ true
ticks = refl
