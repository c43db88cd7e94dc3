-- believed: The record of a run, as plain data.
use Rattle.std.specs.Prelude.{ℕ, List}
use Rattle.mama_msg.specs.Field.{FieldData}
use Rattle.mama_event.specs.declared.ids.ObjectId.{ObjectId}
use Rattle.mama_event.specs.declared.ids.SubId.{SubId}
use Rattle.mama_event.specs.declared.market.ImageHead.{ImageHead}
use Rattle.mama_event.specs.declared.callback.CallNote.{CallNote}
use Rattle.mama_event.specs.declared.group.GroupNote.{GroupNote}
use Rattle.mama_event.specs.declared.watch.WatchNote.{WatchNote}
use Rattle.mama_event.specs.declared.to_bridge.BridgeNote.{BridgeNote}
use Rattle.mama_event.specs.declared.to_timers.TimersNote.{TimersNote}
use Rattle.mama_event.specs.declared.to_queue.QueueNote.{QueueNote}
use Rattle.mama_event.specs.declared.publisher_entry.PublisherEntry.{PublisherEntry}

-- the callbacks of one object, with their orders
pub record ObjectCalls : Type 0 where
  pub object : ObjectId
  pub calls : List CallNote

-- what a group heard
pub record GroupNotes : Type 0 where
  pub group : ℕ
  pub notes : List GroupNote

-- what a watch noted
pub record WatchNotes : Type 0 where
  pub watch : ℕ
  pub notes : List WatchNote

-- the image that a subscription had when its Gone was taken
pub record LastImage : Type 0 where
  pub sub : SubId
  pub head : ImageHead
  pub body : List FieldData

pub record RunData : Type 0 where
  pub clients : List (List ℕ)
  pub publishers : List (List PublisherEntry)
  pub bridge : List (ℕ × BridgeNote)
  pub timers : List (ℕ × TimersNote)
  pub queues : List (List (ℕ × QueueNote))
  pub calls : List ObjectCalls
  pub images : List LastImage
  pub groups : List GroupNotes
  pub watches : List WatchNotes
