-- believed: a publisher as contracts see it, and what its calls put on the bridge's lane.
use Rattle.std.specs.Prelude.{◌≡◌, ℕ, ◌+◌, List, ◌++◌, map}
use Rattle.mama_msg.specs.Field.{FieldData}
use Rattle.mama_msg.specs.Message.{apply}
use Rattle.mama_event.specs.Publisher.{answer_of}
use Rattle.mama_event.specs.ToBridge.{note_of}
use Rattle.mama_event.specs.declared.ids.ObjectId.{ObjectId}
use Rattle.mama_event.specs.declared.to_publisher.PublisherNote.{PublisherNote}
use Rattle.mama_event.specs.declared.to_bridge.ToBridge.{ToBridge}

-- a publisher's number, its record, and how many updates are in the record
pub record Standing : Type 0 where
  pub number : ℕ
  pub held : List FieldData
  pub seq : ℕ

-- the publisher with one update more
abbrev pub advanced : Standing → List FieldData → Standing
advanced p body = record { number = p.number; held = apply p.held body; seq = p.seq + 1 }

-- An event is answered: what was put stays, and behind it stands what the record and the number answer, with each message packed.
pub record Answered {L : Type 0} (tagged : L → ObjectId) (p : Standing) (note : PublisherNote) (old new : List (ToBridge L)) : Type 0 where
  pub more : List (ToBridge L)
  pub put : new ≡ old ++ more
  pub notes : map (note_of tagged) more ≡ answer_of p.number p.held p.seq note
