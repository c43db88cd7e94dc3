-- believed: a publisher that sends the lines of its part of a script, in order, puts what its journal puts.
use Rattle.std.specs.Prelude.{◌≡◌, ◌+◌, List, [], ◌∷◌, ◌++◌, Some, slice_get}
use Rattle.mama_journal.specs.Journal.{count_of}
use Rattle.mama_msg.specs.Field.{FieldData}
use Rattle.mama_event.specs.Publisher.{SendLine, PublisherScript, is_send, record_at, updates_sent, message_of, answer_of, publisher_puts_at}
use Rattle.mama_event.specs.ToPublisher.{note_of}
use Rattle.mama_event.specs.declared.market.MsgKind.TheVariants as kind
use Rattle.mama_event.specs.declared.publisher_entry.PublisherEntry.{PublisherEntry}
use Rattle.mama_event.specs.declared.publisher_entry.PublisherEntry.TheVariants as entry
use Rattle.mama_event.specs.declared.to_publisher.ToPublisher.{ToPublisher}
use Rattle.mama_event.specs.declared.to_bridge.BridgeNote.TheVariants as put
use Rattle.mama_publisher.specs.Standing.{Standing, advanced}

-- a publisher stands where its journal says: it holds the record, and the number of updates in it
pub record StandsAt (script : PublisherScript) (journal : List PublisherEntry) (p : Standing) : Type 0 where
  pub number : p.number ≡ script.number
  pub held : p.held ≡ record_at script journal
  pub seq : p.seq ≡ updates_sent script journal

-- a new publisher stands at the beginning
abbrev pub NewStandsAtStart : Type 0
NewStandsAtStart = (script : PublisherScript) → StandsAt script [] (record { number = script.number; held = script.base; seq = 0 })

-- where the next line is an update, a publisher that sends it puts what the journal puts, and stands there again
pub record SendsUpdate (script : PublisherScript) (journal : List PublisherEntry) (p : Standing) (body : List FieldData) : Type 0 where
  pub puts : publisher_puts_at script journal entry.Send ≡ put.Publish (message_of p.number kind.Update (p.seq + 1) body) ∷ []
  pub stands : StandsAt script (journal ++ entry.Send ∷ []) (advanced p body)

abbrev pub SendingUpdates : Type 0
SendingUpdates =
    (script : PublisherScript) (journal : List PublisherEntry) (p : Standing) (body : List FieldData)
    → StandsAt script journal p → slice_get script.lines (count_of is_send journal) ≡ Some (SendLine.Update body)
    → SendsUpdate script journal p body

-- where the next line is a recap, a publisher that sends its record as one puts what the journal puts
pub record SendsRecap (script : PublisherScript) (journal : List PublisherEntry) (p : Standing) : Type 0 where
  pub puts : publisher_puts_at script journal entry.Send ≡ put.Publish (message_of p.number kind.Recap p.seq p.held) ∷ []
  pub stands : StandsAt script (journal ++ entry.Send ∷ []) p

abbrev pub SendingRecaps : Type 0
SendingRecaps =
    (script : PublisherScript) (journal : List PublisherEntry) (p : Standing)
    → StandsAt script journal p → slice_get script.lines (count_of is_send journal) ≡ Some SendLine.Recap
    → SendsRecap script journal p

-- what a publisher puts for an event that it takes is what the journal puts there
pub record Takes (script : PublisherScript) (journal : List PublisherEntry) (p : Standing) (event : ToPublisher) : Type 0 where
  pub puts : publisher_puts_at script journal (entry.Took (note_of event)) ≡ answer_of p.number p.held p.seq (note_of event)
  pub stands : StandsAt script (journal ++ entry.Took (note_of event) ∷ []) p

abbrev pub TakingEvents : Type 0
TakingEvents =
    (script : PublisherScript) (journal : List PublisherEntry) (p : Standing) (event : ToPublisher)
    → StandsAt script journal p → Takes script journal p event

-- the word that all lines were sent changes nothing of where a publisher stands
pub record TellsEnd (script : PublisherScript) (journal : List PublisherEntry) (p : Standing) : Type 0 where
  pub puts : publisher_puts_at script journal entry.Done ≡ put.SendsDone ∷ []
  pub stands : StandsAt script (journal ++ entry.Done ∷ []) p

abbrev pub TellingTheEnd : Type 0
TellingTheEnd =
    (script : PublisherScript) (journal : List PublisherEntry) (p : Standing)
    → StandsAt script journal p → TellsEnd script journal p
