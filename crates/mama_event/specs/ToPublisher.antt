-- believed: what a publisher takes, as plain data, and what the bridge may put to it.
use Rattle.std.specs.Prelude.{Bool, true, false, List}
use Rattle.mama_event.specs.declared.to_publisher.ToPublisher.{ToPublisher}
use Rattle.mama_event.specs.declared.to_publisher.ToPublisher.TheVariants as event
use Rattle.mama_event.specs.declared.to_publisher.PublisherNote.{PublisherNote}
use Rattle.mama_event.specs.declared.to_publisher.PublisherNote.TheVariants as note

-- the note of an event: the same data
abbrev pub note_of : ToPublisher → PublisherNote
note_of (event.Want sub kind) = note.Want sub kind
note_of (event.Ask inbox fids) = note.Ask inbox fids
note_of event.Settle = note.Settle
note_of event.Fin = note.Fin

-- nothing follows a Fin
abbrev pub is_last : PublisherNote → Bool
is_last (note.Want sub kind) = false
is_last (note.Ask inbox fids) = false
is_last note.Settle = false
is_last note.Fin = true

-- nothing else is asked of what the bridge puts to a publisher
abbrev pub fits : List PublisherNote → PublisherNote → Bool
fits before note = true
