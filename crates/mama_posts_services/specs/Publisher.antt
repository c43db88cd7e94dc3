-- believed: What a publisher's seat keeps.
use Rattle.std.specs.Prelude.{◌≡◌, ℕ, true, false, List, [], ◌∷◌, ◌++◌}
use Rattle.std.specs.List.{All, list_any}
use mathlib.Core.List.{IsPrefix}
use Rattle.mama_journal.specs.Lane.{by_port, from_port}
use Rattle.mama_event.specs.declared.to_bridge.BridgeNote.{BridgeNote}
use Rattle.mama_event.specs.declared.to_publisher.PublisherNote.{PublisherNote}
use Rattle.mama_event.specs.declared.publisher_entry.PublisherEntry.TheVariants.{Took}
use Rattle.mama_event.specs.ToPublisher.{is_last}
use Rattle.mama_event.specs.Publisher.{publisher_puts}
use Rattle.mama_script.specs.declared.publisher.PublisherPart.{PublisherPart}
use Rattle.mama_lane.specs.Values.{PortValue}
use Rattle.mama_ends.specs.Inlet.{InletValue}
use Rattle.mama_seats.specs.Sender.{Progress, IsSeatedAt, IsSenderStep, script_of, sender_of, steps_in}
use Rattle.mama_rules_rounds.specs.Round.{publisher_steps}
use Rattle.mama_rules_legal.specs.Edges.{all_steps, taken_by}
use Rattle.mama_rules_legal.specs.Lines.{is_done}
use Rattle.mama_laws_allowed.specs.Allowed.{own_by, StopsInTime}

-- where the publisher stands, the ends of its lanes, and what it has left to put
pub record PublisherPostValue : Type 0 where
  pub progress : Progress
  pub inlet : InletValue PublisherNote
  pub port : PortValue BridgeNote
  pub left : List BridgeNote

-- The seat of the publisher of a number and a section: what it took is its journal's and then what is kept; what it put, and
-- then what is left, is its journal's; what it made and will make of its own accord is its lines'; and it stops in time.
pub record IsPublisherOf (part : PublisherPart) (number : ℕ) (post : PublisherPostValue) : Type 0 where
  pub number_is : post.progress.publisher.number ≡ number
  pub seated : IsSeatedAt part post.progress
  pub taken : post.inlet.taker.taken ≡ from_port 0 (taken_by post.progress.journal) ++ post.inlet.kept
  pub put : post.port.put ++ post.left ≡ publisher_puts (script_of number part.base part.lines) post.progress.journal
  pub own : own_by post.progress.journal ++ all_steps (steps_in (sender_of part post.progress)) ≡ all_steps (publisher_steps part.lines)
  pub done : post.progress.over ≡ list_any is_done post.progress.journal
  pub stops : StopsInTime post.progress.journal

-- It has ended: it took the last event and did all its lines, nothing is kept and nothing is left.
pub record HasEnded (post : PublisherPostValue) : Type 0 where
  pub told : list_any is_last (taken_by post.progress.journal) ≡ true
  pub over : post.progress.over ≡ true
  pub kept : post.inlet.kept ≡ []
  pub left : post.left ≡ []

-- all was taken that the notes name which it learnt
abbrev pub IsCaughtUp : InletValue PublisherNote → Type 0
IsCaughtUp inlet = All (λ note. IsPrefix note.1 (by_port note.0 inlet.taker.taken)) inlet.taker.learnt

-- its next line was done, or a step of a pause, and no event was taken
pub record DidLine (part : PublisherPart) (old new : PublisherPostValue) : Type 0 where
  pub going : old.progress.over ≡ false
  pub puts : List BridgeNote
  pub step : IsSenderStep (sender_of part old.progress) (sender_of part new.progress) puts
  pub inlet : new.inlet ≡ old.inlet

-- A step: what was left was put, and nothing else changed; or an event was taken; or, where all was taken that the notes
-- name, a line was done.
pub data MadeStep (part : PublisherPart) (old new : PublisherPostValue) : Type 0 where
  finished : (first : BridgeNote) (rest : List BridgeNote) → old.left ≡ first ∷ rest → new.progress ≡ old.progress → new.inlet ≡ old.inlet → MadeStep part old new
  took : (note : PublisherNote) → new.progress ≡ record old.progress { journal = old.progress.journal ++ Took note ∷ [] } → new.inlet.kept ≡ [] → MadeStep part old new
  did : IsCaughtUp old.inlet → DidLine part old new → MadeStep part old new

-- the seat, where an event that was fetched, with its port, counts as kept
abbrev pub holding : PublisherPostValue → ℕ → PublisherNote → PublisherPostValue
holding post port note = record post { inlet = record post.inlet { kept = (port, note) ∷ [] } }
