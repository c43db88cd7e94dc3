-- believed: A publisher's seat: the publisher with its part of the script, its journal and its lane.
use Rattle.std.specs.Prelude.{◌≡◌, ℕ, Bool, true, false, List, [], ◌∷◌, ◌++◌, drop, replicate}
use Rattle.std.specs.List.{flat_map}
use Rattle.mama_journal.specs.Journal.{count_of, puts_after}
use Rattle.mama_event.specs.declared.publisher_entry.PublisherEntry.{PublisherEntry}
use Rattle.mama_event.specs.declared.publisher_entry.PublisherEntry.TheVariants.{Took}
use Rattle.mama_event.specs.declared.to_publisher.PublisherNote.{PublisherNote}
use Rattle.mama_event.specs.declared.to_bridge.BridgeNote.{BridgeNote}
use Rattle.mama_event.specs.Publisher.{PublisherScript, is_send, publisher_puts_at}
use Rattle.mama_msg.specs.Field.{FieldData}
use Rattle.mama_script.specs.declared.publisher.PublisherLine.{PublisherLine}
use Rattle.mama_script.specs.declared.publisher.PublisherPart.{PublisherPart}
use Rattle.mama_publisher.specs.Laws.{StandsAt}
use Rattle.mama_publisher.specs.Standing.{Standing}
use Rattle.mama_rules_rounds.specs.Sections.{sends_in}
use Rattle.mama_rules_rounds.specs.Round.{publisher_steps}

-- its script, its journal, what waits on its lane, whether it has sent all it has to send, how many steps it still
-- pauses, and the lines that are left
pub record Sender : Type 0 where
  pub script : PublisherScript
  pub journal : List PublisherEntry
  pub lane : List PublisherNote
  pub over : Bool
  pub pause : ℕ
  pub lines : List PublisherLine

-- the first of some steps, or nothing where there is none
abbrev pub first_step : {E : Type 0} → List (List E) → List E
first_step [] = []
first_step (step ∷ rest) = step

abbrev pub later_steps : {E : Type 0} → List (List E) → List (List E)
later_steps [] = []
later_steps (step ∷ rest) = rest

-- the publisher of a section, by its number
abbrev pub script_of : ℕ → List FieldData → List PublisherLine → PublisherScript
script_of n base lines = record { number = n; base = base; lines = flat_map sends_in lines }

abbrev pub steps_after : Bool → ℕ → List PublisherLine → List (List PublisherEntry)
steps_after true pause lines = []
steps_after false pause lines = replicate pause [] ++ publisher_steps lines

-- the steps that it has still to make
abbrev pub steps_in : Sender → List (List PublisherEntry)
steps_in s = steps_after s.over s.pause s.lines

-- a publisher takes the first event of its lane
abbrev pub taken : Sender → List PublisherNote → Sender
taken s [] = s
taken s (note ∷ rest) = record s { lane = rest; journal = s.journal ++ Took note ∷ [] }

abbrev pub taken_puts : Sender → List PublisherNote → List BridgeNote
taken_puts s [] = []
taken_puts s (note ∷ rest) = publisher_puts_at s.script s.journal (Took note)

-- a publisher made its next step, and these are its puts
pub record IsSenderStep (old new : Sender) (puts : List BridgeNote) : Type 0 where
  pub script : new.script ≡ old.script
  pub lane : new.lane ≡ old.lane
  pub journal : new.journal ≡ old.journal ++ first_step (steps_in old)
  pub steps : steps_in new ≡ later_steps (steps_in old)
  pub puts_are : puts ≡ puts_after (publisher_puts_at old.script) old.journal (first_step (steps_in old))

-- what a seat keeps: the publisher stands where its journal says, and what its script has still to send is what the
-- lines that are left send
pub record IsSeated (script : PublisherScript) (journal : List PublisherEntry) (p : Standing) (left : List PublisherLine) : Type 0 where
  pub stands : StandsAt script journal p
  pub unsent : drop (count_of is_send journal) script.lines ≡ flat_map sends_in left

-- the publisher, its journal, the place of its next line in its section, how many steps it still pauses, and whether it
-- has sent all it has to send
pub record Progress : Type 0 where
  pub publisher : Standing
  pub journal : List PublisherEntry
  pub line : ℕ
  pub pause : ℕ
  pub over : Bool

-- a publisher that begins with this record and goes through these lines, with nothing on its lane
abbrev pub sender_in : List FieldData → List PublisherLine → Progress → Sender
sender_in base lines s = record { script = script_of s.publisher.number base lines; journal = s.journal; lane = []; over = s.over; pause = s.pause; lines = drop s.line lines }

abbrev pub IsSeatedIn : List FieldData → List PublisherLine → Progress → Type 0
IsSeatedIn base lines s = IsSeated (script_of s.publisher.number base lines) s.journal s.publisher (drop s.line lines)

-- the same of a section of a script
abbrev pub sender_of : PublisherPart → Progress → Sender
sender_of part s = sender_in part.base part.lines s

abbrev pub IsSeatedAt : PublisherPart → Progress → Type 0
IsSeatedAt part s = IsSeatedIn part.base part.lines s
