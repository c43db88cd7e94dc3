-- inner: Worked rows: small texts and lists of lines, computed.
use Rattle.std.specs.Prelude.{◌≡◌, ℕ, codes, List, [], ◌∷◌, ◌++◌, Some, None, Err, refl}
use Rattle.mama_link.specs.declared.faults.Fault.TheVariants.{Lose, Dup}
use Rattle.mama_words.specs.declared.id.IdWord.{IdWord}
use Rattle.mama_words.specs.declared.order.OrderWord.TheVariants.{Stop, Close}
use Rattle.mama_event.specs.declared.market.SubKind.TheVariants.{Market}
use Rattle.mama_script.specs.declared.fault.Flaw.TheVariants.{Fault}
use Rattle.mama_script.specs.declared.fault.ScriptFault.TheVariants.{Bad}
use Rattle.mama_script.specs.declared.line.QueueName.TheVariants.{Number, Any}
use Rattle.mama_script.specs.declared.line.Line.{Line}
use Rattle.mama_script.specs.declared.line.Line.TheVariants as lines
use Rattle.mama_script.specs.Head.{head_in}
use Rattle.mama_script.specs.Form.{form_in, strategy_line_in}
use Rattle.mama_script.specs.Before.{Before, start, flaw}
use Rattle.mama_script.specs.Names.{made_by, unnamed_from}
use Rattle.mama_script.specs.Reading.{script_in}
use Rattle.mama_script.specs.Reading as reading
use Rattle.mama_words.specs.declared.version.Version.{Version}
use Rattle.mama_words.specs.declared.version.Version.TheVariants as version
use Rattle.mama_script.specs.First.{behind}

abbrev first_line : List ℕ
first_line = reading.first_line version.One

-- the text whose lines, each ended, are these behind the first
abbrev pub text_of : List (List ℕ) → List ℕ
text_of [] = []
text_of (line ∷ lines) = line ++ 10 ∷ text_of lines

-- no text has line 1, nor has one with another first line
pub empty_row : script_in [] ≡ Err (Bad 1 1)
empty_row = refl

pub other_row : script_in (text_of (codes "mama script 3" ∷ [])) ≡ Err (Bad 1 1)
other_row = refl

-- the queues are missing, at the number of lines plus one
pub missing_row : script_in (text_of (first_line ∷ [])) ≡ Err (Bad 2 3)
missing_row = refl

-- the last line has no end
pub unended_row : script_in (text_of (first_line ∷ []) ++ codes "client") ≡ Err (Bad 2 2)
unended_row = refl

-- a space at a line's end, and a client in the place of the queues
pub space_row : script_in (text_of (first_line ∷ codes "client " ∷ [])) ≡ Err (Bad 2 2)
unfolding form_in
space_row = refl

pub place_row : script_in (text_of (first_line ∷ codes "client" ∷ [])) ≡ Err (Bad 2 3)
unfolding form_in head_in
place_row = refl

-- version 2 tells its strategy, 1 or 2, behind the first line, and version 1 has no such line
abbrev second_version : List ℕ
second_version = reading.first_line version.Two

pub strategy_missing_row : script_in (text_of (second_version ∷ codes "queues 1" ∷ [])) ≡ Err (Bad 2 3)
unfolding form_in head_in
strategy_missing_row = refl

pub third_strategy_row : script_in (text_of (second_version ∷ codes "strategy 3" ∷ [])) ≡ Err (Bad 2 5)
unfolding form_in head_in strategy_line_in
third_strategy_row = refl

pub strategy_too_early_row : script_in (text_of (first_line ∷ codes "strategy 1" ∷ [])) ≡ Err (Bad 2 3)
unfolding form_in head_in
strategy_too_early_row = refl

-- two queues, a topic, a publisher of it and a client
abbrev opening : List Line
opening = lines.Queues 2 ∷ lines.Topic (codes "A") ∷ lines.Publisher 0 [] ∷ lines.Recap ∷ lines.Recap ∷ lines.Client ∷ []

abbrev opened : Before
opened = behind (start version.One) opening

-- queue 1 is there, queue 2 is not, nor is topic 1; the topic's fault comes with a subscription's first
pub queue_row : flaw opened (lines.Inbox (Number 1)) ≡ None
queue_row = refl

pub no_queue_row : flaw opened (lines.Inbox (Number 2)) ≡ Some (Fault 9)
no_queue_row = refl

pub no_topic_row : flaw opened (lines.Sub 1 Market Any 0 0) ≡ Some (Fault 9)
no_topic_row = refl

-- two recap lines weigh 130 for each subscription of their topic
pub weight_row : (behind opened (lines.Sub 0 Market Any 0 0 ∷ lines.Sub 0 Market Any 0 0 ∷ [])).weight ≡ 260
weight_row = refl

-- an interval of 0, behind a queue that is not there
pub interval_row : flaw opened (lines.Timer Any 0) ≡ Some (Fault 12)
interval_row = refl

pub queue_first_row : flaw opened (lines.Timer (Number 2) 0) ≡ Some (Fault 9)
queue_first_row = refl

-- a fault index that is repeated, and one that another object has
pub repeated_row : flaw (behind opened (lines.Inbox Any ∷ lines.Fault (record { index = 3; fault = Lose }) ∷ [])) (lines.Fault (record { index = 3; fault = Dup })) ≡ Some (Fault 11)
repeated_row = refl

pub fresh_row : flaw (behind opened (lines.Inbox Any ∷ lines.Fault (record { index = 3; fault = Lose }) ∷ lines.Inbox Any ∷ [])) (lines.Fault (record { index = 3; fault = Dup })) ≡ None
fresh_row = refl

abbrev first_of : ℕ → IdWord
first_of client = record { client = client; number = 0 }

abbrev planned : ℕ → Line
planned call = lines.At call (Close (first_of 0))

-- a ninth order of one call
pub ninth_row : flaw (behind opened (lines.Inbox Any ∷ planned 2 ∷ planned 2 ∷ planned 2 ∷ planned 2 ∷ planned 1 ∷ planned 2 ∷ planned 2 ∷ planned 2 ∷ planned 2 ∷ [])) (planned 2) ≡ Some (Fault 11)
ninth_row = refl

pub eighth_row : flaw (behind opened (lines.Inbox Any ∷ planned 2 ∷ planned 2 ∷ planned 2 ∷ planned 2 ∷ planned 1 ∷ planned 2 ∷ planned 2 ∷ planned 2 ∷ [])) (planned 2) ≡ None
eighth_row = refl

-- a line may name an object that comes later, of another client; the first that is not there is told
abbrev named : List Line
named = lines.Queues 1 ∷ lines.Client ∷ lines.Order (Close (first_of 1)) ∷ lines.Client ∷ lines.Inbox Any ∷ []

pub later_row : unnamed_from (made_by named) 2 named ≡ None
later_row = refl

pub unnamed_row : unnamed_from (made_by (named ++ lines.Order (Close (first_of 0)) ∷ lines.Order (Stop (first_of 1)) ∷ [])) 2 (named ++ lines.Order (Close (first_of 0)) ∷ lines.Order (Stop (first_of 1)) ∷ []) ≡ Some 7
unnamed_row = refl
