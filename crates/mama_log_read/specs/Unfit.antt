-- believed: The first line of a text that does not fit a log of a script.
use Rattle.std.specs.Prelude.{◌≡◌, ℕ, suc, ◌^◌, ◌<◌, ◌≤◌, ⊤, List, [], ◌∷◌, ◌++◌, ◌⊎◌, length, Result, Ok, Err}
use Rattle.std.specs.List.{flat_map, AllByRecursion}
use Rattle.mama_event.specs.declared.shape.Shape.{Shape}
use Rattle.mama_words.specs.declared.version.Version.{Version}
use Rattle.mama_words.specs.declared.version.Version.TheVariants as version
use Rattle.mama_script.specs.Script.{ScriptData}
use Rattle.mama_record.specs.RunData.{RunData}
use Rattle.mama_record.specs.LogText.{LogSection, counted, told, title, log_sections, log_lines, log_text}
use Rattle.mama_words.specs.Parting.{pieces}
use Rattle.mama_log_read.specs.Logged.{HasLog, IsLogged}
use Rattle.mama_log_read.specs.declared.fault.LogFault.{LogFault}
use Rattle.mama_log_read.specs.declared.fault.LogFault.TheVariants as f

-- the number of lines that the first line of a section may tell: in version 2 it is one of 64 bits
abbrev pub IsTellable : Version → ℕ → Type 0
IsTellable version.One count = Unit {0}
IsTellable version.Two count = count < 2 ^ 64

abbrev pub HasTellable : Version → LogSection → Type 0
HasTellable v s = IsTellable v (length s.lines)

-- the first lines of a log of a record
pub record AreFirst (v : Version) (shape : Shape) (run : RunData) (lines : List (List ℕ)) : Type 0 where
  pub rest : List (List ℕ)
  pub whole : log_lines v shape run ≡ lines ++ rest
  pub tellable : AllByRecursion (HasTellable v) (log_sections shape run)

-- The lines of some whole sections of a log, and of one that is at hand. Its first line tells as many lines as stand behind
-- it so far, or more.
pub record AreAtHand (v : Version) (shape : Shape) (run : RunData) (lines : List (List ℕ)) : Type 0 where
  pub done : List LogSection
  pub section : LogSection
  pub left : List LogSection
  pub sections : log_sections shape run ≡ done ++ section ∷ left
  pub tellable : AllByRecursion (HasTellable v) done
  pub count : ℕ
  pub enough : length section.lines ≤ count
  pub small : IsTellable v count
  pub lines_are : lines ≡ title v shape.strategy ++ (flat_map (counted v) done ++ ((section.head ++ told v count) ∷ section.lines))

-- some whole lines that a log of the script begins with, in a version that the script has
pub record BeginLog (script : ScriptData) (lines : List (List ℕ)) : Type 0 where
  pub version : Version
  pub known : HasLog script version
  pub run : RunData
  pub logged : IsLogged script run
  pub begun : AreFirst version script.shape run lines ⊎ AreAtHand version script.shape run lines

-- a whole log of the script
pub record IsLogOf (script : ScriptData) (text : List ℕ) : Type 0 where
  pub version : Version
  pub known : HasLog script version
  pub run : RunData
  pub logged : IsLogged script run
  pub whole : text ≡ log_text version script.shape run

-- what comes then
abbrev pub Unfit : ScriptData → List ℕ → List (List ℕ) → List (List ℕ) → Type 0
Unfit script text before [] = ⊥
Unfit script text before (last ∷ []) = IsLogOf script text → ⊥
Unfit script text before (next ∷ more ∷ others) = BeginLog script (before ++ next ∷ []) → ⊥

-- The line of this number, counted from 1, is the first that does not fit. A log of the script begins with the lines before
-- it; and then either no log begins so and with this line, or there is no such line that is ended by LF, and more was to
-- come.
pub record IsFirstUnfit (script : ScriptData) (text : List ℕ) (number : ℕ) : Type 0 where
  pub before : List (List ℕ)
  pub rest : List (List ℕ)
  pub parted : pieces 10 text ≡ before ++ rest
  pub counted : number ≡ suc (length before)
  pub fits : BeginLog script before
  pub unfit : Unfit script text before rest

-- a fact of the line that does not fit
abbrev pub IfBad : LogFault → (ℕ → Type 0) → Type 0
IfBad (f.Bad number) P = P number
IfBad f.OutOfMemory P = ⊤

abbrev pub OnlyMemory : LogFault → Type 0
OnlyMemory (f.Bad number) = ⊥
OnlyMemory f.OutOfMemory = ⊤

-- the answer is this record, or want of memory
abbrev pub GivesRun : RunData → Result RunData LogFault → Type 0
GivesRun run (Ok given) = given ≡ run
GivesRun run (Err fault) = OnlyMemory fault
