-- believed: How the lines of a text are read: the lines, or the first line that has a fault or passes a limit.
use Rattle.std.specs.Prelude.{◌≡◌, ℕ, suc, codes, true, ◌==◌, nat_le, List, [], ◌∷◌, ◌++◌, length, Option, Some, None, Result, Ok, Err, if◌then◌else◌}
use Rattle.std.specs.List.{flat_map}
use Rattle.std.specs.Str.{bytes_eq}
use Rattle.mama_words.specs.Parting.{pieces}
use Rattle.mama_words.specs.declared.version.Version.{Version}
use Rattle.mama_words.specs.declared.version.Version.TheVariants as version
use Rattle.mama_script.specs.declared.head.Place.{Place}
use Rattle.mama_script.specs.declared.fault.Flaw.{Flaw}
use Rattle.mama_script.specs.declared.fault.Flaw.TheVariants.{Fault, Limit}
use Rattle.mama_script.specs.declared.fault.ScriptFault.{ScriptFault}
use Rattle.mama_script.specs.declared.fault.ScriptFault.TheVariants.{Bad, OverLimit}
use Rattle.mama_script.specs.declared.line.Line.{Line}
use Rattle.mama_script.specs.declared.line.Line.TheVariants as lines
use Rattle.mama_script.specs.Head.{allows, may_end}
use Rattle.mama_script.specs.Line.{head_of, IsLine, ended}
use Rattle.mama_script.specs.Form.{form_in}
use Rattle.mama_script.specs.Before.{Before, start, after, flaw}
use Rattle.mama_script.specs.Names.{made_by, unnamed_from}
use Rattle.mama_script.specs.Placing.{cast_of, none_placed, misplaced_from}

-- first the one, then the other; what is wrong with the one if something is
abbrev pub and_then : {A B : Type 0} → Result A ScriptFault → (A → Result B ScriptFault) → Result B ScriptFault
and_then (Ok x) f = f x
and_then (Err e) f = Err e

-- a flaw of the line of this number
abbrev pub at_line : ℕ → Flaw → ScriptFault
at_line k (Fault n) = Bad k n
at_line k (Limit n) = OverLimit k n

-- a line that has its form, unless the lines before it tell a flaw
abbrev pub unless_flawed : ℕ → Line → Option Flaw → Result Line ScriptFault
unless_flawed k line None = Ok line
unless_flawed k line (Some found) = Err (at_line k found)

abbrev pub judged : Before → ℕ → Result Line ℕ → Result Line ScriptFault
judged b k (Err fault) = Err (Bad k fault)
judged b k (Ok line) = unless_flawed k line (flaw b line)

-- the line of this number that a text spells behind the lines before it
abbrev pub line_in : Before → ℕ → List ℕ → Result Line ScriptFault
line_in b k text = judged b k (form_in b.version b.place text)

-- what is wrong with what stands behind the last line's end: it is to be nothing, at a place where a script may end
abbrev pub end_fault : Place → ℕ → List ℕ → Option ScriptFault
end_fault place k rest = if length rest == 0 then (if may_end place then None else Some (Bad k 3)) else Some (Bad k 2)

abbrev pub unless_faulty : Option ScriptFault → Result (List Line) ScriptFault
unless_faulty None = Ok []
unless_faulty (Some fault) = Err fault

abbrev pub end_in : Before → ℕ → List ℕ → Result (List Line) ScriptFault
end_in b k rest = unless_faulty (end_fault b.place k rest)

abbrev pub line_first : Line → List Line → Result (List Line) ScriptFault
line_first line ls = Ok (line ∷ ls)

-- the lines that the pieces between the line ends spell, of which the first has the number k
abbrev pub read_from : Before → ℕ → List (List ℕ) → Result (List Line) ScriptFault
read_from b k [] = Err (Bad k 3)
read_from b k (rest ∷ []) = end_in b k rest
read_from b k (text ∷ next ∷ more) = and_then (line_in b k text) (λ line. and_then (read_from (after b line) (suc k) (next ∷ more)) (line_first line))

-- the first line of a version
abbrev pub first_line : Version → List ℕ
first_line version.One = codes "mama script 1"
first_line version.Two = codes "mama script 2"

-- the version that a first line says
abbrev pub version_in : List ℕ → Option Version
version_in text =
    if bytes_eq text (first_line version.One) then Some version.One
    else (if bytes_eq text (first_line version.Two) then Some version.Two else None)

-- the lines behind the first, if it says a version
abbrev pub read_version : Option Version → List (List ℕ) → Result (List Line) ScriptFault
read_version None ps = Err (Bad 1 1)
read_version (Some v) ps = read_from (start v) 2 ps

abbrev pub lines_in : List (List ℕ) → Result (List Line) ScriptFault
lines_in [] = Err (Bad 1 1)
lines_in (rest ∷ []) = Err (Bad 1 1)
lines_in (first ∷ next ∷ more) = read_version (version_in first) (next ∷ more)

abbrev pub unless_wrong : List Line → Option ScriptFault → Result (List Line) ScriptFault
unless_wrong ls None = Ok ls
unless_wrong ls (Some fault) = Err fault

-- Which comes first: the line of this number, which names an object that is not in the script, or the one whose group or watch
-- may not be, with its fault. On one line it is the object.
abbrev pub earlier : Option ℕ → Option (ℕ × ℕ) → Option ScriptFault
earlier None None = None
earlier (Some k) None = Some (Bad k 10)
earlier None (Some found) = Some (Bad found.0 found.1)
earlier (Some k) (Some found) = if nat_le k found.0 then Some (Bad k 10) else Some (Bad found.0 found.1)

-- what the second look finds
abbrev pub second_fault : List Line → Option ScriptFault
second_fault ls = earlier (unnamed_from (made_by ls) 2 ls) (misplaced_from (cast_of ls) none_placed 2 ls)

-- the second look, where nothing else is wrong
abbrev pub named_or_fault : List Line → Result (List Line) ScriptFault
named_or_fault ls = unless_wrong ls (second_fault ls)

-- the lines of a script, or what is wrong with the text
abbrev pub script_in : List ℕ → Result (List Line) ScriptFault
script_in text = and_then (lines_in (pieces 10 text)) named_or_fault

-- the version that has these lines: the line behind the first tells the strategy in version 2 alone
abbrev pub version_of : List Line → Version
version_of (lines.Strategy strategy ∷ ls) = version.Two
version_of _ = version.One

-- the text that lines spell
abbrev pub spelling : List Line → List ℕ
spelling ls = (first_line (version_of ls) ++ 10 ∷ []) ++ flat_map ended ls

-- a line fits those before it
pub record Fits (b : Before) (l : Line) : Type 0 where
  pub form : IsLine b.version l
  pub place : allows b.place (head_of l) ≡ true
  pub sound : flaw b l ≡ None

-- each line fits those before it, and the script may end behind the last
abbrev pub FitFrom : Before → List Line → Type 0
FitFrom b [] = may_end b.place ≡ true
FitFrom b (l ∷ ls) = Fits b l × FitFrom (after b l) ls

-- lines that are accepted
pub record AreAccepted (ls : List Line) : Type 0 where
  pub fit : FitFrom (start (version_of ls)) ls
  pub named : unnamed_from (made_by ls) 2 ls ≡ None
  pub placed : misplaced_from (cast_of ls) none_placed 2 ls ≡ None
