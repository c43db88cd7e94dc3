-- believed: The first line that is wrong, in plain words: it has lines before it that all fit, and it has the flaw itself.
use Rattle.std.specs.Prelude.{◌≡◌, ◌≢◌, ℕ, ◌+◌, ◌<◌, ◌≤◌, List, [], ◌∷◌, ◌++◌, length, map, ◌==◌, Option, Some, None, Result, Ok, Err, ◌⊎◌, if◌then◌else◌}
use Rattle.mama_words.specs.Parting.{pieces}
use Rattle.mama_words.specs.declared.version.Version.{Version}
use Rattle.mama_script.specs.declared.fault.Flaw.{Flaw}
use Rattle.mama_script.specs.declared.fault.Flaw.TheVariants.{Fault}
use Rattle.mama_script.specs.declared.line.Line.{Line}
use Rattle.mama_script.specs.Head.{may_end}
use Rattle.mama_script.specs.Line.{line_text}
use Rattle.mama_script.specs.Form.{form_in}
use Rattle.mama_script.specs.Before.{Before, start, after, flaw}
use Rattle.mama_script.specs.Names.{made_by, unnamed_from}
use Rattle.mama_script.specs.Placing.{cast_of, none_placed, misplaced_from}
use Rattle.mama_script.specs.Reading.{first_line, version_of, spelling, Fits, FitFrom}

-- what is so behind lines
abbrev pub behind : Before → List Line → Before
behind b [] = b
behind b (l ∷ ls) = behind (after b l) ls

-- each line fits those before it
abbrev pub EachFits : Before → List Line → Type 0
EachFits b [] = Unit {0}
EachFits b (l ∷ ls) = Fits b l × EachFits (after b l) ls

-- a line's own faults, and otherwise what the lines before it tell
abbrev pub flaw_of : Before → Result Line ℕ → Option Flaw
flaw_of b (Err fault) = Some (Fault fault)
flaw_of b (Ok line) = flaw b line

-- behind the last end of a line nothing stands, at a place where a script may end
abbrev pub flaw_at_end : Before → List ℕ → Option Flaw
flaw_at_end b rest = if length rest == 0 then (if may_end b.place then None else Some (Fault 3)) else Some (Fault 2)

-- the first of the pieces has the flaw. The last piece stands behind the last end of a line.
abbrev pub HasFlaw : Before → List (List ℕ) → Flaw → Type 0
HasFlaw b [] found = ⊥
HasFlaw b (rest ∷ []) found = flaw_at_end b rest ≡ Some found
HasFlaw b (text ∷ next ∷ more) found = flaw_of b (form_in b.version b.place text) ≡ Some found

-- the first line says no version
abbrev pub IsHeadless : List (List ℕ) → Type 0
IsHeadless [] = Unit {0}
IsHeadless (rest ∷ []) = Unit {0}
IsHeadless (first ∷ next ∷ more) = (v : Version) → first ≢ first_line v

-- behind the first line come lines that all fit, and then the one that has the flaw
pub record IsFirstFlaw (text : List ℕ) (line : ℕ) (found : Flaw) : Type 0 where
  pub version : Version
  pub lines : List Line
  pub rest : List (List ℕ)
  pub text_is : pieces 10 text ≡ first_line version ∷ (map line_text lines ++ rest)
  pub fit : EachFits (start version) lines
  pub number : line ≡ length lines + 2
  pub has : HasFlaw (behind (start version) lines) rest found

-- no line before this one was found, or none up to it
abbrev pub IsNoneBefore : ℕ → Option (ℕ × ℕ) → Type 0
IsNoneBefore line None = Unit {0}
IsNoneBefore line (Some found) = line ≤ found.0

abbrev pub IsNoneUpTo : ℕ → Option ℕ → Type 0
IsNoneUpTo line None = Unit {0}
IsNoneUpTo line (Some k) = line < k

-- All lines fit, and this is the first that names an object which is not in the script. No line before it has a group or a watch
-- that may not be.
pub record IsFirstUnnamed (text : List ℕ) (line : ℕ) : Type 0 where
  pub lines : List Line
  pub text_is : text ≡ spelling lines
  pub fit : FitFrom (start (version_of lines)) lines
  pub unnamed : unnamed_from (made_by lines) 2 lines ≡ Some line
  pub first : IsNoneBefore line (misplaced_from (cast_of lines) none_placed 2 lines)

-- All lines fit, and this is the first that has a group or a watch which may not be. No line up to it names an object which is not
-- in the script.
pub record IsFirstMisplaced (text : List ℕ) (line fault : ℕ) : Type 0 where
  pub lines : List Line
  pub text_is : text ≡ spelling lines
  pub fit : FitFrom (start (version_of lines)) lines
  pub misplaced : misplaced_from (cast_of lines) none_placed 2 lines ≡ Some (line, fault)
  pub first : IsNoneUpTo line (unnamed_from (made_by lines) 2 lines)

-- line 1, or the first line with a flaw, or the first that names what is not there or has a group or a watch that may not be
abbrev pub IsFirst : List ℕ → ℕ → Flaw → Type 0
IsFirst text line found =
    ((line ≡ 1) × (found ≡ Fault 1) × IsHeadless (pieces 10 text))
    ⊎ (IsFirstFlaw text line found
    ⊎ (((found ≡ Fault 10) × IsFirstUnnamed text line) ⊎ ((fault : ℕ) × (found ≡ Fault fault) × IsFirstMisplaced text line fault)))
