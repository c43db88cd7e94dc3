-- believed: What check writes and answers: the verdict on a text, or the first line that does not fit.
use Rattle.std.specs.Prelude.{◌≡◌, ◌⊎◌, ◌+◌, ℕ, Bool, true, false, List, ◌∷◌, ◌++◌, codes, Option, Some, None}
use Rattle.mama_edge.specs.Decimal.{decimal}
use Rattle.mama_edge.specs.Told.{Appended, Kept}
use Rattle.mama_words.specs.Id.{object_text}
use Rattle.mama_script.specs.Script.{ScriptData}
use Rattle.mama_script.specs.Tree.{IsScript, script_text}
use Rattle.mama_record.specs.RunData.{RunData}
use Rattle.mama_record.specs.LogText.{line, log_text}
use Rattle.mama_words.specs.declared.version.Version.{Version}
use Rattle.mama_log_read.specs.Logged.{HasLog, IsLogged}
use Rattle.mama_log_read.specs.Unfit.{IsFirstUnfit}
use Rattle.mama_check.specs.declared.verdict.Actor.{Actor}
use Rattle.mama_check.specs.declared.verdict.Actor.TheVariants as actor
use Rattle.mama_check.specs.declared.verdict.Verdict.{Verdict}
use Rattle.mama_check.specs.declared.verdict.Verdict.TheVariants as verdict
use Rattle.mama_check.specs.Verdict.{Judges}
use Rattle.mama_plain.specs.Command.{is_check, is_replay}
use Rattle.mama_plain.specs.Parts.{line_count}

-- THE TEXT OF A VERDICT

-- an actor, as a log names who put an entry, and an object by its id
abbrev pub actor_text : Actor → List ℕ
actor_text (actor.Client c) = 99 ∷ decimal c
actor_text (actor.Publisher p) = 112 ∷ decimal p
actor_text actor.Bridge = codes "b"
actor_text actor.Timers = codes "t"
actor_text (actor.Queue q) = 113 ∷ decimal q
actor_text (actor.Object object) = object_text object
actor_text (actor.Group number) = 103 ∷ decimal number
actor_text (actor.Watch number) = 119 ∷ decimal number

abbrev pub causal_text : Bool → List ℕ
causal_text true = codes "causal yes"
causal_text false = codes "causal no"

-- the lines of a verdict
abbrev pub verdict_text : Verdict → List ℕ
verdict_text (verdict.Legal causal) = line (codes "legal") ++ line (causal_text causal)
verdict_text (verdict.NotLegal rule actor) = line (codes "not legal L" ++ decimal rule ++ 32 ∷ actor_text actor)

-- THE VERDICT ON A TEXT

-- a text is an accepted script, the line `log`, and a log that the script can have, in either version that it knows
pub record IsChecked (text : List ℕ) : Type 0 where
  pub script : ScriptData
  pub accepted : IsScript script
  pub run : RunData
  pub logged : IsLogged script run
  pub version : Version
  pub known : HasLog script version
  pub whole : text ≡ script_text script ++ (line (codes "log") ++ log_text version script.shape run)

-- a text tells this record of this script, and no other of any
abbrev pub TellsOnly : List ℕ → ScriptData → RunData → Type 0
TellsOnly text script run = (s : ScriptData) (v : Version) (r : RunData) → IsScript s → HasLog s v → IsLogged s r → text ≡ script_text s ++ (line (codes "log") ++ log_text v s.shape r)
    → (s ≡ script) × (r ≡ run)

-- The text is an accepted script, the line `log`, and the log of a record of that script, and tells no other; the verdict
-- is that on the record; and these are the verdict's lines.
pub record IsVerdictOf (text : List ℕ) (verdict : Verdict) (out : List ℕ) : Type 0 where
  pub script : ScriptData
  pub accepted : IsScript script
  pub run : RunData
  pub logged : IsLogged script run
  pub version : Version
  pub known : HasLog script version
  pub whole : text ≡ script_text script ++ (line (codes "log") ++ log_text version script.shape run)
  pub only : TellsOnly text script run
  pub judged : Judges script run verdict
  pub told : out ≡ verdict_text verdict

-- Who says that a log is not legal, and what was written then: check its verdict, and replay nothing. The first list are the
-- words of the command, and the last the lines of the verdict.
abbrev pub IsRefusalBy : List (List ℕ) → Option (List ℕ) → Option (List ℕ) → List ℕ → Type 0
IsRefusalBy words old new out = ((is_check words ≡ true) × Appended old new out) ⊎ ((is_replay words ≡ true) × Kept old new)

-- THE FIRST LINE THAT DOES NOT FIT

-- The number of a line among all: the first that does not fit in the log, behind the script's lines and the line `log`; or,
-- with no such line, the one behind the last.
abbrev pub IsUnfitLine : ScriptData → List ℕ → Option (List ℕ) → ℕ → Type 0
IsUnfitLine script front None number = number ≡ line_count front + 1
IsUnfitLine script front (Some log) number = (k : ℕ) × IsFirstUnfit script log k × (number ≡ line_count front + 1 + k)

-- what stands in front is an accepted script, and this line is the first that does not fit
pub record IsBadLog (front : List ℕ) (behind : Option (List ℕ)) (number : ℕ) : Type 0 where
  pub script : ScriptData
  pub accepted : IsScript script
  pub spelled : front ≡ script_text script
  pub unfit : IsUnfitLine script front behind number
