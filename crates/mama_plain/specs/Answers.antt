-- believed: What the source gave and what the log tells, where the top call says so.
use Rattle.std.specs.Prelude.{◌≡◌, ◌≤◌, length, ℕ, List, [], ⊤, Option, Some, IfSome}
use Rattle.mama_script.specs.Script.{ScriptData}
use Rattle.mama_script.specs.Tree.{IsScript, script_text}
use Rattle.mama_record.specs.RunData.{RunData}
use Rattle.mama_record.specs.LogText.{log_text}
use Rattle.mama_rules_rounds.specs.Round.{IsRound}
use Rattle.mama_seats.specs.Moments.{AreHeard}
use Rattle.mama_words.specs.declared.version.Version.{Version}
use Rattle.mama_log_read.specs.Logged.{HasLog, IsLogged}
use Rattle.mama_plain.specs.declared.status.Status.{Status}
use Rattle.mama_plain.specs.declared.status.Status.TheVariants as s

-- a source gave this text to its end, as far as it tells its bytes, and the text is not too long
pub record GaveAll (old new : Option (List ℕ)) (text : List ℕ) : Type 0 where
  pub whole : IfSome old (λ left. (text ≡ left) × (new ≡ Some []))
  pub within : length text ≤ 67108864

-- a text spells an accepted script
pub record IsAccepted (text : List ℕ) : Type 0 where
  pub script : ScriptData
  pub accepted : IsScript script
  pub spelled : text ≡ script_text script

-- The text spells an accepted script. The log, in the version of the script and with its ports named by the script's shape,
-- is that of the record that the script has when it is played in rounds, of which there is at most one for the moments that its clients read; and the log
-- tells no other record. The clock was called once for each line that reads it, in the order in which the rounds come to
-- those lines, and the moments in the record are its answers, where these moments were left to it before and are left to
-- it after the run.
pub record IsLogOf (before after : Option (List ℕ)) (text log : List ℕ) : Type 0 where
  pub script : ScriptData
  pub accepted : IsScript script
  pub spelled : text ≡ script_text script
  pub run : RunData
  pub round : IsRound script run
  pub heard : AreHeard before after script.clients run.clients
  pub told : log ≡ log_text script.version script.shape run
  pub logged : IsLogged script run
  pub only : (v : Version) (other : RunData) → HasLog script v → IsLogged script other → log ≡ log_text v script.shape other → run ≡ other

-- a fact of each answer before which no script was played
abbrev pub OnUnplayed : Status → Type 0 → Type 0
OnUnplayed s.Ok P = ⊤
OnUnplayed (s.WriteFault written) P = ⊤
OnUnplayed s.OutOfMemory P = ⊤
OnUnplayed _ P = P

-- a fact of every answer but Ok, that a log is not legal, and a write fault
abbrev pub OnSilent : Status → Type 0 → Type 0
OnSilent s.Ok P = ⊤
OnSilent (s.WriteFault written) P = ⊤
OnSilent (s.NotLegal rule actor) P = ⊤
OnSilent _ P = P

-- a fact of every answer but Ok and a write fault
abbrev pub OnUnwritten : Status → Type 0 → Type 0
OnUnwritten s.Ok P = ⊤
OnUnwritten (s.WriteFault written) P = ⊤
OnUnwritten _ P = P

-- how gen ends: all was written, a part was, or no memory was found
abbrev pub IsEndOfGen : Status → Type 0
IsEndOfGen s.Ok = ⊤
IsEndOfGen (s.WriteFault written) = ⊤
IsEndOfGen s.OutOfMemory = ⊤
IsEndOfGen _ = ⊥
