-- believed: What rewrite writes: the same script and record in version 2.
use Rattle.std.specs.Prelude.{◌≡◌, ℕ, List, ◌++◌, codes, None, ◌⊎◌}
use Rattle.mama_words.specs.declared.version.Version.{Version}
use Rattle.mama_words.specs.declared.version.Version.TheVariants.{Two}
use Rattle.mama_script.specs.Script.{ScriptData}
use Rattle.mama_script.specs.Tree.{IsScript, script_text, in_two}
use Rattle.mama_record.specs.RunData.{RunData}
use Rattle.mama_record.specs.LogText.{line, log_text}
use Rattle.mama_log_read.specs.Logged.{HasLog, IsLogged}
use Rattle.mama_plain.specs.Parts.{log_part}
use Rattle.mama_plain.specs.Answers.{IsAccepted}
use Rattle.mama_plain.specs.Verdict.{IsChecked}

-- a text is an accepted script alone, and what was written is the script in version 2
pub record IsScriptInTwo (text out : List ℕ) : Type 0 where
  pub script : ScriptData
  pub accepted : IsScript script
  pub alone : log_part text ≡ None
  pub whole : text ≡ script_text script
  pub written : out ≡ script_text (in_two script)

-- a text is an accepted script, the line `log`, and the log of a record in a version that the script has; and what was written
-- is the script in version 2, the line `log`, and the log of the same record in version 2
pub record IsLogInTwo (text out : List ℕ) : Type 0 where
  pub script : ScriptData
  pub accepted : IsScript script
  pub run : RunData
  pub logged : IsLogged script run
  pub version : Version
  pub known : HasLog script version
  pub whole : text ≡ script_text script ++ (line (codes "log") ++ log_text version script.shape run)
  pub written : out ≡ script_text (in_two script) ++ (line (codes "log") ++ log_text Two script.shape run)

-- what was written of a text is the same in version 2
abbrev pub IsInTwo : List ℕ → List ℕ → Type 0
IsInTwo text out = IsScriptInTwo text out ⊎ IsLogInTwo text out

-- a text that rewrite takes: an accepted script, and perhaps the line `log` and a log that the script can have
abbrev pub IsTaken : List ℕ → Type 0
IsTaken text = (IsAccepted text × (log_part text ≡ None)) ⊎ IsChecked text
