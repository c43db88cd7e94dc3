-- inner: what a text tells, and why there is no verdict on it.
use Rattle.std.specs.Prelude.{◌≡◌, ℕ, ⊤, List, ◌++◌, codes, Option, Err}
use Rattle.mama_script.specs.Script.{ScriptData}
use Rattle.mama_script.specs.Reading.{script_in}
use Rattle.mama_script.specs.declared.fault.ScriptFault.TheVariants as f
use Rattle.mama_record.specs.RunData.{RunData}
use Rattle.mama_script.specs.Tree.{IsScript, script_text}
use Rattle.mama_record.specs.LogText.{line, log_text}
use Rattle.mama_words.specs.declared.version.Version.{Version}
use Rattle.mama_log_read.specs.Logged.{HasLog, IsLogged}
use Rattle.mama_plain.specs.Verdict.{TellsOnly, IsBadLog}
use Rattle.mama_plain.specs.declared.check.NoVerdict.{NoVerdict}
use Rattle.mama_plain.specs.declared.check.NoVerdict.TheVariants as n

-- a text is an accepted script, the line `log`, and a log of a record of that script, and tells no other
pub record IsToldBy (text : List ℕ) (script : ScriptData) (run : RunData) : Type 0 where
  pub accepted : IsScript script
  pub logged : IsLogged script run
  pub version : Version
  pub known : HasLog script version
  pub whole : text ≡ script_text script ++ (line (codes "log") ++ log_text version script.shape run)
  pub only : TellsOnly text script run

-- why there is no verdict: what is wrong with the script or, where it is accepted, with its log; or want of memory
abbrev pub IsNoVerdict : List ℕ → Option (List ℕ) → NoVerdict → Type 0
IsNoVerdict front behind (n.Script (f.Bad line fault)) = script_in front ≡ Err (f.Bad line fault)
IsNoVerdict front behind (n.Script (f.OverLimit line limit)) = script_in front ≡ Err (f.OverLimit line limit)
IsNoVerdict front behind (n.Log line) = IsBadLog front behind line
IsNoVerdict front behind _ = ⊤
