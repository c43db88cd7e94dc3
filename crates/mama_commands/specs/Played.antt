-- believed: What the log of a run on threads tells.
use Rattle.std.specs.Prelude.{◌≡◌, ℕ, List}
use Rattle.mama_script.specs.Script.{ScriptData}
use Rattle.mama_script.specs.Tree.{IsScript, script_text}
use Rattle.mama_record.specs.RunData.{RunData}
use Rattle.mama_record.specs.LogText.{log_text}
use Rattle.mama_words.specs.declared.version.Version.{Version}
use Rattle.mama_log_read.specs.Logged.{HasLog, IsLogged}
use Rattle.mama_rules_legal.specs.Legal.{IsLegal}
use Rattle.mama_plain.specs.Promises.{KeepsPromises}

-- A run on threads is legal, whichever thread ran what when: every line was done, on every edge what was taken is all that
-- was put, in order, and the callbacks and images, and what groups heard and watches noted, are those that the queues'
-- journals make. A log of the script can tell it. And it keeps the promises.
pub record IsPlay (script : ScriptData) (run : RunData) : Type 0 where
  pub legal : IsLegal script run
  pub logged : IsLogged script run
  pub promised : KeepsPromises script run

-- The text spells an accepted script. The log, in the version of the script and with its ports named by the script's shape, is that
-- of the record of a run of it on threads, and tells no other record.
pub record IsPlayLogOf (text log : List ℕ) : Type 0 where
  pub script : ScriptData
  pub accepted : IsScript script
  pub spelled : text ≡ script_text script
  pub run : RunData
  pub play : IsPlay script run
  pub told : log ≡ log_text script.version script.shape run
  pub only : (v : Version) (other : RunData) → HasLog script v → IsLogged script other → log ≡ log_text v script.shape other → run ≡ other
