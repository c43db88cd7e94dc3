-- believed: a legal record is one that a log of its script can tell, and no other record has that log.
use Rattle.std.specs.Prelude.{◌≡◌, ℕ, ◌^◌, ◌<◌, ◌≤◌, List, length}
use Rattle.std.specs.List.{All}
use Rattle.mama_words.specs.declared.version.Version.{Version}
use Rattle.mama_script.specs.Script.{ScriptData}
use Rattle.mama_script.specs.Tree.{IsScript, script_text}
use Rattle.mama_script.specs.Within.{IsWithin}
use Rattle.mama_record.specs.RunData.{RunData}
use Rattle.mama_record.specs.LogText.{log_text}
use Rattle.mama_rules_legal.specs.Form.{IsFormed}
use Rattle.mama_rules_legal.specs.Legal.{IsLegal}
use Rattle.mama_log_read.specs.Logged.{IsMoment, HasLog, IsLogged}

-- the moments that clients read, each as its type has it
abbrev pub AreMoments : List (List ℕ) → Type 0
AreMoments clients = All (All IsMoment) clients

-- A legal record that has the form of the script's records, and moments as their type has them, is one that a log of the
-- script can tell, whichever thread ran what when. The script's text has at most 67,108,864 bytes, so numbers of updates
-- fit their type.
abbrev pub LegalRecordsAreLogged : Type 0
LegalRecordsAreLogged = (script : ScriptData) (run : RunData) → IsScript script → IsWithin script → length (script_text script) ≤ 67108864
    → AreMoments run.clients → IsFormed script run → IsLegal script run → IsLogged script run

-- The log of a record that a log can tell, in a version that the script has, is the log of no other such record, and in no other
-- version: so a log tells what happened, and all of it. It is a text that a memory can hold.
abbrev pub LogsTellOneRecord : Type 0
LogsTellOneRecord = (script : ScriptData) (v w : Version) (run other : RunData) → IsScript script → IsWithin script → HasLog script v → HasLog script w → IsLogged script run → IsLogged script other
    → length (log_text v script.shape run) < 2 ^ 64 → log_text v script.shape run ≡ log_text w script.shape other → (v ≡ w) × (run ≡ other)
