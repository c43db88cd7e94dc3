-- believed: what a log of a script can tell, a log of the same script in version 2 can tell too, and it is legal there just where it was.
use Rattle.std.specs.Prelude.{◌↔◌}
use Rattle.mama_script.specs.Script.{ScriptData}
use Rattle.mama_script.specs.Tree.{in_two}
use Rattle.mama_record.specs.RunData.{RunData}
use Rattle.mama_rules_legal.specs.Legal.{IsLegal}
use Rattle.mama_log_read.specs.Logged.{IsLogged}

-- No rule looks at the version: a record of a script is one of the same script in version 2. A log of that one may have lists
-- of numbers too, so it can tell more.
pub record IsSameInTwo (script : ScriptData) (run : RunData) : Type 0 where
  pub logged : IsLogged script run → IsLogged (in_two script) run
  pub legal : IsLegal script run ↔ IsLegal (in_two script) run

abbrev pub RecordsStayInTwo : Type 0
RecordsStayInTwo = (script : ScriptData) (run : RunData) → IsSameInTwo script run
