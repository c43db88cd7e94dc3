-- believed: laws of the callbacks, groups and watches of each legal record, whichever thread ran what when.
use Rattle.mama_script.specs.Script.{ScriptData}
use Rattle.mama_script.specs.Tree.{IsScript}
use Rattle.mama_record.specs.RunData.{RunData}
use Rattle.mama_rules_legal.specs.Legal.{IsLegal}
use Rattle.mama_laws_legal.specs.Laws.{IsOrderly}
use Rattle.mama_laws_callbacks.specs.Told.{AreTold}
use Rattle.mama_laws_callbacks.specs.Plain.{ArePlainlyTold}
use Rattle.mama_laws_callbacks.specs.Grouped.{AreTrueGroups}
use Rattle.mama_laws_callbacks.specs.Watched.{AreTrueWatches}

-- each object is told all that is meant for it
abbrev pub LegalRecordsTellAll : Type 0
LegalRecordsTellAll = (script : ScriptData) (run : RunData) → IsOrderly script → IsLegal script run → AreTold script run

-- market subscriptions on links without fault rows are told just what was sent
abbrev pub LegalRecordsTellPlainly : Type 0
LegalRecordsTellPlainly = (script : ScriptData) (run : RunData) → IsOrderly script → IsLegal script run → ArePlainlyTold script run

-- where a text spells the script, what groups heard is true
abbrev pub LegalGroupsAreTrue : Type 0
LegalGroupsAreTrue = (script : ScriptData) (run : RunData) → IsScript script → IsLegal script run → AreTrueGroups script run

-- what watches noted is true
abbrev pub LegalWatchesAreTrue : Type 0
LegalWatchesAreTrue = (script : ScriptData) (run : RunData) → IsLegal script run → AreTrueWatches script run
