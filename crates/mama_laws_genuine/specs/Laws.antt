-- believed: laws of links without fault rows in each legal record, whichever thread ran what when.
use Rattle.mama_script.specs.Script.{ScriptData}
use Rattle.mama_record.specs.RunData.{RunData}
use Rattle.mama_rules_legal.specs.Legal.{IsLegal}
use Rattle.mama_laws_legal.specs.Laws.{IsOrderly}
use Rattle.mama_laws_genuine.specs.CalmLinks.{AreLinksCalm}
use Rattle.mama_laws_genuine.specs.GivenAll.{AreAllGiven}

-- subscriptions on them are told no gap, no change of quality and no late update
abbrev pub LegalLinksAreCalm : Type 0
LegalLinksAreCalm = (script : ScriptData) (run : RunData) → IsOrderly script → IsLegal script run → AreLinksCalm script run

-- market subscriptions on them are given each update that was sent
abbrev pub LegalUpdatesAreGiven : Type 0
LegalUpdatesAreGiven = (script : ScriptData) (run : RunData) → IsOrderly script → IsLegal script run → AreAllGiven script run
