-- believed: in the record of a run in rounds each event is taken after it was put.
use Rattle.mama_script.specs.Script.{ScriptData}
use Rattle.mama_record.specs.RunData.{RunData}
use Rattle.mama_rules_rounds.specs.Round.{IsRound}
use Rattle.mama_laws_legal.specs.Laws.{IsOrderly}
use Rattle.mama_check.specs.Causal.{IsCausal}

-- one order of all entries and client lines keeps each actor's own order, and has each event taken after it was put
abbrev pub RoundsAreCausal : Type 0
RoundsAreCausal = (script : ScriptData) (run : RunData) → IsOrderly script → IsRound script run → IsCausal script run
