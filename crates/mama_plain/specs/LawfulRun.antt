-- believed: legal records keep the promises, and what a run on one thread is.
use Rattle.mama_record.specs.RunData.{RunData}
use Rattle.mama_script.specs.Script.{ScriptData}
use Rattle.mama_script.specs.Tree.{IsScript}
use Rattle.mama_rules_legal.specs.Legal.{IsLegal}
use Rattle.mama_check.specs.Causal.{IsCausal}
use Rattle.mama_plain.specs.Promises.{KeepsPromises}

-- a law: all this is so of every legal record of a script that a text spells
abbrev pub LegalRecordsKeepPromises : Type 0
LegalRecordsKeepPromises = (script : ScriptData) (run : RunData) → IsScript script → IsLegal script run → KeepsPromises script run

-- A run on one thread keeps the promises. And it is legal: every line was done, on every edge what was taken is all that was
-- put, in order, and the callbacks and images, and what groups heard and watches noted, are those that the queues' journals
-- make. And it is causal: one order of all entries and lines has each event taken after it was put.
pub record IsLawfulRun (script : ScriptData) (run : RunData) : Type 0 where
  pub legal : IsLegal script run
  pub causal : IsCausal script run
  pub promises : KeepsPromises script run
