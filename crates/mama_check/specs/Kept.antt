-- believed: A record that keeps all rules is legal, and no other is.
use Rattle.std.specs.Prelude.{◌↔◌, ℕ, ◌<◌, length}
use Rattle.mama_event.specs.Ports.{queues_of}
use Rattle.mama_script.specs.Script.{ScriptData}
use Rattle.mama_record.specs.RunData.{RunData}
use Rattle.mama_rules_rounds.specs.Sections.{setting_of}
use Rattle.mama_rules_legal.specs.Form.{IsCounted, IsFormed}
use Rattle.mama_laws_legal.specs.Laws.{IsOrderly}
use Rattle.mama_rules_legal.specs.Legal.{IsLegal}
use Rattle.mama_check.specs.Rules.{KeepsMoments, KeepsLines, KeepsPublisherEdge, KeepsBridgeEdges, KeepsTimersEdges, KeepsQueueEdges, KeepsCalls, KeepsImages, KeepsGroup, KeepsWatch}

-- All actors keep all rules.
pub record AreKept (script : ScriptData) (run : RunData) : Type 0 where
  pub moments : (c : ℕ) → c < length script.clients → KeepsMoments script run c
  pub lines : (p : ℕ) → p < length script.publishers → KeepsLines script run p
  pub publishers : (p : ℕ) → p < length script.publishers → KeepsPublisherEdge script run p
  pub bridge : KeepsBridgeEdges script run
  pub timers : KeepsTimersEdges script run
  pub queues : (q : ℕ) → q < queues_of script.shape → KeepsQueueEdges script run q
  pub calls : (k : ℕ) → k < length (setting_of script).objects → KeepsCalls script run k
  pub images : KeepsImages script run
  pub groups : (k : ℕ) → k < length script.groups → KeepsGroup script run k
  pub watches : (k : ℕ) → k < length script.watches → KeepsWatch script run k

-- A law: the record of a script is legal exactly where all rules are kept.
abbrev pub KeptIsLegal : Type 0
KeptIsLegal = (script : ScriptData) (run : RunData) → IsOrderly script → IsCounted script run → AreKept script run ↔ IsLegal script run

-- A law: a legal record has the form of the script's records, so that it may be judged.
abbrev pub LegalIsFormed : Type 0
LegalIsFormed = (script : ScriptData) (run : RunData) → IsLegal script run → IsFormed script run
