-- believed: What replay writes: the steps that lead to the record that was read, and the log of the record that they lead to.
use Rattle.std.specs.Prelude.{◌≡◌, ℕ, List, [], ◌∷◌, ◌++◌, codes, Option, None, Some}
use Rattle.std.specs.List.{flat_map}
use Rattle.mama_event.specs.declared.shape.Shape.{Shape}
use Rattle.mama_words.specs.declared.version.Version.{Version}
use Rattle.mama_rules_services.specs.Ports.{Putter, ByBridge, ByNobody, bridge_putter, timers_putter, queue_putter}
use Rattle.mama_script.specs.Script.{ScriptData}
use Rattle.mama_script.specs.Tree.{IsScript, script_text}
use Rattle.mama_record.specs.RunData.{RunData}
use Rattle.mama_record.specs.LogText.{line, log_text, putter_text}
use Rattle.mama_log_read.specs.Logged.{HasLog, IsLogged}
use Rattle.mama_rules_legal.specs.Legal.{IsLegal}
use Rattle.mama_check.specs.Causal.{IsCausal}
use Rattle.mama_check.specs.declared.verdict.Actor.{Actor}
use Rattle.mama_check.specs.declared.verdict.Actor.TheVariants as actor
use Rattle.mama_replay.specs.declared.step.Step.{Step}
use Rattle.mama_replay.specs.Followed.{followed}
use Rattle.mama_replay.specs.Passes.{ArePassSteps, IsStuck}
use Rattle.mama_plain.specs.Verdict.{TellsOnly, actor_text}

-- who put what an actor takes by a port
abbrev pub putter_to : Shape → Actor → ℕ → Putter
putter_to shape (actor.Publisher p) port = ByBridge
putter_to shape actor.Bridge port = bridge_putter shape port
putter_to shape actor.Timers port = timers_putter shape port
putter_to shape (actor.Queue q) port = queue_putter port
putter_to shape _ port = ByNobody

abbrev pub port_text : Shape → Actor → Option ℕ → List ℕ
port_text shape who None = []
port_text shape who (Some port) = 32 ∷ putter_text (putter_to shape who port)

-- step ACTOR, and who put what it takes, if it takes something
abbrev pub step_text : Shape → Step → List ℕ
step_text shape step = codes "step " ++ (actor_text step.actor ++ port_text shape step.actor step.port)

-- a line for each step
abbrev pub steps_text : Shape → List Step → List ℕ
steps_text shape steps = flat_map (λ step. line (step_text shape step)) steps

-- a text is an accepted script, the line `log`, and the log of a legal record in a version that the script has, and tells no
-- other
pub record IsLegalLog (text : List ℕ) : Type 0 where
  pub script : ScriptData
  pub accepted : IsScript script
  pub run : RunData
  pub logged : IsLogged script run
  pub version : Version
  pub known : HasLog script version
  pub whole : text ≡ script_text script ++ (line (codes "log") ++ log_text version script.shape run)
  pub only : TellsOnly text script run
  pub legal : IsLegal script run

-- The text tells a legal record. What was written are the steps of the passes that lead to it, and the log of the record that
-- they lead to, in the version that was read. That record is the one that was read, and its entries have a causal order.
pub record IsReplayed (text out : List ℕ) : Type 0 where
  pub read : IsLegalLog text
  pub steps : List Step
  pub made : ArePassSteps read.script read.run steps
  pub same : followed read.script read.run.clients steps ≡ read.run
  pub causal : IsCausal read.script read.run
  pub written : out ≡ steps_text read.script.shape steps ++ log_text read.version read.script.shape (followed read.script read.run.clients steps)

-- The text tells a legal record whose entries have no causal order. This actor is the first that cannot go on, in the order of
-- the passes, and the entry its next.
pub record IsUnfollowed (text : List ℕ) (who : Actor) (entry : ℕ) : Type 0 where
  pub read : IsLegalLog text
  pub causal : IsCausal read.script read.run → ⊥
  pub stuck : IsStuck read.script read.run who entry
