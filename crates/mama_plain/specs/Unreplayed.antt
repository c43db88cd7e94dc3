-- inner: A log that was read, the record that its steps lead to, and why there is nothing to write of it.
use Rattle.std.specs.Prelude.{◌≡◌, ℕ, nat_eq, Bool, List, ◌++◌, codes, Option}
use Rattle.std.specs.List.{starts_with}
use Rattle.mama_words.specs.declared.version.Version.{Version}
use Rattle.mama_script.specs.Script.{ScriptData}
use Rattle.mama_record.specs.RunData.{RunData}
use Rattle.mama_record.specs.LogText.{log_text}
use Rattle.mama_log_read.specs.Logged.{HasLog, IsLogged}
use Rattle.mama_rules_legal.specs.Legal.{IsLegal}
use Rattle.mama_check.specs.Causal.{IsCausal}
use Rattle.mama_check.specs.Verdict.{Judges}
use Rattle.mama_check.specs.declared.verdict.Verdict.TheVariants as verdict
use Rattle.mama_replay.specs.declared.step.Step.{Step}
use Rattle.mama_replay.specs.Followed.{followed}
use Rattle.mama_replay.specs.Passes.{ArePassSteps, IsStuck}
use Rattle.mama_plain.specs.Verdict.{IsVerdictOf}
use Rattle.mama_plain.specs.Judging.{IsNoVerdict}
use Rattle.mama_plain.specs.Replayed.{IsUnfollowed, steps_text}
use Rattle.mama_plain.specs.declared.check.NoVerdict.TheVariants as v
use Rattle.mama_plain.specs.declared.replay.NoReplay.{NoReplay}
use Rattle.mama_plain.specs.declared.replay.NoReplay.TheVariants as n

-- a log begins as those of version 2
abbrev pub begins_in_two : List ℕ → Bool
begins_in_two log = starts_with nat_eq log (codes "mama log 2")

-- a log of a script, and the one record that it tells
pub record IsRead (script : ScriptData) (log : List ℕ) (run : RunData) : Type 0 where
  pub logged : IsLogged script run
  pub version : Version
  pub known : HasLog script version
  pub whole : log ≡ log_text version script.shape run
  pub only : (v : Version) (other : RunData) → HasLog script v → IsLogged script other → log ≡ log_text v script.shape other → run ≡ other

-- a legal record whose entries have a causal order, the steps of its passes, and the record that they lead to
pub record IsFollowed (script : ScriptData) (run : RunData) (steps : List Step) (made : RunData) : Type 0 where
  pub legal : IsLegal script run
  pub causal : IsCausal script run
  pub passed : ArePassSteps script run steps
  pub same : made ≡ run
  pub by_steps : made ≡ followed script run.clients steps

-- Lines that tell the steps of the passes of such a record, and the log in a version of the record that they lead to.
pub record IsFollowedBy (script : ScriptData) (run : RunData) (version : Version) (out : List ℕ) : Type 0 where
  pub steps : List Step
  pub made : RunData
  pub is : IsFollowed script run steps made
  pub written : out ≡ steps_text script.shape steps ++ log_text version script.shape made

-- why a record is not followed
abbrev pub IsNotFollowed : ScriptData → RunData → NoReplay → Type 0
IsNotFollowed script run (n.Text cause) = cause ≡ v.Memory
IsNotFollowed script run (n.NotLegal rule actor) = Judges script run (verdict.NotLegal rule actor)
IsNotFollowed script run (n.NotCausal actor entry) = IsLegal script run × (IsCausal script run → ⊥) × IsStuck script run actor entry

-- why nothing is to be written of a text, with what stands before its line `log` and what behind that line
abbrev pub IsNoReplay : List ℕ → List ℕ → Option (List ℕ) → NoReplay → Type 0
IsNoReplay text front behind (n.Text cause) = IsNoVerdict front behind cause
IsNoReplay text front behind (n.NotLegal rule actor) = (out : List ℕ) × IsVerdictOf text (verdict.NotLegal rule actor) out
IsNoReplay text front behind (n.NotCausal actor entry) = IsUnfollowed text actor entry
