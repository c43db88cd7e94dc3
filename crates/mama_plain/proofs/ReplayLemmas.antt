-- What is said of a text that is followed, by what is said of its parts.
use Rattle.std.proofs.Common.{◌≡◌, ℕ, Bool, true, false, List, ◌++◌, Result, Err, Option, Some, None, refl, sym, ap, subst, true≢false, ◌∙◌}
use Rattle.std.specs.Prelude.{codes, IfErr}
use Rattle.std.specs.Global.{Vec}
use Rattle.mama_event.specs.declared.shape.Shape.{Shape}
use Rattle.mama_words.specs.declared.version.Version.{Version}
use Rattle.mama_words.specs.declared.version.Version.TheVariants.{One, Two}
use Rattle.mama_script.specs.Script.{ScriptData}
use Rattle.mama_script.specs.declared.fault.ScriptFault.TheVariants as f
use Rattle.mama_script.specs.Tree.{IsScript, script_text}
use Rattle.mama_record.specs.RunData.{RunData}
use Rattle.mama_record.specs.LogText.{line, log_text}
use Rattle.mama_rules_legal.specs.Legal.{IsLegal}
use Rattle.mama_check.specs.declared.verdict.Verdict.TheVariants as verdict
use Rattle.mama_plain.specs.Parts.{cut_at_log, before_cut, behind_cut, script_part, log_part}
use Rattle.mama_plain.specs.Verdict.{verdict_text}
use Rattle.mama_plain.specs.Judging.{IsNoVerdict}
use Rattle.mama_plain.specs.Replayed.{IsLegalLog, IsReplayed, steps_text}
use Rattle.mama_plain.specs.Unreplayed.{begins_in_two, IsRead, IsFollowedBy, IsNotFollowed, IsNoReplay}
use Rattle.mama_plain.specs.declared.check.NoVerdict.{NoVerdict}
use Rattle.mama_plain.specs.declared.check.NoVerdict.TheVariants as v
use Rattle.mama_plain.specs.declared.replay.NoReplay.{NoReplay}
use Rattle.mama_plain.specs.declared.replay.NoReplay.TheVariants as n
use Rattle.mama_plain.proofs.PartLemmas.{cut_makes_text}
use Rattle.mama_plain.proofs.AnswerLemmas.{FaultsAreTold, no_verdict_at_line}
use Rattle.mama_plain.proofs.VerdictLemmas.{tells_only, told_text, judged_text}

-- ---- the parts are the text

-- what stands before a line `log`, that line, and what stands behind it
abbrev pub joined_at_log : List ℕ → List ℕ → List ℕ
joined_at_log front log = front ++ (line (codes "log") ++ log)

-- why there is nothing to write of the parts is why there is nothing of the text
pub no_replay_of_text : (text front log : List ℕ) (r : Result (Vec ℕ) NoReplay) → Some (front, log) ≡ cut_at_log text
    → IfErr r (λ cause. IsNoReplay (joined_at_log front log) front (Some log) cause) → IfErr r (λ cause. IsNoReplay text (script_part text) (log_part text) cause)
no_replay_of_text text front log r cut h =
    let whole = subst (λ (t : List ℕ). IfErr r (λ cause. IsNoReplay t front (Some log) cause)) (sym (cut_makes_text text front log (sym cut))) h in
    let before = subst (λ (t : List ℕ). IfErr r (λ cause. IsNoReplay text t (Some log) cause)) (ap (before_cut text) cut) whole in
    subst (λ (t : Option (List ℕ)). IfErr r (λ cause. IsNoReplay text (script_part text) t cause)) (ap behind_cut cut) before

pub no_log_of_text : (text : List ℕ) (cause : NoVerdict) → None ≡ cut_at_log text → IsNoVerdict text None cause → IsNoVerdict (script_part text) (log_part text) cause
no_log_of_text text cause cut h =
    let before = subst (λ (t : List ℕ). IsNoVerdict t None cause) (ap (before_cut text) cut) h in
    subst (λ (t : Option (List ℕ)). IsNoVerdict (script_part text) t cause) (ap behind_cut cut) before

-- ---- the version of a log

pub two_told : (v : Version) (shape : Shape) (run : RunData) (log : List ℕ) (r : Bool) → r ≡ begins_in_two log → r ≡ true → log ≡ log_text v shape run → Two ≡ v
two_told Two shape run log r is in_two told = refl
two_told One shape run log r is in_two told = absurd (true≢false (sym in_two ∙ is ∙ ap begins_in_two told))

pub one_told : (v : Version) (shape : Shape) (run : RunData) (log : List ℕ) (r : Bool) → r ≡ begins_in_two log → r ≡ false → log ≡ log_text v shape run → One ≡ v
one_told One shape run log r is in_one told = refl
one_told Two shape run log r is in_one told = absurd (true≢false (sym (ap begins_in_two told) ∙ sym is ∙ in_one))

-- ---- a text that was followed

abbrev legal_log : (script : ScriptData) (front log : List ℕ) (run : RunData) → IsScript script → front ≡ script_text script → IsRead script log run → IsLegal script run → IsLegalLog (joined_at_log front log)
legal_log script front log run accepted spelled read legal =
    let whole : joined_at_log front log ≡ joined_at_log (script_text script) log = ap (λ (t : List ℕ). joined_at_log t log) spelled in
    record {
      script = script;
      accepted = accepted;
      run = run;
      logged = read.logged;
      version = read.version;
      known = read.known;
      whole = whole ∙ ap (λ (t : List ℕ). joined_at_log (script_text script) t) read.whole;
      only = tells_only script (joined_at_log front log) log run accepted whole read.only;
      legal = legal;
    }

pub replayed_text : (script : ScriptData) (front log : List ℕ) (run : RunData) (version : Version) (out : List ℕ) → IsScript script → front ≡ script_text script → IsRead script log run
    → ((v : Version) (shape : Shape) (r : RunData) → log ≡ log_text v shape r → version ≡ v) → IsFollowedBy script run version out → IsReplayed (joined_at_log front log) out
replayed_text script front log run version out accepted spelled read versions by = record {
  read = legal_log script front log run accepted spelled read by.is.legal;
  steps = by.steps;
  made = by.is.passed;
  same = sym by.is.by_steps ∙ by.is.same;
  causal = by.is.causal;
  written =
      by.written ∙ ap (λ (v : Version). steps_text script.shape by.steps ++ log_text v script.shape by.made) (versions read.version script.shape run read.whole)
      ∙ ap (λ (r : RunData). steps_text script.shape by.steps ++ log_text read.version script.shape r) by.is.by_steps;
}

-- ---- a text that was not

pub no_replay_of_run : (script : ScriptData) (front log : List ℕ) (run : RunData) (cause : NoReplay) → IsScript script → front ≡ script_text script → IsRead script log run → IsNotFollowed script run cause
    → IsNoReplay (joined_at_log front log) front (Some log) cause
no_replay_of_run script front log run (n.Text cause) accepted spelled read h = subst (λ (c : NoVerdict). IsNoVerdict front (Some log) c) (sym h) tt
no_replay_of_run script front log run (n.NotLegal rule actor) accepted spelled read h = (
  verdict_text (verdict.NotLegal rule actor),
  judged_text (joined_at_log front log) script run (verdict.NotLegal rule actor) (told_text script front log run accepted spelled read) h,
)
no_replay_of_run script front log run (n.NotCausal actor entry) accepted spelled read h = record { read = legal_log script front log run accepted spelled read h.0; causal = h.1; stuck = h.2 }

-- where a log fits, no line of it is bad
pub no_bad_line : (script : ScriptData) (run : RunData) (r : Result (Vec ℕ) NoReplay) → IfErr r (λ cause. IsNotFollowed script run cause) → (line : ℕ) → r ≡ Err (n.Text (v.Log line)) → ⊥
no_bad_line script run r h line is = let other : v.Log line ≡ v.Memory = subst (λ (s : Result (Vec ℕ) NoReplay). IfErr s (λ cause. IsNotFollowed script run cause)) is h in cc

-- ---- a limit is passed at a line, which is not line 0

pub no_replay_at_line : (text front : List ℕ) (behind : Option (List ℕ)) (cause : NoReplay) → FaultsAreTold → IsNoReplay text front behind cause
    → (line limit : ℕ) → cause ≡ n.Text (v.Script (f.OverLimit line limit)) → line ≡ 0 → ⊥
no_replay_at_line text front behind cause told is line limit e =
    no_verdict_at_line front behind (v.Script (f.OverLimit line limit)) told (subst (λ (c : NoReplay). IsNoReplay text front behind c) e is) line limit refl
