-- What is said of a text by what is said of its parts.
use Rattle.std.proofs.Common.{◌≡◌, ℕ, ◌+◌, ◌<◌, ◌≤◌, Bool, true, false, eqb, List, [], ◌∷◌, ◌++◌, length, Option, Some, None, Ok, refl, sym, ap, subst, ◌∙◌, length-append, arith}
use Rattle.std.specs.Prelude.{codes}
use Rattle.mama_edge.specs.Told.{Appended}
use Rattle.mama_words.specs.Parting.{pieces, onto_first}
use Rattle.mama_words.specs.declared.version.Version.{Version}
use Rattle.mama_script.specs.Script.{ScriptData}
use Rattle.mama_script.specs.Tree.{IsScript, script_text, lines_of}
use Rattle.mama_script.proofs.Parsed.{found_script, only_that}
use Rattle.mama_script.proofs.Whole.{script_again}
use Rattle.mama_record.specs.RunData.{RunData}
use Rattle.mama_record.specs.LogText.{line, log_text}
use Rattle.mama_log_read.specs.Logged.{HasLog, IsLogged}
use Rattle.mama_log_read.specs.Unfit.{IsFirstUnfit, Unfit}
use Rattle.mama_check.specs.Verdict.{Judges}
use Rattle.mama_check.specs.declared.verdict.Verdict.{Verdict}
use Rattle.mama_check.specs.declared.verdict.Verdict.TheVariants as verdict
use Rattle.mama_script.specs.Reading.{script_in}
use Rattle.mama_plain.specs.Parts.{cut_at_log, before_cut, script_part, line_count}
use Rattle.mama_plain.specs.Verdict.{IsChecked, TellsOnly, IsVerdictOf, IsBadLog, verdict_text}
use Rattle.mama_plain.specs.Judging.{IsToldBy}
use Rattle.mama_plain.specs.Unreplayed.{IsRead}
use Rattle.mama_plain.specs.Causes.{answer_in}
use Rattle.mama_plain.specs.declared.status.Status.TheVariants as status
use Rattle.mama_plain.proofs.PartLemmas.{cut_makes_text, script_is_cut}

-- ---- the number of a line

onto_first_length : (b : ℕ) (ws : List (List ℕ)) → length (onto_first b ws) ≤ length ws + 1
onto_first_length b [] = omega arith
onto_first_length b (w ∷ ws) = omega arith

pieces_step : (c b : ℕ) (bs : List ℕ) (here : Bool) → eqb b c ≡ here → length (pieces c bs) ≤ length bs + 1 → length (pieces c (b ∷ bs)) ≤ length (b ∷ bs) + 1
pieces_step c b bs true e more = rw e (omega (arith, more))
pieces_step c b bs false e more = rw e (omega (arith, more, onto_first_length b (pieces c bs)))

pieces_within : (c : ℕ) (text : List ℕ) → length (pieces c text) ≤ length text + 1
pieces_within c [] = omega arith
pieces_within c (b ∷ bs) = pieces_step c b bs (eqb b c) refl (pieces_within c bs)

more_comes : (script : ScriptData) (text : List ℕ) (before rest : List (List ℕ)) → Unfit script text before rest → 0 < length rest
more_comes script text before [] h = absurd h
more_comes script text before (last ∷ []) h = omega arith
more_comes script text before (next ∷ more ∷ others) h = omega arith

pub unfit_within : (script : ScriptData) (text : List ℕ) (number : ℕ) → IsFirstUnfit script text number → number ≤ length text + 1
unfit_within script text number u =
    let some = more_comes script text u.before u.rest u.unfit in
    let all : length (pieces 10 text) ≡ length u.before + length u.rest = ap length u.parted ∙ length-append u.before u.rest in
    omega (arith, some, all, u.counted, pieces_within 10 text)

-- ---- the script of a log

pub unfit_log : (script : ScriptData) (front log : List ℕ) (count number : ℕ) → IsScript script → front ≡ script_text script → count ≡ line_count front → IsFirstUnfit script log number
    → IsBadLog front (Some log) (count + 1 + number)
unfit_log script front log count number accepted spelled counted u =
    record { script = script; accepted = accepted; spelled = spelled; unfit = (number, u, ap (λ (n : ℕ). n + 1 + number) counted) }

script_is : (s t : ScriptData) → found_script s ≡ found_script t → s ≡ t
script_is s t e = cc

-- a log of the one script is a log of the other, which the same text spells
pub record Fits (script : ScriptData) (log : List ℕ) (v : Version) (run : RunData) : Type 0 where
  pub known : HasLog script v
  pub logged : IsLogged script run
  pub whole : log ≡ log_text v script.shape run

pub same_fits : (s t : ScriptData) (log : List ℕ) (v : Version) (run : RunData) → found_script s ≡ found_script t → HasLog s v → IsLogged s run → log ≡ log_text v s.shape run → Fits t log v run
same_fits s t log v run e known logged whole = subst (λ (x : ScriptData). Fits x log v run) (script_is s t e) (record { known = known; logged = logged; whole = whole })

-- ---- one text, one script and one log

abbrev pair_of : List ℕ → List ℕ → Option (List ℕ × List ℕ)
pair_of a b = Some (a, b)

abbrev some_pair : List ℕ × List ℕ → Option (List ℕ × List ℕ)
some_pair x = Some x

some_is : (x y : List ℕ × List ℕ) → some_pair x ≡ some_pair y → x ≡ y
some_is x y e = cc

pair_is : (a b c d : List ℕ) → pair_of a b ≡ pair_of c d → (a ≡ c) × (b ≡ d)
pair_is a b c d e =
    let same : (a, b) ≡ (c, d) = some_is (a, b) (c, d) e in
    (ap (λ (p : List ℕ × List ℕ). p.0) same, ap (λ (p : List ℕ × List ℕ). p.1) same)

-- two accepted scripts that one text spells are one
one_script : (s t : ScriptData) → IsScript s → IsScript t → script_text t ≡ script_text s → found_script s ≡ found_script t
one_script s t is other same = only_that (script_text t) s t other (script_again (lines_of t) other.accepted) is same

pub tells_only : (script : ScriptData) (text log : List ℕ) (run : RunData) → IsScript script → text ≡ script_text script ++ (line (codes "log") ++ log)
    → ((v : Version) (other : RunData) → HasLog script v → IsLogged script other → log ≡ log_text v script.shape other → run ≡ other) → TellsOnly text script run
tells_only script text log run accepted whole only s v r is known logged told =
    let cut : pair_of (script_text script) log ≡ pair_of (script_text s) (log_text v s.shape r) =
    sym (ap cut_at_log whole ∙ script_is_cut script log accepted) ∙ ap cut_at_log told ∙ script_is_cut s (log_text v s.shape r) is in
    let parts = pair_is (script_text script) log (script_text s) (log_text v s.shape r) cut in
    let same : found_script s ≡ found_script script = one_script s script is accepted parts.0 in
    let fits : Fits script log v r = same_fits s script log v r same known logged parts.1 in
    (script_is s script same, sym (only v r fits.known fits.logged fits.whole))

pub told_text : (script : ScriptData) (front log : List ℕ) (run : RunData) → IsScript script → front ≡ script_text script → IsRead script log run
    → IsToldBy (front ++ (line (codes "log") ++ log)) script run
told_text script front log run accepted spelled r =
    let text : List ℕ = front ++ (line (codes "log") ++ log) in
    let whole : text ≡ script_text script ++ (line (codes "log") ++ log) = ap (λ (t : List ℕ). t ++ (line (codes "log") ++ log)) spelled in
    record {
      accepted = accepted;
      logged = r.logged;
      version = r.version;
      known = r.known;
      whole = whole ∙ ap (λ (t : List ℕ). script_text script ++ (line (codes "log") ++ t)) r.whole;
      only = tells_only script text log run accepted whole r.only;
    }

-- the verdict on the record that a text tells is that on the text
pub judged_text : (text : List ℕ) (script : ScriptData) (run : RunData) (v : Verdict) → IsToldBy text script run → Judges script run v → IsVerdictOf text v (verdict_text v)
judged_text text script run v t judged = record {
  script = script;
  accepted = t.accepted;
  run = run;
  logged = t.logged;
  version = t.version;
  known = t.known;
  whole = t.whole;
  only = t.only;
  judged = judged;
  told = refl;
}

-- what was written, where the answer is Ok
pub legal_answer : (text out : List ℕ) (old new : Option (List ℕ)) (v : Verdict) → answer_in v ≡ status.Ok → IsVerdictOf text v out → Appended old new out
    → (causal : Bool) × (told : List ℕ) × IsVerdictOf text (verdict.Legal causal) told × Appended old new told
legal_answer text out old new (verdict.Legal causal) e judged appended = (causal, out, judged, appended)
legal_answer text out old new (verdict.NotLegal rule actor) e judged appended = absurd cc

-- ---- the parts of a text

pub parts_within : (text front log : List ℕ) → Some (front, log) ≡ cut_at_log text → length front + length log + 4 ≡ length text
parts_within text front log cut =
    let e : length text ≡ length front + length (line (codes "log") ++ log) = ap length (cut_makes_text text front log (sym cut)) ∙ length-append front (line (codes "log") ++ log) in
    omega (arith, e)

-- the parts of a text that is checked
pub record AreParts (front log : List ℕ) : Type 0 where
  pub script : ScriptData
  pub accepted : IsScript script
  pub spelled : front ≡ script_text script
  pub run : RunData
  pub logged : IsLogged script run
  pub version : Version
  pub known : HasLog script version
  pub whole : log ≡ log_text version script.shape run

checked_is_cut : (text : List ℕ) (checked : IsChecked text) → cut_at_log text ≡ pair_of (script_text checked.script) (log_text checked.version checked.script.shape checked.run)
checked_is_cut text checked = ap cut_at_log checked.whole ∙ script_is_cut checked.script (log_text checked.version checked.script.shape checked.run) checked.accepted

pub checked_parts : (text front log : List ℕ) → Some (front, log) ≡ cut_at_log text → IsChecked text → AreParts front log
checked_parts text front log cut checked =
    let p = pair_is front log (script_text checked.script) (log_text checked.version checked.script.shape checked.run) (cut ∙ checked_is_cut text checked) in
    record { script = checked.script; accepted = checked.accepted; spelled = p.0; run = checked.run; logged = checked.logged; version = checked.version; known = checked.known; whole = p.1 }

pub checked_has_log : (text : List ℕ) → None ≡ cut_at_log text → IsChecked text → ⊥
checked_has_log text cut checked = let e : None ≡ pair_of (script_text checked.script) (log_text checked.version checked.script.shape checked.run) = cut ∙ checked_is_cut text checked in cc

-- the script of a text that is checked is accepted
pub checked_script : (text : List ℕ) (checked : IsChecked text) → script_in (script_part text) ≡ Ok (lines_of checked.script)
checked_script text checked =
    ap (λ (cut : Option (List ℕ × List ℕ)). script_in (before_cut text cut)) (checked_is_cut text checked) ∙ script_again (lines_of checked.script) checked.accepted.accepted
