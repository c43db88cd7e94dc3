-- What rewrite writes of a text, by what is written of its parts.
use Rattle.std.proofs.Common.{◌≡◌, ℕ, List, ◌++◌, Option, Some, None, Err, refl, sym, ap, ◌∙◌, inl, inr}
use Rattle.std.specs.Prelude.{codes}
use Rattle.mama_words.specs.declared.version.Version.{Version}
use Rattle.mama_words.specs.declared.version.Version.TheVariants.{Two}
use Rattle.mama_script.specs.Script.{ScriptData}
use Rattle.mama_script.specs.Reading.{script_in}
use Rattle.mama_script.specs.Tree.{IsScript, script_text, in_two}
use Rattle.mama_script.specs.declared.fault.ScriptFault.TheVariants as f
use Rattle.mama_record.specs.RunData.{RunData}
use Rattle.mama_record.specs.LogText.{line, log_text}
use Rattle.mama_log_read.specs.Logged.{HasLog, IsLogged}
use Rattle.mama_plain.specs.Parts.{cut_at_log, before_cut, behind_cut, script_part, log_part}
use Rattle.mama_plain.specs.Verdict.{IsBadLog}
use Rattle.mama_plain.specs.Rewritten.{IsInTwo, IsTaken}
use Rattle.mama_plain.proofs.PartLemmas.{cut_makes_text}
use Rattle.mama_plain.proofs.VerdictLemmas.{AreParts, checked_parts}
use Rattle.mama_plain.proofs.AnswerLemmas.{accepted_no_fault, accepted_no_limit, checked_no_fault, checked_no_limit}

abbrev some_text : List ℕ → Option (List ℕ)
some_text log = Some log

-- ---- what was written

pub text_alone : (text out : List ℕ) → None ≡ cut_at_log text → (script : ScriptData) × IsScript script × (text ≡ script_text script) × (out ≡ script_text (in_two script)) → IsInTwo text out
text_alone text out cut w = inl (record { script = w.0; accepted = w.1; alone = ap behind_cut (sym cut); whole = w.2; written = w.3 })

pub text_both : (text front log out : List ℕ) → Some (front, log) ≡ cut_at_log text
    → (script : ScriptData) × IsScript script × (front ≡ script_text script) × (run : RunData) × IsLogged script run × (v : Version) × HasLog script v × (log ≡ log_text v script.shape run)
    × (out ≡ script_text (in_two script) ++ (line (codes "log") ++ log_text Two script.shape run)) → IsInTwo text out
text_both text front log out cut w =
    let script = w.0 in
    let behind = line (codes "log") in
    inr (record {
      script = script;
      accepted = w.1;
      run = w.3;
      logged = w.4;
      version = w.5;
      known = w.6;
      whole =
          cut_makes_text text front log (sym cut) ∙ ap (λ (t : List ℕ). t ++ (behind ++ log)) w.2
          ∙ ap (λ (t : List ℕ). script_text script ++ (behind ++ t)) w.7;
      written = w.8;
    })

-- ---- a text that rewrite takes

pub cut_has_log : (text front log : List ℕ) → Some (front, log) ≡ cut_at_log text → log_part text ≡ None → ⊥
cut_has_log text front log cut none = let e : some_text log ≡ None = ap behind_cut cut ∙ none in cc

pub taken_parts : (text front log : List ℕ) → Some (front, log) ≡ cut_at_log text → IsTaken text → AreParts front log
taken_parts text front log cut (inl alone) = absurd (cut_has_log text front log cut alone.1)
taken_parts text front log cut (inr checked) = checked_parts text front log cut checked

whole_part : (text : List ℕ) → log_part text ≡ None → script_part text ≡ text
whole_part text none = by (cut_at_log text) none
  where
    by : (cut : Option (List ℕ × List ℕ)) → behind_cut cut ≡ None → before_cut text cut ≡ text
    by None e = refl
    by (Some cut) e = absurd (let bad : some_text cut.1 ≡ None = e in cc)

pub taken_no_fault : (text : List ℕ) → IsTaken text → (line fault : ℕ) → script_in (script_part text) ≡ Err (f.Bad line fault) → ⊥
taken_no_fault text (inl alone) line fault e = accepted_no_fault text alone.0 line fault (ap script_in (sym (whole_part text alone.1)) ∙ e)
taken_no_fault text (inr checked) line fault e = checked_no_fault text checked line fault e

pub taken_no_limit : (text : List ℕ) → IsTaken text → (line limit : ℕ) → script_in (script_part text) ≡ Err (f.OverLimit line limit) → ⊥
taken_no_limit text (inl alone) line limit e = accepted_no_limit text alone.0 line limit (ap script_in (sym (whole_part text alone.1)) ∙ e)
taken_no_limit text (inr checked) line limit e = checked_no_limit text checked line limit e

-- ---- a bad log is one that is there

pub bad_log_there : (front : List ℕ) (behind : Option (List ℕ)) (number : ℕ) → IsBadLog front behind number → (behind ≡ None → ⊥) → (log : List ℕ) × (behind ≡ Some log) × IsBadLog front (Some log) number
bad_log_there front None number bad there = absurd (there refl)
bad_log_there front (Some log) number bad there = (log, refl, bad)
