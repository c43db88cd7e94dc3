-- What an answer says of the text that was given.
use Rattle.std.proofs.Common.{◌≡◌, ◌⊎◌, ℕ, List, [], Option, Some, None, Ok, Err, refl, inl, inr, ◌∙◌, sym, ap, subst, arith}
use Rattle.std.specs.Prelude.{IfSome}
use Rattle.mama_edge.specs.Told.{LostAtMost, Kept}
use Rattle.mama_script.specs.Reading.{script_in, at_line}
use Rattle.mama_script.specs.First.{IsFirst}
use Rattle.mama_script.specs.declared.fault.Flaw.{Flaw}
use Rattle.mama_script.specs.declared.fault.Flaw.TheVariants.{Limit}
use Rattle.mama_script.specs.Tree.{lines_of}
use Rattle.mama_script.specs.declared.fault.ScriptFault.TheVariants as f
use Rattle.mama_script.proofs.Whole.{script_again}
use Rattle.mama_plain.specs.Parts.{script_part}
use Rattle.mama_plain.specs.Verdict.{IsChecked}
use Rattle.mama_plain.specs.Answers.{GaveAll, IsAccepted, OnSilent, OnUnwritten}
use Rattle.mama_plain.specs.Causes.{IsCause}
use Rattle.mama_plain.specs.Judging.{IsNoVerdict}
use Rattle.mama_plain.specs.declared.status.Status.{Status}
use Rattle.mama_plain.specs.declared.status.Status.TheVariants as a
use Rattle.mama_plain.specs.declared.run.NoLog.{NoLog}
use Rattle.mama_plain.specs.declared.run.NoLog.TheVariants as n
use Rattle.mama_plain.specs.declared.check.NoVerdict.{NoVerdict}
use Rattle.mama_plain.specs.declared.check.NoVerdict.TheVariants as v
use Rattle.mama_plain.proofs.VerdictLemmas.{checked_script}

abbrev some_text : List ℕ → Option (List ℕ)
some_text text = Some text

text_is : (a b : List ℕ) → some_text a ≡ some_text b → a ≡ b
text_is a b e = cc

pub gave_is : (old new : Option (List ℕ)) (items text : List ℕ) → IfSome old (λ left. (items ≡ left) × (new ≡ Some [])) → old ≡ Some text → items ≡ text
gave_is None new items text gave e = absurd cc
gave_is (Some left) new items text gave e = gave.0 ∙ text_is left text e

-- ---- where nothing is read, no more than the limit is gone

pub nothing_lost : (left : Option (List ℕ)) → LostAtMost left left 67108864
nothing_lost None = (0, omega arith, tt)
nothing_lost (Some told) = (0, omega arith, (omega arith, refl))

-- ---- the clock was called only for an accepted script

pub accepted_of : (P : Type 0) (from to : Option (List ℕ)) (slice items : List ℕ) → slice ≡ items → GaveAll from to items → P ⊎ IsAccepted slice
    → P ⊎ ((text : List ℕ) × GaveAll from to text × IsAccepted text)
accepted_of P from to slice items e gave (inl still) = inl still
accepted_of P from to slice items e gave (inr is) = inr (items, gave, subst (λ (text : List ℕ). IsAccepted text) e is)

-- ---- a limit is passed at a line, which is not line 0

limit_at_line : (text : List ℕ) (line limit : ℕ) → IsFirst text line (Limit limit) → line ≡ 0 → ⊥
limit_at_line text line limit (inl head) e = let other = head.1 in cc
limit_at_line text line limit (inr (inl found)) e = let number = found.number in absurd (omega arith)
limit_at_line text line limit (inr (inr (inl unnamed))) e = let other = unnamed.0 in cc
limit_at_line text line limit (inr (inr (inr misplaced))) e = let other = misplaced.1 in cc

abbrev pub FaultsAreTold : Type 0
FaultsAreTold = (text : List ℕ) (line : ℕ) (found : Flaw) → script_in text ≡ Err (at_line line found) → IsFirst text line found

pub cause_at_line : (text : List ℕ) (cause : NoLog) → FaultsAreTold → IsCause text cause → (line limit : ℕ) → cause ≡ n.Script (f.OverLimit line limit) → line ≡ 0 → ⊥
cause_at_line text cause told is line limit e = limit_at_line text line limit (told text line (Limit limit) (subst (λ (c : NoLog). IsCause text c) e is))

pub no_verdict_at_line : (front : List ℕ) (behind : Option (List ℕ)) (cause : NoVerdict) → FaultsAreTold → IsNoVerdict front behind cause
    → (line limit : ℕ) → cause ≡ v.Script (f.OverLimit line limit) → line ≡ 0 → ⊥
no_verdict_at_line front behind cause told is line limit e =
    limit_at_line front line limit (told front line (Limit limit) (subst (λ (c : NoVerdict). IsNoVerdict front behind c) e is))

-- ---- an accepted script has no fault and passes no limit

accepted_script : (text : List ℕ) (a : IsAccepted text) → script_in text ≡ Ok (lines_of a.script)
accepted_script text a = ap script_in a.spelled ∙ script_again (lines_of a.script) a.accepted.accepted

pub accepted_no_fault : (text : List ℕ) → IsAccepted text → (line fault : ℕ) → script_in text ≡ Err (f.Bad line fault) → ⊥
accepted_no_fault text a line fault e = let same = sym (accepted_script text a) ∙ e in cc

pub accepted_no_limit : (text : List ℕ) → IsAccepted text → (line limit : ℕ) → script_in text ≡ Err (f.OverLimit line limit) → ⊥
accepted_no_limit text a line limit e = let same = sym (accepted_script text a) ∙ e in cc

-- ---- a text that is checked has an accepted script

pub checked_no_fault : (text : List ℕ) → IsChecked text → (line fault : ℕ) → script_in (script_part text) ≡ Err (f.Bad line fault) → ⊥
checked_no_fault text checked line fault e = let same = sym (checked_script text checked) ∙ e in cc

pub checked_no_limit : (text : List ℕ) → IsChecked text → (line limit : ℕ) → script_in (script_part text) ≡ Err (f.OverLimit line limit) → ⊥
checked_no_limit text checked line limit e = let same = sym (checked_script text checked) ∙ e in cc

-- ---- where nothing was written

-- what stays at each answer but two stays at each but three
pub unwritten_silent : (status : Status) (P : Type 0) → OnUnwritten status P → OnSilent status P
unwritten_silent a.Ok P h = tt
unwritten_silent a.BadWords P h = h
unwritten_silent (a.BadScript line fault) P h = h
unwritten_silent (a.OverLimit line limit) P h = h
unwritten_silent a.ReadFault P h = h
unwritten_silent (a.WriteFault written) P h = tt
unwritten_silent (a.BadLog line) P h = h
unwritten_silent (a.NotLegal rule actor) P h = tt
unwritten_silent (a.NotCausal actor entry) P h = h
unwritten_silent a.OutOfMemory P h = h

pub kept_same : (told : Option (List ℕ)) → Kept told told
kept_same None = tt
kept_same (Some told) = refl
