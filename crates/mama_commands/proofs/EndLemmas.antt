-- What the end of play says of each answer.
use Rattle.std.proofs.Common.{◌≡◌, ℕ, List, [], length, drop, Option, Some, None, Err, inl, inr, sym, ap, ◌∙◌, subst, arith}
use Rattle.std.proofs.lemmas.List.{drop_all}
use Rattle.mama_edge.specs.Told.{LostAtMost}
use Rattle.mama_script.specs.Reading.{script_in}
use Rattle.mama_script.specs.declared.fault.ScriptFault.TheVariants as f
use Rattle.mama_check.specs.declared.verdict.Actor.{Actor}
use Rattle.mama_plain.specs.Answers.{GaveAll, IsAccepted}
use Rattle.mama_plain.specs.declared.status.Status.{Status}
use Rattle.mama_plain.specs.declared.status.Status.TheVariants as s
use Rattle.mama_plain.proofs.AnswerLemmas.{gave_is, accepted_no_fault, accepted_no_limit}
use Rattle.mama_commands.specs.Ending.{IsEndOfPlay}

-- ---- no more than the limit is gone where all was read

pub gave_lost : (old new : Option (List ℕ)) (text : List ℕ) → GaveAll old new text → LostAtMost old new 67108864
gave_lost None new text gave = (0, omega arith, tt)
gave_lost (Some left) new text gave =
    let count : length text ≡ length left = ap length gave.whole.0 in
    let within = gave.within in
    let none : drop (length left) left ≡ [] = drop_all (length left) left (omega arith) in
    (length left, omega arith, (omega arith, gave.whole.1 ∙ ap (λ (rest : List ℕ). Some rest) (sym none)))

-- ---- an accepted script is not refused at a line

module _ (old new before after : Option (List ℕ)) (status : Status) (end : IsEndOfPlay old new before after status) where
  end_is : (other : Status) → status ≡ other → IsEndOfPlay old new before after other
  end_is other is = subst (λ (status : Status). IsEndOfPlay old new before after status) is end

  -- play reads no log
  pub no_log : (line : ℕ) → status ≡ s.BadLog line → ⊥
  no_log line is = end_is (s.BadLog line) is

  pub no_verdict : (rule : ℕ) (actor : Actor) → status ≡ s.NotLegal rule actor → ⊥
  no_verdict rule actor is = end_is (s.NotLegal rule actor) is

  pub no_wait : (actor : Actor) (entry : ℕ) → status ≡ s.NotCausal actor entry → ⊥
  no_wait actor entry is = end_is (s.NotCausal actor entry) is

  -- an accepted script has no fault, and passes no limit at a line
  no_fault : (text given : List ℕ) → old ≡ Some text → IsAccepted text → GaveAll old new given → (line fault : ℕ) → script_in given ≡ Err (f.Bad line fault) → ⊥
  no_fault text given left accepted gave line fault is =
      accepted_no_fault given (subst (λ (t : List ℕ). IsAccepted t) (sym (gave_is old new given text gave.whole left)) accepted) line fault is

  no_limit : (text given : List ℕ) → old ≡ Some text → IsAccepted text → GaveAll old new given → (line limit : ℕ) → script_in given ≡ Err (f.OverLimit line limit) → ⊥
  no_limit text given left accepted gave line limit is =
      accepted_no_limit given (subst (λ (t : List ℕ). IsAccepted t) (sym (gave_is old new given text gave.whole left)) accepted) line limit is

  pub accepted_fits : (text : List ℕ) → old ≡ Some text → IsAccepted text
      → ((line fault : ℕ) → status ≡ s.BadScript line fault → ⊥) × ((line limit : ℕ) → status ≡ s.OverLimit line limit → line ≡ 0)
  accepted_fits text left accepted = (
    λ line fault is. let given = end_is (s.BadScript line fault) is in no_fault text given.0 left accepted given.1 line fault given.2,
    λ line limit is. elim (end_is (s.OverLimit line limit) is) [ inl whole ↦ whole.0 | inr at ↦ absurd (no_limit text at.1.0 left accepted at.1.1 line limit at.1.2) ],
  )
