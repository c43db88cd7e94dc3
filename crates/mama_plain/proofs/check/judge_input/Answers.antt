use Rattle.std.proofs.Common.{List, ℕ, ◌≤◌, sym, subst}
use Rattle.mama_plain.specs.Verdict.{IsChecked}
use Rattle.mama_plain.proofs.AnswerLemmas.{gave_is, checked_no_fault, checked_no_limit}
use Rattle.mama_plain.proofs.check.judge_input.Goals as goal

pub returns-clause-bad_log : goal.returns-clause-bad_log
returns-clause-bad_log g c = λ line is. (
  c.in-Ok.text.items,
  record { whole = c.in-Ok.ensures.whole; within = subst (λ (count : ℕ). count ≤ 67108864) c.in-Ok.text.ok.0 c.in-Ok.ensures.within },
  c.write_verdict.ensures.bad_log line is,
)

pub returns-clause-fitting : goal.returns-clause-fitting
returns-clause-fitting g c = λ text left checked.
    c.write_verdict.ensures.fitting (subst (λ (given : List ℕ). IsChecked given) (sym (gave_is _ _ _ text c.in-Ok.ensures.whole left)) checked)

pub returns-clause-fitting_script : goal.returns-clause-fitting_script
returns-clause-fitting_script g c = λ text left checked.
    let given = subst (λ (given : List ℕ). IsChecked given) (sym (gave_is _ _ _ text c.in-Ok.ensures.whole left)) checked in (
      λ line fault is. checked_no_fault _ given line fault (c.write_verdict.ensures.bad_script line fault is),
      λ line limit is. absurd (checked_no_limit _ given line limit (c.write_verdict.ensures.over_limit line limit is).1),
    )

pub returns-clause-legal : goal.returns-clause-legal
returns-clause-legal g c = λ ok.
    let told = c.write_verdict.ensures.legal ok in (
      told.0,
      c.in-Ok.text.items,
      told.1,
      record { whole = c.in-Ok.ensures.whole; within = subst (λ (count : ℕ). count ≤ 67108864) c.in-Ok.text.ok.0 c.in-Ok.ensures.within },
      told.2,
      told.3,
    )

pub returns-clause-not_legal : goal.returns-clause-not_legal
returns-clause-not_legal g c = λ rule actor is.
    let told = c.write_verdict.ensures.not_legal rule actor is in (
      c.in-Ok.text.items,
      told.0,
      record { whole = c.in-Ok.ensures.whole; within = subst (λ (count : ℕ). count ≤ 67108864) c.in-Ok.text.ok.0 c.in-Ok.ensures.within },
      told.1,
      told.2,
    )

pub returns-clause-part : goal.returns-clause-part
returns-clause-part g c = λ written is.
    let told = c.write_verdict.ensures.part written is in (
      told.0,
      c.in-Ok.text.items,
      told.1,
      record { whole = c.in-Ok.ensures.whole; within = subst (λ (count : ℕ). count ≤ 67108864) c.in-Ok.text.ok.0 c.in-Ok.ensures.within },
      told.2,
      told.3,
      told.4,
    )
