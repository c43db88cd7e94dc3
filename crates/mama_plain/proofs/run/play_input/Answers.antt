use Rattle.std.proofs.Common.{List, ℕ, ◌≤◌, refl, sym, subst}
use Rattle.mama_plain.specs.Answers.{IsAccepted}
use Rattle.mama_plain.proofs.AnswerLemmas.{gave_is, accepted_of, accepted_no_fault, accepted_no_limit}
use Rattle.mama_plain.proofs.run.play_input.Goals as goal

pub returns-clause-accepted : goal.returns-clause-accepted
returns-clause-accepted g c = λ text left accepted.
    let given = subst (λ (given : List ℕ). IsAccepted given) (sym (gave_is _ _ _ text c.in-Ok.ensures.whole left)) accepted in (
      λ line fault is. accepted_no_fault _ given line fault (c.write_log.ensures.bad_script line fault is),
      λ line limit is. absurd (accepted_no_limit _ given line limit (c.write_log.ensures.over_limit line limit is).1),
    )

pub returns-clause-called : goal.returns-clause-called
returns-clause-called g c =
    accepted_of _ _ _ _ c.in-Ok.text.items refl
    (record { whole = c.in-Ok.ensures.whole; within = subst (λ (count : ℕ). count ≤ 67108864) c.in-Ok.text.ok.0 c.in-Ok.ensures.within }) c.write_log.ensures.called
