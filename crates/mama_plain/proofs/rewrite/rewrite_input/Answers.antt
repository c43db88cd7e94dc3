use Rattle.std.proofs.Common.{List, ℕ, ◌<◌, ◌≤◌, length, take, sym, subst, ◌∙◌}
use Rattle.mama_edge.specs.Told.{Appended}
use Rattle.mama_plain.specs.Rewritten.{IsInTwo, IsTaken}
use Rattle.mama_plain.proofs.AnswerLemmas.{gave_is}
use Rattle.mama_plain.proofs.RewriteLemmas.{taken_no_fault, taken_no_limit}
use Rattle.mama_plain.proofs.rewrite.rewrite_input.Goals as goal

pub returns-clause-fitting : goal.returns-clause-fitting
returns-clause-fitting g c = λ text left taken.
    c.write_in_two.ensures.fitting (subst (λ (given : List ℕ). IsTaken given) (sym (c.as_slice.ensures.value ∙ gave_is _ _ _ text c.in-Ok.ensures.whole left)) taken)

pub returns-clause-fitting_script : goal.returns-clause-fitting_script
returns-clause-fitting_script g c = λ text left taken.
    let given = subst (λ (given : List ℕ). IsTaken given) (sym (c.as_slice.ensures.value ∙ gave_is _ _ _ text c.in-Ok.ensures.whole left)) taken in (
      λ line fault is. taken_no_fault _ given line fault (c.write_in_two.ensures.bad_script line fault is),
      λ line limit is. absurd (taken_no_limit _ given line limit (c.write_in_two.ensures.over_limit line limit is).1),
    )

pub returns-clause-ok : goal.returns-clause-ok
returns-clause-ok g c = λ ok.
    let old = g.K.Sink.written c.args.sink.now in
    let new = g.K.Sink.written c.write_in_two.new.sink in
    let told = subst (λ (text : List ℕ). (out : List ℕ) × IsInTwo text out × Appended old new out) c.as_slice.ensures.value (c.write_in_two.ensures.ok ok) in (
      c.in-Ok.text.items,
      told.0,
      record { whole = c.in-Ok.ensures.whole; within = subst (λ (count : ℕ). count ≤ 67108864) c.in-Ok.text.ok.0 c.in-Ok.ensures.within },
      told.1,
      told.2,
    )

pub returns-clause-part : goal.returns-clause-part
returns-clause-part g c = λ written is.
    let old = g.K.Sink.written c.args.sink.now in
    let new = g.K.Sink.written c.write_in_two.new.sink in
    let told = subst (λ (text : List ℕ). (out : List ℕ) × IsInTwo text out × (written < length out) × Appended old new (take written out)) c.as_slice.ensures.value (c.write_in_two.ensures.part written is) in (
      c.in-Ok.text.items,
      told.0,
      record { whole = c.in-Ok.ensures.whole; within = subst (λ (count : ℕ). count ≤ 67108864) c.in-Ok.text.ok.0 c.in-Ok.ensures.within },
      told.1,
      told.2,
      told.3,
    )
