use Rattle.std.proofs.Common.{List, ℕ, ◌<◌, ◌≤◌, length, take, sym, subst, ◌∙◌}
use Rattle.mama_edge.specs.Told.{Appended}
use Rattle.mama_check.specs.declared.verdict.Verdict.TheVariants.{NotLegal}
use Rattle.mama_plain.specs.Parts.{script_part, log_part}
use Rattle.mama_plain.specs.Verdict.{IsChecked, IsVerdictOf, IsBadLog}
use Rattle.mama_plain.specs.Replayed.{IsReplayed, IsUnfollowed}
use Rattle.mama_plain.proofs.AnswerLemmas.{gave_is, checked_no_fault, checked_no_limit}
use Rattle.mama_plain.proofs.replay.replay_input.Goals as goal

pub returns-clause-bad_log : goal.returns-clause-bad_log
returns-clause-bad_log g c = λ line is. (
  c.in-Ok.text.items,
  record { whole = c.in-Ok.ensures.whole; within = subst (λ (count : ℕ). count ≤ 67108864) c.in-Ok.text.ok.0 c.in-Ok.ensures.within },
  subst (λ (text : List ℕ). IsBadLog (script_part text) (log_part text) line) c.as_slice.ensures.value (c.write_replay.ensures.bad_log line is),
)

pub returns-clause-fitting : goal.returns-clause-fitting
returns-clause-fitting g c = λ text left checked.
    c.write_replay.ensures.fitting (subst (λ (given : List ℕ). IsChecked given) (sym (c.as_slice.ensures.value ∙ gave_is _ _ _ text c.in-Ok.ensures.whole left)) checked)

pub returns-clause-fitting_script : goal.returns-clause-fitting_script
returns-clause-fitting_script g c = λ text left checked.
    let given = subst (λ (given : List ℕ). IsChecked given) (sym (c.as_slice.ensures.value ∙ gave_is _ _ _ text c.in-Ok.ensures.whole left)) checked in (
      λ line fault is. checked_no_fault _ given line fault (c.write_replay.ensures.bad_script line fault is),
      λ line limit is. absurd (checked_no_limit _ given line limit (c.write_replay.ensures.over_limit line limit is).1),
    )

pub returns-clause-not_legal : goal.returns-clause-not_legal
returns-clause-not_legal g c = λ rule actor is.
    let told = subst (λ (text : List ℕ). (out : List ℕ) × IsVerdictOf text (NotLegal rule actor) out) c.as_slice.ensures.value (c.write_replay.ensures.not_legal rule actor is) in (
      c.in-Ok.text.items,
      told.0,
      record { whole = c.in-Ok.ensures.whole; within = subst (λ (count : ℕ). count ≤ 67108864) c.in-Ok.text.ok.0 c.in-Ok.ensures.within },
      told.1,
    )

pub returns-clause-not_causal : goal.returns-clause-not_causal
returns-clause-not_causal g c = λ actor entry is. (
  c.in-Ok.text.items,
  record { whole = c.in-Ok.ensures.whole; within = subst (λ (count : ℕ). count ≤ 67108864) c.in-Ok.text.ok.0 c.in-Ok.ensures.within },
  subst (λ (text : List ℕ). IsUnfollowed text actor entry) c.as_slice.ensures.value (c.write_replay.ensures.not_causal actor entry is),
)

pub returns-clause-ok : goal.returns-clause-ok
returns-clause-ok g c = λ ok.
    let old = g.K.Sink.written c.args.sink.now in
    let new = g.K.Sink.written c.write_replay.new.sink in
    let told = subst (λ (text : List ℕ). (out : List ℕ) × IsReplayed text out × Appended old new out) c.as_slice.ensures.value (c.write_replay.ensures.ok ok) in (
      c.in-Ok.text.items,
      told.0,
      record { whole = c.in-Ok.ensures.whole; within = subst (λ (count : ℕ). count ≤ 67108864) c.in-Ok.text.ok.0 c.in-Ok.ensures.within },
      told.1,
      told.2,
    )

pub returns-clause-part : goal.returns-clause-part
returns-clause-part g c = λ written is.
    let old = g.K.Sink.written c.args.sink.now in
    let new = g.K.Sink.written c.write_replay.new.sink in
    let told = subst (λ (text : List ℕ). (out : List ℕ) × IsReplayed text out × (written < length out) × Appended old new (take written out)) c.as_slice.ensures.value (c.write_replay.ensures.part written is) in (
      c.in-Ok.text.items,
      told.0,
      record { whole = c.in-Ok.ensures.whole; within = subst (λ (count : ℕ). count ≤ 67108864) c.in-Ok.text.ok.0 c.in-Ok.ensures.within },
      told.1,
      told.2,
      told.3,
    )
