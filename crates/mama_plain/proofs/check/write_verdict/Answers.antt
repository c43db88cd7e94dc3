use Rattle.std.proofs.Common.{List, ℕ, sym, subst, ◌∙◌}
use Rattle.mama_edge.specs.Told.{Appended}
use Rattle.mama_plain.specs.Parts.{script_part, log_part}
use Rattle.mama_plain.specs.Verdict.{IsVerdictOf}
use Rattle.mama_plain.proofs.VerdictLemmas.{legal_answer}
use Rattle.mama_plain.proofs.AnswerLemmas.{no_verdict_at_line}
use Rattle.mama_plain.proofs.check.write_verdict.Goals as goal

pub status_of-requires : goal.status_of-requires
status_of-requires g c = no_verdict_at_line (script_part c.args.text.items) (log_part c.args.text.items) c.in-Err.cause c.first_fault_is_told.ensures c.in-Err.ensures.cause

pub returns-in-Ok-write_all_counted-clause-legal : goal.returns-in-Ok-write_all_counted-clause-legal
returns-in-Ok-write_all_counted-clause-legal g c = λ ok.
    let old = g.K.Sink.written c.args.sink.now in
    let new = g.K.Sink.written c.write_all_counted.new.sink in
    legal_answer c.args.text.items c.in-Ok-lines_of.out.items old new c.in-Ok.verdict (sym c.answer_of.ensures ∙ ok)
    (subst (λ (out : List ℕ). IsVerdictOf c.args.text.items c.in-Ok.verdict out) (sym c.in-Ok-lines_of.ensures) c.in-Ok.ensures.verdict)
    (subst (λ (out : List ℕ). Appended old new out) c.as_slice.ensures.value c.in-Ok-write_all_counted.ensures.whole)
