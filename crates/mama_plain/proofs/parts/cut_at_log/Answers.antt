use Rattle.std.proofs.Common.{ℕ, List, sym, ap, ◌∙◌}
use Rattle.std.specs.Str.{bytes_eq}
use Rattle.mama_script.proofs.Loop.{cut_is_shorter}
use Rattle.mama_plain.proofs.PartLemmas.{reached_next, reached_log, reached_end}
use Rattle.mama_plain.proofs.parts.cut_at_log.Goals as goal

pub returns-then-eq : goal.returns-then-eq
returns-then-eq c =
    reached_log c.args.text.now c.loop-line.rest.now c.in-Some.line.now c.in-Some.after.now c.in-Some.ensures
    (ap (λ (t : List ℕ). bytes_eq c.in-Some.line.now t) (sym c.as_slice.ensures) ∙ sym c.if-eq.ensures) c.loop-line.invariant

pub loop-line-smaller : goal.loop-line-smaller
loop-line-smaller c = cut_is_shorter c.loop-line.rest.now c.in-Some.line.now c.in-Some.after.now c.in-Some.ensures

pub loop-line-preserved : goal.loop-line-preserved
loop-line-preserved c =
    reached_next c.args.text.now c.loop-line.rest.now c.in-Some.line.now c.in-Some.after.now c.in-Some.ensures
    (ap (λ (t : List ℕ). bytes_eq c.in-Some.line.now t) (sym c.as_slice.ensures) ∙ sym c.if-eq.ensures) c.loop-line.invariant

pub returns : goal.returns
returns c = reached_end c.args.text.now c.loop-line.rest.now c.in_default.ensures c.loop-line.invariant
