use Rattle.std.proofs.Common.{◌∙◌, arith}
use Rattle.mama_edge.proofs.DecimalLaws.{digits_next, stopped}
use Rattle.mama_edge.proofs.number.digits_number.Goals as goal

pub returns-in_err-number-clause-none : goal.returns-in_err-number-clause-none
returns-in_err-number-clause-none c =
    let at = c.loop-byte in
    rw c.from_residual.ensures (stopped c.args.digits.now at.byte-index at.number (omega arith) at.invariant.1 c.in_err-number.ensures)

pub loop-byte-preserved : goal.loop-byte-preserved
loop-byte-preserved c =
    let at = c.loop-byte in
    let read = c.in_ok-number.ensures in
    let next = digits_next c.args.digits.now at.byte-index at.number (omega arith) at.invariant.0 at.invariant.1 read.0.0 in
    (next.0, read.1 ∙ next.1, omega (arith, read.0.1, read.1))
