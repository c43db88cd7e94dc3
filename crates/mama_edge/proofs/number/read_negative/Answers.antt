use Rattle.std.proofs.Common.{suc, arith}
use Rattle.mama_edge.proofs.DecimalLaws.{one_number}
use Rattle.mama_edge.proofs.number.read_negative.Goals as goal

pub returns-in_err-below-clause-none : goal.returns-in_err-below-clause-none
returns-in_err-below-clause-none c = rw c.from_residual-in_err-below.ensures (λ n small e.
    let fits = c.in_ok-size.ensures.fits in
    let same = one_number c.args.digits.now c.in_ok-size.size (suc n) fits (omega arith) c.in_ok-size.ensures.found e in
    c.in_err-below.ensures (omega arith))

pub returns-then-below-clause-none : goal.returns-then-below-clause-none
returns-then-below-clause-none c = λ n small e.
    let fits = c.in_ok-size.ensures.fits in
    let same = one_number c.args.digits.now c.in_ok-size.size (suc n) fits (omega arith) c.in_ok-size.ensures.found e in
    omega arith
