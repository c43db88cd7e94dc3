use Rattle.std.proofs.Common.{arith}
use Rattle.mama_edge.proofs.DecimalLaws.{one_number}
use Rattle.mama_edge.proofs.number.read_non_negative.Goals as goal

pub returns-then-size-clause-none : goal.returns-then-size-clause-none
returns-then-size-clause-none c = λ n small e.
    let fits = c.in_ok-size.ensures.fits in
    let same = one_number c.args.digits.now c.in_ok-size.size n fits (omega arith) c.in_ok-size.ensures.found e in
    omega arith
