use Rattle.std.proofs.Common.{◌<◌, length, refl, arith}
use Rattle.std.proofs.lemmas.Bool.{false≢true}
use Rattle.std.proofs.lemmas.Bool.Decides.{nat_tests}
use Rattle.mama_edge.proofs.DecimalLaws.{numeral_of, begins, read_found, read_none}
use Rattle.mama_edge.proofs.number.read_u64.Goals as goal

pub returns-then-is_empty-clause-none : goal.returns-then-is_empty-clause-none
returns-then-is_empty-clause-none c = λ n small e. let is = numeral_of c.args.text.now n small e in let some = is.some in grind (arith, nat_tests)

pub returns-then-has_spare_zero-clause-none : goal.returns-then-has_spare_zero-clause-none
returns-then-has_spare_zero-clause-none c = λ n small e.
    let is = numeral_of c.args.text.now n small e in
    let spare = c.if-has_spare_zero.ensures.0 refl in
    let short = is.lead spare.0 in
    omega (arith, spare.1)

pub returns-clause-found : goal.returns-clause-found
returns-clause-found c =
    let some : 0 < length c.args.text.now = grind (arith, nat_tests) in
    let none = c.if-has_spare_zero.ensures in
    read_found c.digits_number.result c.args.text.now (begins c.args.text.now some (λ spare. false≢true (none.1 spare))) c.digits_number.ensures.found c.digits_number.ensures.fits

pub returns-clause-none : goal.returns-clause-none
returns-clause-none c = read_none c.digits_number.result c.args.text.now c.digits_number.ensures.none
