use Rattle.std.proofs.Common.{◌<◌, length, ap, arith}
use Rattle.std.proofs.lemmas.Bool.Decides.{nat_tests}
use Rattle.mama_edge.proofs.DecimalLaws.{negative_none, int_decimal_nonempty, begins_with}
use Rattle.mama_edge.proofs.number.read_i64.Goals as goal

pub returns-then-is_empty-clause-none : goal.returns-then-is_empty-clause-none
returns-then-is_empty-clause-none c = λ z fits e.
    let some = int_decimal_nonempty z fits in
    let same = ap length e in
    grind (arith, nat_tests)

pub returns-then-text-eq45-clause-none : goal.returns-then-text-eq45-clause-none
returns-then-text-eq45-clause-none c =
    let some : 0 < length c.args.text.now = grind (arith, nat_tests) in
    negative_none c.read_negative.result c.args.text.now _ (begins_with 45 c.args.text.now some c.if-text-eq45.true) c.read_negative.ensures.none
