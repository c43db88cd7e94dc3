use Rattle.std.proofs.Common.{arith}
use Rattle.std.proofs.lemmas.Fmt.{decimal_nonempty, length-decimal-le}
use Rattle.mama_edge.proofs.DecimalLaws.{numeral_of_decimal, digits_by_recursion}
use Rattle.mama_edge.specs.Decimal.{decimal}
use Rattle.mama_edge.proofs.number.decimal_has_digits_only.Goals as goal

pub returns-clause-digits : goal.returns-clause-digits
returns-clause-digits c = λ n small. digits_by_recursion (decimal n) (numeral_of_decimal n small).digits

pub returns-clause-some : goal.returns-clause-some
returns-clause-some c = decimal_nonempty

pub returns-clause-at_most_20 : goal.returns-clause-at_most_20
returns-clause-at_most_20 c = λ n small. length-decimal-le 20 n (omega arith) (omega arith) small
