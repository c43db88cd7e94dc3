use Rattle.std.proofs.Common.{arith}
use Rattle.std.proofs.lemmas.Fmt.{length-decimal-le, decimal_nonempty}
use Rattle.mama_edge.proofs.DecimalLaws.{digit_put, last_digit_put, nothing_put, shorter}
use Rattle.mama_edge.proofs.number.put_digits.Goals as goal

pub loop-rest-init : goal.loop-rest-init
loop-rest-init c =
    (omega arith, length-decimal-le 20 c.args.n (omega arith) (omega arith) (omega arith), nothing_put c.args.n c.args.buffer.now (omega (arith, c.told-buffer)))

pub overflow_sub-start : goal.overflow_sub-start
overflow_sub-start c = let some = decimal_nonempty c.loop-rest.rest (omega arith) in omega arith

pub loop-rest-preserved : goal.loop-rest-preserved
loop-rest-preserved c =
    let less = shorter c.loop-rest.rest (omega arith) (omega arith) in
    (omega arith, omega arith, digit_put c.loop-rest.start _ c.loop-rest.rest c.args.n c.loop-rest.buffer (omega arith) (omega arith) (omega arith) (omega (arith, c.told-buffer)) c.loop-rest.invariant.2)

pub returns-clause-room : goal.returns-clause-room
returns-clause-room c = let some = decimal_nonempty c.loop-rest.rest (omega arith) in omega arith

pub returns-clause-digits : goal.returns-clause-digits
returns-clause-digits c = last_digit_put c.loop-rest.start c.loop-rest.rest c.args.n c.loop-rest.buffer (omega arith) (omega (arith, c.told-buffer)) c.loop-rest.invariant.2
