use Rattle.std.proofs.Common.{◌+◌, refl, arith}
use Rattle.mama_script.proofs.Loop.{cut_is_shorter}
use Rattle.mama_log_read.proofs.Taking.{counting_goes_on, counting_stops, counting_ends}
use Rattle.mama_log_read.proofs.parsing.line_number.Goals as goal

pub loop-left-smaller : goal.loop-left-smaller
loop-left-smaller c = cut_is_shorter c.loop-left.left.now c.in-Some.field-0-0.now c.in-Some.after.now c.in-Some.ensures

pub loop-left-preserved : goal.loop-left-preserved
loop-left-preserved c =
    let shorter = cut_is_shorter c.loop-left.left.now c.in-Some.field-0-0.now c.in-Some.after.now c.in-Some.ensures in
    record {
      counting = counting_goes_on c.args.text.now c.loop-left.left.now c.args.rest.now c.in-Some.field-0-0.now c.in-Some.after.now c.loop-left.number (c.loop-left.number + 1) refl c.loop-left-test.true c.in-Some.ensures c.loop-left.invariant.counting;
      first = omega arith;
      few = omega (arith, shorter, c.loop-left.invariant.few);
    }

pub returns-in-None-clause-value : goal.returns-in-None-clause-value
returns-in-None-clause-value c = counting_stops c.args.text.now c.loop-left.left.now c.args.rest.now c.loop-left.number c.loop-left-test.true c.in-None.ensures c.loop-left.invariant.counting

pub returns-clause-value : goal.returns-clause-value
returns-clause-value c = counting_ends c.args.text.now c.loop-left.left.now c.args.rest.now c.loop-left.number c.loop-left-test.false c.loop-left.invariant.counting

pub returns-in-None-clause-first : goal.returns-in-None-clause-first
returns-in-None-clause-first c = c.loop-left.invariant.first

pub returns-clause-first : goal.returns-clause-first
returns-clause-first c = c.loop-left.invariant.first
