use Rattle.std.proofs.Common.{arith}
use Rattle.mama_log_read.proofs.Taking.{past_none, past_more, past_stops, past_all}
use Rattle.mama_log_read.proofs.parsing.behind_lines.Goals as goal

pub loop-init : goal.loop-init
loop-init c = record { past = past_none c.args.text.now; within = omega arith }

pub loop-preserved : goal.loop-preserved
loop-preserved c = record {
  past = past_more c.args.text.now c.loop.left.now c.in-Some.field-0-0.now c.in-Some.after.now c.loop.counter c.in-Some.ensures c.loop.invariant.past;
  within = omega arith;
}

pub returns-in-None : goal.returns-in-None
returns-in-None c = past_stops c.args.text.now c.loop.left.now c.loop.counter c.args.count c.in-None.ensures c.loop-test.true c.loop.invariant.past

pub returns : goal.returns
returns c = past_all c.args.text.now c.loop.left.now c.loop.counter c.args.count (omega arith) c.loop.invariant.past
