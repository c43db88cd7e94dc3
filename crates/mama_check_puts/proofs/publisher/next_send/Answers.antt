use Rattle.mama_script.specs.declared.publisher.PublisherLine.TheVariants as line
use Rattle.mama_check_puts.proofs.SenderSteps.{sends_on, sends_rest, sends_over}
use Rattle.mama_check_puts.proofs.publisher.next_send.Goals as goal

pub returns-in-Update : goal.returns-in-Update
returns-in-Update c = record {
  next = sends_rest c.args.lines.now c.loop-i.i c.index-lines-i.result (line.Update c.in-Update.body) c.loop-i-test.true c.index-lines-i.is c.in-Update.is c.loop-i.invariant;
  none = tt;
}

pub returns-in-Recap : goal.returns-in-Recap
returns-in-Recap c = record {
  next = sends_rest c.args.lines.now c.loop-i.i c.index-lines-i.result line.Recap c.loop-i-test.true c.index-lines-i.is c.in-Recap.is c.loop-i.invariant;
  none = tt;
}

pub loop-i-preserved : goal.loop-i-preserved
loop-i-preserved c = sends_on c.args.lines.now c.loop-i.i c.index-lines-i.result (line.Pause c.in-Pause.field-0) c.loop-i-test.true c.index-lines-i.is c.in-Pause.is c.loop-i.invariant

pub returns : goal.returns
returns c = record { next = tt; none = sends_over c.args.lines.now c.loop-i.i c.loop-i-test.false c.loop-i.invariant }
