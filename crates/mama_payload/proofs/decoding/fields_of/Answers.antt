use Rattle.mama_payload.specs.Reading.{fields_at}
use Rattle.std.proofs.Common.{[]}
use Rattle.mama_payload.proofs.Loops.{goes_on, stops_there, is_done}
use Rattle.mama_payload.proofs.decoding.fields_of.Goals as goal

pub returns-in-Err : goal.returns-in-Err
returns-in-Err c = stops_there c.in-Err.stop c.args.version c.args.count c.loop.counter c.loop.msg c.loop.rest.now (fields_at c.args.version c.args.count [] c.args.bytes.now) c.loop-test.true c.in-Err.ensures.gives c.loop.invariant

pub loop-preserved : goal.loop-preserved
loop-preserved c =
    rw c.in_ok-push-in-Ok.ensures (goes_on c.args.version c.args.count c.loop.counter c.loop.msg c.loop.rest.now c.in-Ok.field c.in-Ok.after.now (fields_at c.args.version c.args.count [] c.args.bytes.now) c.loop-test.true c.in-Ok.ensures.gives c.loop.invariant)

pub returns : goal.returns
returns c = is_done c.args.version c.args.count c.loop.counter c.loop.msg c.loop.rest.now (fields_at c.args.version c.args.count [] c.args.bytes.now) c.loop-test.false c.loop.invariant
