use Rattle.std.proofs.Common.{◌≡◌, ◌-◌, ◌+◌, suc, arith}
use Rattle.mama_bridge.proofs.Moving.{moved_next, left_next}
use Rattle.mama_bridge.proofs.out.deliver.Goals as goal

pub loop-preserved : goal.loop-preserved
loop-preserved g c =
    let more : c.args.count - c.loop.counter ≡ suc (c.args.count - (c.loop.counter + 1)) = omega arith in
    record {
      out = moved_next _ c.next-msg.result c.loop.msgs.items c.next-msg.new.items.items c.loop.out.items _ _ _ _ more c.next-msg.ensures.items c.next-msg.ensures.none c.deliver_one.ensures.out c.loop.invariant.out;
      msgs = left_next c.next-msg.result c.loop.msgs.items c.next-msg.new.items.items _ _ _ more c.next-msg.ensures.items c.next-msg.ensures.none c.loop.invariant.msgs;
      room = omega arith;
      spare = omega arith;
      msgs_spare = omega arith;
    }
