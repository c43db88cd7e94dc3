use Rattle.std.proofs.Common.{◌≡◌, ◌-◌, ◌+◌, suc, arith}
use Rattle.mama_bridge.proofs.Moving.{moved_next, left_next}
use Rattle.mama_bridge.proofs.out.reply.Goals as goal

pub loop-preserved : goal.loop-preserved
loop-preserved g c =
    let more : c.args.count - c.loop.counter ≡ suc (c.args.count - (c.loop.counter + 1)) = omega arith in
    record {
      out = moved_next _ c.next-body.result c.loop.bodies.items c.next-body.new.items.items c.loop.out.items _ _ _ _ more c.next-body.ensures.items c.next-body.ensures.none c.reply_one.ensures.out c.loop.invariant.out;
      bodies = left_next c.next-body.result c.loop.bodies.items c.next-body.new.items.items _ _ _ more c.next-body.ensures.items c.next-body.ensures.none c.loop.invariant.bodies;
      room = omega arith;
      spare = omega arith;
      bodies_spare = omega arith;
    }
