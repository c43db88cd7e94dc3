use Rattle.std.proofs.Common.{ap, map}
use Rattle.mama_bridge.specs.Outs.{put_note}
use Rattle.mama_check_puts.specs.Dealing.{own_tag}
use Rattle.mama_check_puts.proofs.BridgeSteps.{bridge_none_yet, bridge_one_more, bridge_all_dealt}
use Rattle.mama_check_puts.proofs.bridge.deal_all.Goals as goal

pub loop-event-init : goal.loop-event-init
loop-event-init c = bridge_none_yet _ _ _

pub loop-event-preserved : goal.loop-event-preserved
loop-event-preserved c =
    bridge_one_more c.args.puts.now c.loop-event.puts c.deal_one.new.puts c.args.entry (map (put_note own_tag) c.loop-event.out.items) (map (put_note own_tag) c.take_first.new.self.items)
    (put_note own_tag c.in-Some.event) _ c.loop-event.invariant (ap (map (put_note own_tag)) c.in-Some.ensures.some) c.in_ok-deal_one.ensures

pub returns : goal.returns
returns c =
    bridge_all_dealt c.args.puts.now c.loop-event.puts c.args.entry (map (put_note own_tag) c.loop-event.out.items) _ c.loop-event.invariant (ap (map (put_note own_tag)) c.in_default.ensures.none)
