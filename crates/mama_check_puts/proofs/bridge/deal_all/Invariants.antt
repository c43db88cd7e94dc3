use Rattle.std.proofs.Common.{length, map}
use Rattle.mama_bridge.specs.Outs.{put_note}
use Rattle.mama_check_puts.specs.Dealing.{own_tag}
use Rattle.mama_check_puts.proofs.BridgeSteps.{AreAllDealt}
use Rattle.mama_check_puts.proofs.bridge.deal_all.Given as goal

abbrev pub invariant-loop-event : goal.invariant-loop-event
invariant-loop-event l = AreAllDealt l.initial.puts l.puts l.entry (map (put_note own_tag) l.out.items) (map (put_note own_tag) l.initial.out.items)

abbrev pub decreases-loop-event : goal.decreases-loop-event
decreases-loop-event l = length l.out.items
