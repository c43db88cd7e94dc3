use Rattle.std.proofs.Common.{arith}
use Rattle.mama_drive.specs.Scene.{lane_in}
use Rattle.mama_drive.proofs.MarkLemmas.{marked_more}
use Rattle.mama_drive.proofs.StageLemmas.{on_ok}
use Rattle.mama_drive.proofs.SeatLemmas.{sender_laid, sender_past}
use Rattle.mama_drive.proofs.SystemLemmas.{with_sender, more_publishers_marked}
use Rattle.mama_drive.proofs.system.System.put_to_publisher.Goals as goal

pub invariant_of-self : goal.invariant_of-self
invariant_of-self c = more_publishers_marked _ _ _ _ _ _ _ _ _ _ _ _ c.self.invariant c.mark.new.marks c.mark.ensures.kept

pub invariant_of-self-2 : goal.invariant_of-self-2
invariant_of-self-2 c = with_sender _ _ _ _ _ _ _ _ _ _ _ _ c.self.invariant c.args.number c.put.new.self c.mark.new.marks
    (marked_more lane_in c.self.inside.publishers.items c.args.number c.put.new.self c.self.inside.marked_publishers c.mark.new.marks c.self.invariant.publishers_marked c.in-Ok.ensures.marked c.mark.ensures.kept)

pub returns-clause-lane : goal.returns-clause-lane
returns-clause-lane c = on_ok c.put.result
    (sender_laid _ c.args.self.now c.args.number c.index_mut-seat.result.now c.put.new.self _ c.self.view_is (omega (arith, c.self.inside.publishers.ok.0)) c.index_mut-seat.ensures.value)
    c.put.ensures.lane

pub returns-then-number-len-clause-lane : goal.returns-then-number-len-clause-lane
returns-then-number-len-clause-lane c = sender_past _ c.args.self.now c.args.number _ c.self.view_is (omega (arith, c.self.inside.publishers.ok.0))
