use Rattle.std.proofs.Common.{arith, ap}
use Rattle.mama_drive.specs.Scene.{heard_in, journal_in, waiting_in}
use Rattle.mama_drive.proofs.MarkLemmas.{marked_more}
use Rattle.mama_drive.proofs.StageLemmas.{on_ok}
use Rattle.mama_drive.proofs.SeatLemmas.{server_laid, server_past, seat_kept, seat_of_same, with_event_kept}
use Rattle.mama_drive.proofs.SystemLemmas.{with_lane, more_queues_marked}
use Rattle.mama_drive.proofs.system.System.put_to_queue.Goals as goal

pub invariant_of-self : goal.invariant_of-self
invariant_of-self c = more_queues_marked _ _ _ _ _ _ _ _ _ _ _ _ c.self.invariant c.mark.new.marks c.mark.ensures.kept

pub invariant_of-self-2 : goal.invariant_of-self-2
invariant_of-self-2 c = with_lane _ _ _ _ _ _ _ _ _ _ _ _ c.self.invariant c.args.number c.index_mut-seat.result.now c.put.new.self c.mark.new.marks c.index_mut-seat.ensures.value
    (seat_of_same c.put.result c.index_mut-seat.result.now c.put.new.self _ (with_event_kept c.index_mut-seat.result.now c.put.new.self _) c.put.ensures.lane c.put.ensures.err)
    (seat_kept heard_in c.put.result c.index_mut-seat.result.now c.put.new.self _ (λ is. ap heard_in is) c.put.ensures.lane c.put.ensures.err)
    (seat_kept journal_in c.put.result c.index_mut-seat.result.now c.put.new.self _ (λ is. ap journal_in is) c.put.ensures.lane c.put.ensures.err)
    (marked_more waiting_in c.self.inside.queues.items c.args.number c.put.new.self c.self.inside.marked_queues c.mark.new.marks c.self.invariant.queues_marked c.in-Ok.ensures.marked c.mark.ensures.kept)

pub returns-clause-lane : goal.returns-clause-lane
returns-clause-lane c = on_ok c.put.result
    (server_laid _ c.args.self.now c.args.number c.index_mut-seat.result.now c.put.new.self _ c.self.view_is (omega (arith, c.self.inside.queues.ok.0)) c.index_mut-seat.ensures.value)
    c.put.ensures.lane

pub returns-then-number-len-clause-lane : goal.returns-then-number-len-clause-lane
returns-then-number-len-clause-lane c = server_past _ c.args.self.now c.args.number _ c.self.view_is (omega (arith, c.self.inside.queues.ok.0))
