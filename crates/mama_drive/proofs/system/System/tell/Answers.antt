use Rattle.std.proofs.Common.{arith, ap}
use Rattle.mama_drive.specs.Scene.{waiting_in, journal_in}
use Rattle.mama_drive.proofs.StageLemmas.{on_ok}
use Rattle.mama_drive.proofs.SeatLemmas.{server_told, untold_past, seat_kept, seat_of_same, told_kept, told_still}
use Rattle.mama_drive.proofs.SystemLemmas.{with_told}
use Rattle.mama_drive.proofs.system.System.tell.Goals as goal

pub invariant_of-self : goal.invariant_of-self
invariant_of-self c = with_told _ _ _ _ _ _ _ _ _ _ _ _ c.self.invariant c.args.queue c.index_mut-seat.result.now c.tell.new.self (omega (arith, c.self.inside.queues.ok.0)) c.index_mut-seat.ensures.value
    (seat_of_same c.tell.result c.index_mut-seat.result.now c.tell.new.self _ (told_kept c.index_mut-seat.result.now c.tell.new.self) c.tell.ensures.ok c.tell.ensures.err)
    (seat_kept waiting_in c.tell.result c.index_mut-seat.result.now c.tell.new.self _ (λ is. ap waiting_in is) c.tell.ensures.ok c.tell.ensures.err)
    (told_still c.tell.result c.index_mut-seat.result.now c.tell.new.self c.tell.ensures.ok c.tell.ensures.err)
    (seat_kept journal_in c.tell.result c.index_mut-seat.result.now c.tell.new.self _ (λ is. ap journal_in is) c.tell.ensures.ok c.tell.ensures.err)

pub returns-clause-ok : goal.returns-clause-ok
returns-clause-ok c = on_ok c.tell.result
    (server_told _ c.args.self.now c.args.queue c.index_mut-seat.result.now c.tell.new.self c.self.view_is (omega (arith, c.self.inside.queues.ok.0)) c.index_mut-seat.ensures.value)
    c.tell.ensures.ok

pub returns-then-queue-len-clause-ok : goal.returns-then-queue-len-clause-ok
returns-then-queue-len-clause-ok c = untold_past _ c.args.self.now c.args.queue c.self.view_is (omega (arith, c.self.inside.queues.ok.0))
