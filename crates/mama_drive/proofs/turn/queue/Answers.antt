use Rattle.std.proofs.Common.{arith}
use Rattle.mama_drive.proofs.TurnsLemmas.{queue_next, queues_end, queue_within, found_few}
use Rattle.mama_drive.proofs.turn.queue.Goals as goal

pub queue_turn-requires : goal.queue_turn-requires
queue_turn-requires c = queue_within c.args.number c.in-Some.next c.next_queue.new.self c.in_ok-found.found c.in-Some.is c.in_ok-found.ensures.next

pub overflow_add-result : goal.overflow_add-result
overflow_add-result c = omega (arith, found_few _ c.in-Some.next c.in_ok-found.found c.in-Some.is c.in_ok-found.ensures.within)

pub returns-in_ok-queue_turn-in-Some-clause-on : goal.returns-in_ok-queue_turn-in-Some-clause-on
returns-in_ok-queue_turn-in-Some-clause-on c = queue_next c.args.number c.in-Some.next c.args.run.now c.next_queue.new.self c.queue_turn.new.self c.in_ok-found.found c.next_queue.ensures.same c.in-Some.is
    c.in_ok-found.ensures.next c.in_ok-found.ensures.within c.in_ok-queue_turn-in-Some.ensures.turn

pub returns-in-None-clause-on : goal.returns-in-None-clause-on
returns-in-None-clause-on c = queues_end c.args.number c.args.run.now c.next_queue.new.self c.in_ok-found.found c.next_queue.ensures.same c.in-None.is c.in_ok-found.ensures.next
