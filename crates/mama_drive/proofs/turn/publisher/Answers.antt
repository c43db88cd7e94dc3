use Rattle.std.proofs.Common.{arith}
use Rattle.mama_drive.proofs.TurnsLemmas.{publisher_next, publishers_end, publisher_within, found_few}
use Rattle.mama_drive.proofs.turn.publisher.Goals as goal

pub publisher_turn-requires : goal.publisher_turn-requires
publisher_turn-requires c = publisher_within c.args.number c.in-Some.next c.next_publisher.new.self c.in_ok-found.found c.in-Some.is c.in_ok-found.ensures.next

pub overflow_add-result : goal.overflow_add-result
overflow_add-result c = omega (arith, found_few _ c.in-Some.next c.in_ok-found.found c.in-Some.is c.in_ok-found.ensures.within)

pub returns-in_ok-publisher_turn-in-Some-clause-on : goal.returns-in_ok-publisher_turn-in-Some-clause-on
returns-in_ok-publisher_turn-in-Some-clause-on c = publisher_next c.args.number c.in-Some.next c.args.run.now c.next_publisher.new.self c.publisher_turn.new.self c.in_ok-found.found c.next_publisher.ensures.same c.in-Some.is
    c.in_ok-found.ensures.next c.in_ok-found.ensures.within c.in_ok-publisher_turn-in-Some.ensures.turn

pub returns-in-None-clause-on : goal.returns-in-None-clause-on
returns-in-None-clause-on c = publishers_end c.args.number c.args.run.now c.next_publisher.new.self c.in_ok-found.found c.next_publisher.ensures.same c.in-None.is c.in_ok-found.ensures.next
