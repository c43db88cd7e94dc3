use Rattle.mama_crew.proofs.opening.seat_bridge.Goals as goal

pub add-requires-clause-seat : goal.add-requires-clause-seat
add-requires-clause-seat g c = record { sits = c.in_ok-seat.ensures.seat; new = c.in_ok-seat.ensures.new }
