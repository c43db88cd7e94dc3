use Rattle.std.proofs.Common.{subst}
use Rattle.mama_crew.specs.declared.seat.Seat.{Seat}
use Rattle.mama_crew.specs.Placed.{HasPortsIn}
use Rattle.mama_crew.proofs.InformingLemmas.{note_lane}
use Rattle.mama_crew.proofs.seat.Seat.tell_queue.Goals as goal

pub returns-in_ok-tell_queue-in-Bridge-clause-lane : goal.returns-in_ok-tell_queue-in-Bridge-clause-lane
returns-in_ok-tell_queue-in-Bridge-clause-lane g c =
    let ports = subst (λ (s : Seat g.row.L.Denot). HasPortsIn c.args.hall.now s) c.in-Bridge.is c.requires.ports in
    note_lane c.in-Bridge.seat.ports.queues c.args.hall.now.to_queues c.args.number c.in_ok-tell_queue-in-Bridge.field-0 ports.1 c.in_ok-tell_queue-in-Bridge.ensures.note

pub returns-in_ok-tell_queue-in-Timers-clause-lane : goal.returns-in_ok-tell_queue-in-Timers-clause-lane
returns-in_ok-tell_queue-in-Timers-clause-lane g c =
    let ports = subst (λ (s : Seat g.row.L.Denot). HasPortsIn c.args.hall.now s) c.in-Timers.is c.requires.ports in
    note_lane c.in-Timers.seat.queues c.args.hall.now.to_queues c.args.number c.in_ok-tell_queue-in-Timers.field-0 ports c.in_ok-tell_queue-in-Timers.ensures.note
