use Rattle.std.proofs.Common.{subst}
use Rattle.mama_crew.specs.declared.seat.Seat.{Seat}
use Rattle.mama_crew.specs.Placed.{HasPortsIn}
use Rattle.mama_crew.proofs.InformingLemmas.{note_lane}
use Rattle.mama_crew.proofs.seat.Seat.tell_publisher.Goals as goal

pub returns-in_ok-tell_publisher-in-Bridge-clause-lane : goal.returns-in_ok-tell_publisher-in-Bridge-clause-lane
returns-in_ok-tell_publisher-in-Bridge-clause-lane g c =
    let ports = subst (λ (s : Seat g.row.L.Denot). HasPortsIn c.args.hall.now s) c.in-Bridge.is c.requires.ports in
    note_lane c.in-Bridge.seat.ports.publishers c.args.hall.now.to_publishers c.args.number c.in_ok-tell_publisher-in-Bridge.field-0 ports.0 c.in_ok-tell_publisher-in-Bridge.ensures.note
