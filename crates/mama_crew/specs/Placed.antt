-- inner: That the ends of a seat are ends of the lanes of a hall, whatever the script.
use Rattle.std.specs.Prelude.{◌≡◌}
use Rattle.mama_posts_services.specs.Ports.{lanes_of, ids_of}
use Rattle.mama_crew.specs.Hall.{HallValue}
use Rattle.mama_crew.specs.declared.seat.Seat.{Seat}
use Rattle.mama_crew.specs.declared.seat.Seat.TheVariants.{Client, Publisher, Bridge, Timers, Queue}

-- each port is on the lane of the actor to whom it puts
abbrev pub HasPortsIn : {L : Type 0} → HallValue → Seat L → Type 0
HasPortsIn hall (Client c seat) = (seat.post.ports.to_bridge.lane ≡ hall.to_bridge.id) × (seat.post.ports.to_timers.lane ≡ hall.to_timers.id)
HasPortsIn hall (Publisher p post) = post.port.lane ≡ hall.to_bridge.id
HasPortsIn hall (Bridge post) =
    (lanes_of post.ports.publishers ≡ ids_of hall.to_publishers) × (lanes_of post.ports.queues ≡ ids_of hall.to_queues) × (post.ports.timers.lane ≡ hall.to_timers.id)
HasPortsIn hall (Timers post) = lanes_of post.queues ≡ ids_of hall.to_queues
HasPortsIn hall (Queue q post) = (post.ports.to_bridge.lane ≡ hall.to_bridge.id) × (post.ports.to_timers.lane ≡ hall.to_timers.id)
