-- believed: which actor puts by which port of a lane.
use Rattle.std.specs.Prelude.{ℕ, ◌-◌, ◌==◌, if◌then◌else◌}
use Rattle.mama_event.specs.declared.shape.Shape.{Shape}
use Rattle.mama_event.specs.Ports.{clients_of, publishers_of, queue_port_of_bridge, queue_port_of_timers, is_bridge_port_of_client, is_bridge_port_of_publisher, is_bridge_port_of_queue, is_timers_port_of_client, is_timers_port_of_queue, is_timers_port_of_bridge}

-- the actor behind a port
pub data Putter : Type 0 where
  ByClient : ℕ → Putter
  ByPublisher : ℕ → Putter
  ByQueue : ℕ → Putter
  ByBridge : Putter
  ByTimers : Putter
  ByNobody : Putter

-- on the bridge's lane
abbrev pub bridge_putter : Shape → ℕ → Putter
bridge_putter shape port =
    if is_bridge_port_of_client shape port then ByClient port
    else (if is_bridge_port_of_publisher shape port then ByPublisher (port - clients_of shape)
    else (if is_bridge_port_of_queue shape port then ByQueue (port - clients_of shape - publishers_of shape) else ByNobody))

-- on the timers' lane
abbrev pub timers_putter : Shape → ℕ → Putter
timers_putter shape port =
    if is_timers_port_of_client shape port then ByClient port
    else (if is_timers_port_of_queue shape port then ByQueue (port - clients_of shape)
    else (if is_timers_port_of_bridge shape port then ByBridge else ByNobody))

-- on a queue's lane
abbrev pub queue_putter : ℕ → Putter
queue_putter port = if port == queue_port_of_bridge then ByBridge else (if port == queue_port_of_timers then ByTimers else ByNobody)
