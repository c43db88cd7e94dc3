-- believed: the numbers of the ports of each lane, by the counts of a shape.
use Rattle.std.specs.Prelude.{ℕ, ◌+◌, Bool, ◌&&◌, ◌==◌, nat_lt, nat_le, length}
use Rattle.mama_event.specs.declared.shape.Shape.{Shape}

-- how many clients, publishers and queues there are
abbrev pub clients_of : Shape → ℕ
clients_of shape = shape.clients

abbrev pub publishers_of : Shape → ℕ
publishers_of shape = length shape.publisher_topics

abbrev pub queues_of : Shape → ℕ
queues_of shape = shape.bounds.queues

-- the bridge's lane: clients first, then publishers, then queues
abbrev pub bridge_port_of_client : Shape → ℕ → ℕ
bridge_port_of_client shape client = client

abbrev pub bridge_port_of_publisher : Shape → ℕ → ℕ
bridge_port_of_publisher shape publisher = clients_of shape + publisher

abbrev pub bridge_port_of_queue : Shape → ℕ → ℕ
bridge_port_of_queue shape queue = clients_of shape + publishers_of shape + queue

abbrev pub bridge_ports : Shape → ℕ
bridge_ports shape = clients_of shape + publishers_of shape + queues_of shape

-- a port of the bridge's lane is a client's, a publisher's or a queue's
abbrev pub is_bridge_port_of_client : Shape → ℕ → Bool
is_bridge_port_of_client shape port = nat_lt port (clients_of shape)

abbrev pub is_bridge_port_of_publisher : Shape → ℕ → Bool
is_bridge_port_of_publisher shape port = nat_le (clients_of shape) port && nat_lt port (clients_of shape + publishers_of shape)

abbrev pub is_bridge_port_of_queue : Shape → ℕ → Bool
is_bridge_port_of_queue shape port = nat_le (clients_of shape + publishers_of shape) port && nat_lt port (bridge_ports shape)

-- the timers' lane: clients first, then queues, then the bridge
abbrev pub timers_port_of_client : Shape → ℕ → ℕ
timers_port_of_client shape client = client

abbrev pub timers_port_of_queue : Shape → ℕ → ℕ
timers_port_of_queue shape queue = clients_of shape + queue

abbrev pub timers_port_of_bridge : Shape → ℕ
timers_port_of_bridge shape = clients_of shape + queues_of shape

-- a port of the timers' lane is a client's, a queue's or the bridge's
abbrev pub is_timers_port_of_client : Shape → ℕ → Bool
is_timers_port_of_client shape port = nat_lt port (clients_of shape)

abbrev pub is_timers_port_of_queue : Shape → ℕ → Bool
is_timers_port_of_queue shape port = nat_le (clients_of shape) port && nat_lt port (timers_port_of_bridge shape)

abbrev pub is_timers_port_of_bridge : Shape → ℕ → Bool
is_timers_port_of_bridge shape port = port == timers_port_of_bridge shape

-- a publisher's lane has the bridge's port alone; a queue's lane has the bridge's and then the timer service's
abbrev pub queue_port_of_bridge : ℕ
queue_port_of_bridge = 0

abbrev pub queue_port_of_timers : ℕ
queue_port_of_timers = 1
