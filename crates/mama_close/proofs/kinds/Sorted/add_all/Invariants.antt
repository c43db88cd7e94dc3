use Rattle.std.proofs.Common.{◌≡◌, ◌++◌}
use Rattle.std.specs.List.{flat_map}
use Rattle.mama_close.specs.Kinds.{client_in, publisher_in, bridge_in, timers_in, queue_in}
use Rattle.mama_close.proofs.kinds.Sorted.add_all.Given as goal

abbrev pub invariant-loop-seat : goal.invariant-loop-seat
invariant-loop-seat g l = record {
  whole : l.yielded ++ l.seat-iterator.rest.items ≡ l.fn.seats.items;
  clients : l.self.clients.items ≡ flat_map client_in l.yielded;
  publishers : l.self.publishers.items ≡ flat_map publisher_in l.yielded;
  bridges : l.self.bridges.items ≡ flat_map bridge_in l.yielded;
  services : l.self.services.items ≡ flat_map timers_in l.yielded;
  queues : l.self.queues.items ≡ flat_map queue_in l.yielded;
}
