-- The ends that are left are those from the next number on, and the queues before it have their seats.
use Rattle.std.proofs.Common.{◌≡◌, ◌+◌, ◌++◌, map, drop}
use Rattle.std.specs.List.{All}
use Rattle.std.specs.Vec.Iter.{into_iter_items}
use Rattle.mama_journal.specs.Journal.{numbers_below}
use Rattle.mama_edge.specs.declared.gate.GateActor.TheVariants as gate
use Rattle.mama_event.specs.Ports.{clients_of, publishers_of, queues_of}
use Rattle.mama_lane.specs.Values.{new_taker}
use Rattle.mama_hall.specs.Ends.{ports_from}
use Rattle.mama_crew.specs.Seat.{actor_of}
use Rattle.mama_crew.specs.New.{IsNewSeatOf}
use Rattle.mama_crew.proofs.opening.seat_queues.Given as goal

abbrev pub invariant-loop-number : goal.invariant-loop-number
invariant-loop-number g l = record {
  takers : into_iter_items l.inlets ≡ drop l.number (map new_taker l.hall.to_queues);
  bridge : into_iter_items l.bridge_ports ≡ drop l.number (ports_from l.hall.to_bridge (clients_of l.script.shape + publishers_of l.script.shape) (queues_of l.script.shape));
  timers : into_iter_items l.timer_ports ≡ drop l.number (ports_from l.hall.to_timers (clients_of l.script.shape) (queues_of l.script.shape));
  watches : into_iter_items l.lists ≡ drop l.number l.fn.watches.items;
  actors : map actor_of l.seats.items ≡ map actor_of l.initial.seats.items ++ map (λ q. gate.Queue q) (numbers_below l.number);
  seats : All (IsNewSeatOf l.script l.hall) l.seats.items;
}
