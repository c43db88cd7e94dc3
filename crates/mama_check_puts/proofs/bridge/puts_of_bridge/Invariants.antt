use Rattle.std.proofs.Common.{◌≡◌, take}
use Rattle.mama_event.specs.Ports.{publishers_of, queues_of}
use Rattle.mama_check_puts.specs.Puts.{AreLists, bridge_put_to_publisher, bridge_put_to_queue, bridge_put_to_timers, publishers_in, queues_in}
use Rattle.mama_check_puts.proofs.bridge.puts_of_bridge.Given as goal

abbrev pub invariant-loop-entry : goal.invariant-loop-entry
invariant-loop-entry l = record {
  bridge : l.bridge ≡ record { shape = l.shape; journal = take l.entry l.journal };
  publishers : AreLists (publishers_in l.puts) (publishers_of l.shape) (bridge_put_to_publisher l.shape (take l.entry l.journal));
  queues : AreLists (queues_in l.puts) (queues_of l.shape) (bridge_put_to_queue l.shape (take l.entry l.journal));
  timers : l.puts.to_timers.items ≡ bridge_put_to_timers l.shape (take l.entry l.journal);
}
