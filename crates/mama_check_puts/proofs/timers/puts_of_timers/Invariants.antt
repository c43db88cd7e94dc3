use Rattle.std.proofs.Common.{◌≡◌, map, take}
use Rattle.mama_event.specs.Ports.{queues_of}
use Rattle.mama_check_puts.specs.Puts.{AreLists, timers_put_to}
use Rattle.mama_check_puts.proofs.timers.puts_of_timers.Given as goal

abbrev pub invariant-loop-entry : goal.invariant-loop-entry
invariant-loop-entry l = record {
  service : l.timers ≡ record { shape = l.shape; journal = take l.entry l.journal };
  lists : AreLists (map (λ list. list.items) l.lists.items) (queues_of l.shape) (timers_put_to l.shape (take l.entry l.journal));
}
