use Rattle.mama_check_puts.specs.Puts.{AreLists}
use Rattle.mama_check.specs.Puts.{to_bridge_in, to_timers_in, client_to_bridge, client_to_timers}
use Rattle.mama_check.proofs.puts.puts_of_clients.Given as goal

-- what so many clients put is told
abbrev pub invariant-loop-c : goal.invariant-loop-c
invariant-loop-c l = record {
  bridge : AreLists (to_bridge_in l.all.items) l.c (client_to_bridge l.script l.run);
  timers : AreLists (to_timers_in l.all.items) l.c (client_to_timers l.script l.run);
}
