-- inner: What the lines make and what is placed, without where it lies in memory.
use Rattle.std.specs.Prelude.{◌+◌, ◌^◌, ◌<◌}
use Rattle.std.specs.List.{AllByRecursion}
use Rattle.mama_script.specs.declared.placing.Cast.{Cast}
use Rattle.mama_script.specs.declared.placing.Placed.{Placed}
use Rattle.mama_script.specs.Placing as placing

abbrev pub cast_in : Cast → placing.Cast
cast_in c = record { queues = c.queues; clients = c.clients.items; stops = c.stops.keys }

abbrev pub placed_in : Placed → placing.Placed
placed_in p = record { grouped = p.grouped.keys; subs = p.subs.keys; timers = p.timers.keys }

-- each client can take one turn more
abbrev pub AreFewTurns : Cast → Type 0
AreFewTurns c = AllByRecursion (λ (r : placing.Roster). r.turns + 1 < 2 ^ 64) c.clients.items
