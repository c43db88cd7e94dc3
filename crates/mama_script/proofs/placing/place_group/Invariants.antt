use Rattle.std.proofs.Common.{◌≡◌, ◌++◌, drop, take}
use Rattle.mama_script.specs.Placing.{may_group}
use Rattle.mama_script.specs.Cast.{cast_in}
use Rattle.mama_script.proofs.placing.place_group.Given as goal

abbrev pub invariant-loop-id : goal.invariant-loop-id
invariant-loop-id l = record {
  may : may_group (cast_in l.cast) l.queue l.placed.grouped.keys (drop l.id-index l.ids) ≡ may_group (cast_in l.cast) l.queue l.fn.placed.grouped.keys l.ids;
  grouped : l.placed.grouped.keys ≡ l.fn.placed.grouped.keys ++ take l.id-index l.ids;
  subs : l.placed.subs ≡ l.fn.placed.subs;
  timers : l.placed.timers ≡ l.fn.placed.timers;
}
