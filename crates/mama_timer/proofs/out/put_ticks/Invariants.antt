use Rattle.std.proofs.Common.{◌≡◌, ◌+◌, ◌++◌, map, take}
use Rattle.mama_timer.specs.Putting.{tick_out}
use Rattle.mama_timer.proofs.out.put_ticks.Given as goal

abbrev pub invariant-loop-firing : goal.invariant-loop-firing
invariant-loop-firing g l = record {
  items : l.out.items ≡ l.initial.out.items ++ map (tick_out l.moment) (take l.firing-index l.firings);
  spare : l.out.spare + l.firing-index ≡ l.initial.out.spare;
}
