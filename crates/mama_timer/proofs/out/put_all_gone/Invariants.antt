use Rattle.std.proofs.Common.{◌≡◌, ◌+◌, ◌++◌, map, take}
use Rattle.mama_timer.specs.Putting.{gone_out}
use Rattle.mama_timer.proofs.out.put_all_gone.Given as goal

abbrev pub invariant-loop-one : goal.invariant-loop-one
invariant-loop-one g l = record {
  items : l.out.items ≡ l.initial.out.items ++ map gone_out (take l.one-index l.leaving);
  spare : l.out.spare + l.one-index ≡ l.initial.out.spare;
}
