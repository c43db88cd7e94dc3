use Rattle.std.proofs.Common.{◌≡◌, ◌≤◌, drop}
use Rattle.std.specs.List.{AllByRecursion}
use Rattle.mama_script.specs.Placing.{Roster, cast_after, no_cast}
use Rattle.mama_script.specs.Cast.{cast_in}
use Rattle.mama_script.proofs.placing.cast_of.Given as goal

abbrev pub invariant-loop-line : goal.invariant-loop-line
invariant-loop-line l = record {
  cast : cast_after (cast_in l.cast) (drop l.line-index l.lines) ≡ cast_after no_cast l.lines;
  turns : AllByRecursion (λ (r : Roster). r.turns ≤ l.line-index) l.cast.clients.items;
}
