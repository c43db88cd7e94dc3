use Rattle.std.proofs.Common.{◌≡◌, take, sum_by}
use Rattle.mama_bridge.specs.Links.{sub_held}
use Rattle.mama_bridge.specs.Placed.{present}
use Rattle.mama_bridge.proofs.entry.held_by_all.Given as goal

abbrev pub invariant-loop-i : goal.invariant-loop-i
invariant-loop-i l = l.total ≡ sum_by sub_held (present (take l.i l.entries.items))
