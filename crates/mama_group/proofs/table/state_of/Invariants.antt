use Rattle.std.specs.Prelude.{map, drop}
use Rattle.std.proofs.Common.{◌≡◌}
use Rattle.mama_group.specs.Listener.{told}
use Rattle.mama_group.specs.Table.{state_in}
use Rattle.mama_group.specs.Kept.{group_of}
use Rattle.mama_group.proofs.table.state_of.Given as goal

abbrev pub invariant-loop-group : goal.invariant-loop-group
invariant-loop-group g l =
    state_in l.number (map (group_of (told g.H.GroupListener.tagged g.H.GroupListener.calls g.H.GroupListener.heard)) (drop l.group-index l.groups))
    ≡ state_in l.number (map (group_of (told g.H.GroupListener.tagged g.H.GroupListener.calls g.H.GroupListener.heard)) l.groups)
