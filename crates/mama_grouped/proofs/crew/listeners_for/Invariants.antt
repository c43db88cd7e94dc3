use Rattle.std.proofs.Common.{map, take}
use Rattle.mama_group.specs.Listener.{told}
use Rattle.mama_grouped.specs.Opening.{AreNew}
use Rattle.mama_grouped.proofs.crew.listeners_for.Given as goal

abbrev pub invariant-loop-row : goal.invariant-loop-row
invariant-loop-row g l = AreNew (take l.row-index l.rows) (map (told g.H.GroupListener.tagged g.H.GroupListener.calls g.H.GroupListener.heard) l.listeners.items)
