use Rattle.std.proofs.Common.{map, take, drop}
use Rattle.mama_check_order.proofs.LaneWalk.{IsWalked}
use Rattle.mama_check_order.proofs.walk.walk.Given as goal

-- the walk has come this far
abbrev pub invariant-loop-port : goal.invariant-loop-port
invariant-loop-port g l = IsWalked l.actors (map (λ list. list.now) l.lists) l.journal (take l.port-index l.journal) (drop l.port-index l.journal) (map (λ list. list.now) l.left.items) l.needs.items
