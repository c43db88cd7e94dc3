use Rattle.std.proofs.Common.{◌≡◌, ◌++◌, map, take}
use Rattle.mama_check.specs.Puts.{to_bridge_in}
use Rattle.mama_check.proofs.gather.add_clients.Given as goal

-- what was put by so many is added
abbrev pub invariant-loop-client : goal.invariant-loop-client
invariant-loop-client l = map (λ list. list.now) l.lists.items ≡ map (λ list. list.now) l.initial.lists.items ++ to_bridge_in (take l.client-index l.clients)
