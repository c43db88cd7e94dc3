use Rattle.std.proofs.Common.{◌≡◌, ◌++◌, map, take}
use Rattle.mama_check.proofs.gather.add_publishers.Given as goal

-- what was put by so many is added
abbrev pub invariant-loop-list : goal.invariant-loop-list
invariant-loop-list l = map (λ list. list.now) l.lists.items ≡ map (λ list. list.now) l.initial.lists.items ++ map (λ list. list.items) (take l.list-index l.publishers)
