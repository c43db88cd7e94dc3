use Rattle.std.specs.Prelude.{◌≡◌, take}
use Rattle.mama_check_queue.proofs.lists.copies_of.Given as goal

-- so many groups were copied
abbrev pub invariant-loop-group : goal.invariant-loop-group
invariant-loop-group l = l.copies.items ≡ take l.group-index l.groups
