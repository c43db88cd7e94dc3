use Rattle.std.specs.Prelude.{◌≡◌, vec_len}
use Rattle.mama_check_queue.proofs.lists.listeners_of.Given as goal

-- so many listeners
abbrev pub invariant-loop-group : goal.invariant-loop-group
invariant-loop-group l = vec_len l.listeners ≡ l.group-index
