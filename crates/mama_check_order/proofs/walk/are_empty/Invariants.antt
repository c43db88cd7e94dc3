use Rattle.std.proofs.Common.{◌≡◌, ℕ, ◌<◌, [], map, get_or}
use Rattle.mama_check_order.proofs.walk.are_empty.Given as goal

-- of the ports so far nothing is left
abbrev pub invariant-loop-list : goal.invariant-loop-list
invariant-loop-list g l = (port : ℕ) → port < l.list-index → get_or (map (λ list. list.now) l.left) port [] ≡ []
