use Rattle.std.specs.Prelude.{◌≡◌, map, take}
use Rattle.mama_rules_queue.specs.Queue.{order_put}
use Rattle.mama_check_queue.specs.Puts.{put_all}
use Rattle.mama_check_queue.proofs.puts.Puts.put_orders.Given as goal

-- so many orders were put
abbrev pub invariant-loop-order : goal.invariant-loop-order
invariant-loop-order l = l.self ≡ put_all l.entry (map order_put (take l.order-index l.orders)) l.initial.self
