use Rattle.std.proofs.Common.{◌≡◌, ◌+◌, ◌++◌, map, take}
use Rattle.mama_event.specs.ToService.{service_of}
use Rattle.mama_rules_queue.specs.Queue.{order_put}
use Rattle.mama_dispatch.specs.Turns.{put_note}
use Rattle.mama_dispatch.proofs.puts.put_orders.Given as goal

abbrev pub invariant-loop-order : goal.invariant-loop-order
invariant-loop-order g l = record {
  puts : map (put_note g.M.Tagged.tagged) l.out.items ≡ map (put_note g.M.Tagged.tagged) l.initial.out.items ++ map order_put (take l.order-index l.order-items);
  items : l.out.items ≡ l.initial.out.items ++ map service_of (take l.order-index l.order-items);
  spare : l.out.spare + l.order-index ≡ l.initial.out.spare;
}
