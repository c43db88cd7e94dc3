use Rattle.std.proofs.Common.{◌≡◌, length, take}
use Rattle.mama_event.proofs.order.Orders.copied.Given as goal

-- the orders so far are copied
abbrev pub invariant-loop-i : goal.invariant-loop-i
invariant-loop-i l = record {
  size : length l.orders-inside.orders ≡ 8;
  front : take l.i l.orders-inside.orders ≡ take l.i l.self-inside.orders;
}
