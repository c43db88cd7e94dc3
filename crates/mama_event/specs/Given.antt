-- inner: how the orders that were given in a callback are kept: in a block, or in none where there are none.
use Rattle.std.specs.Prelude.{List, [], Option, None, Some}
use Rattle.std.specs.Box.{box_value}
use Rattle.std.specs.declared.alloc.Global.{Global}
use Rattle.std.specs.declared.boxed.Box.{Box}
use Rattle.mama_event.specs.declared.order.Order.{Order}

abbrev pub orders_in : Option (Box (List Order) Global) → List Order
orders_in None = []
orders_in (Some block) = box_value block
