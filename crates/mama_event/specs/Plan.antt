-- believed: what the plan of an object orders in which of its callbacks.
use Rattle.std.specs.Prelude.{ℕ, ◌==◌, List, map, filter}
use Rattle.mama_event.specs.declared.order.Order.{Order}
use Rattle.mama_event.specs.declared.order.PlanRow.{PlanRow}

-- the orders of a plan for the callback of this number, in order
abbrev pub planned : List PlanRow → ℕ → List Order
planned plan call = map (λ r. r.order) (filter (λ r. r.call == call) plan)
