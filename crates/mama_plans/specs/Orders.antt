-- believed: What the listeners of some objects order, by the objects' plans.
use Rattle.std.specs.Prelude.{ℕ, List}
use Rattle.mama_journal.specs.Journal.{first_said}
use Rattle.mama_event.specs.declared.ids.ObjectId.{ObjectId}
use Rattle.mama_event.specs.declared.order.Order.{Order}
use Rattle.mama_event.specs.Plan.{planned}
use Rattle.mama_rules_rounds.specs.Client.{Planned}
use Rattle.mama_rules_rounds.specs.Setting.{plan_in, rows_of}

-- what the listener of an object orders in the call of a number
abbrev pub orders_in : List Planned → ObjectId → ℕ → List Order
orders_in objects o call = planned (rows_of (first_said (plan_in o) objects)) call
