-- inner: The orders of plans, by objects and calls.
use Rattle.std.specs.Prelude.{◌≡◌, ℕ, List, [], Option, Some, None, nat_eq, unwrap_or}
use Rattle.indexmap.specs.IndexMap.{IndexMap, get}
use Rattle.mama_journal.specs.Journal.{first_said}
use Rattle.mama_event.specs.declared.ids.ObjectId.{ObjectId}
use Rattle.mama_event.specs.declared.order.Order.{Order}
use Rattle.mama_event.specs.declared.order.PlanRow.{PlanRow}
use Rattle.mama_event.specs.Object.{same_object}
use Rattle.mama_event.specs.Plan.{planned}
use Rattle.mama_rules_rounds.specs.Client.{Planned}
use Rattle.mama_rules_rounds.specs.Setting.{plan_in}

-- the orders that are found for each call are those of a plan, and none are found where there is none
abbrev pub IsPlanOf : {S : Type 0} → Option (IndexMap ℕ (List Order) S) → Option (List PlanRow) → Type 0
IsPlanOf None None = Unit {0}
IsPlanOf None (Some rows) = ⊥
IsPlanOf (Some found) None = ⊥
IsPlanOf (Some found) (Some rows) = (call : ℕ) → unwrap_or (get nat_eq found call) [] ≡ planned rows call

-- each object's plan is found by its id
pub record AreFound {S T : Type 0} (by_object : IndexMap ObjectId (IndexMap ℕ (List Order) S) T) (objects : List Planned) : Type 0 where
  pub each : (o : ObjectId) → IsPlanOf (get same_object by_object o) (first_said (plan_in o) objects)
