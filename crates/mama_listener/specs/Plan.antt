-- believed: The rows of a plan, by the calls that they are for.
use Rattle.std.specs.Prelude.{◌≡◌, ℕ, ◌≤◌, List, length}
use Rattle.mama_event.specs.declared.order.PlanRow.{PlanRow}
use Rattle.mama_event.specs.Plan.{planned}

abbrev pub call_of : PlanRow → ℕ
call_of row = row.call

-- at most 8 rows are for one call
pub record HasFewRows (rows : List PlanRow) : Type 0 where
  pub most : (call : ℕ) → length (planned rows call) ≤ 8

-- both plans have the same orders for each call
pub record IsSameByCall (before after : List PlanRow) : Type 0 where
  pub same : (call : ℕ) → planned after call ≡ planned before call
