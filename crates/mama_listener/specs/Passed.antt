-- inner: How far the rows of a plan were passed.
use Rattle.std.specs.Prelude.{ℕ, ◌<◌, List, slice_index_or}
use Rattle.mama_event.specs.declared.order.PlanRow.{PlanRow}

-- the rows before a place are for earlier calls
pub record IsPassed (rows : List PlanRow) (place call : ℕ) : Type 0 where
  pub each : (k : ℕ) (d : PlanRow) → k < place → (slice_index_or rows k d).call < call
