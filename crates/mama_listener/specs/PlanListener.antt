-- inner: What a plan listener keeps.
use Rattle.std.specs.Prelude.{◌≡◌, ◌+◌, ◌≤◌, true, List, length, Option, None, Some}
use Rattle.std.specs.Global.{Vec}
use Rattle.std.specs.List.Sorted.{IsNonDecreasingBy}
use Rattle.mama_event.specs.declared.callback.Callback.{Callback}
use Rattle.mama_listener.specs.declared.plan_listener.PlanListener.TheInside.{Inside}
use Rattle.mama_listener.specs.Plan.{call_of, HasFewRows}
use Rattle.mama_listener.specs.Passed.{IsPassed}

-- the callbacks that were kept
abbrev pub heard_by : Option (Vec Callback) → Option (List Callback)
heard_by None = None
heard_by (Some calls) = Some calls.items

-- At most 8 rows are for one call. Where the rows are in order, those before the next were for calls that were made.
pub record IsReady (l : Inside) : Type 0 where
  pub few : HasFewRows l.rows.items
  pub ascend : l.sorted ≡ true → IsNonDecreasingBy call_of l.rows.items
  pub within : l.sorted ≡ true → l.next ≤ length l.rows.items
  pub passed : l.sorted ≡ true → IsPassed l.rows.items l.next (l.count + 1)
