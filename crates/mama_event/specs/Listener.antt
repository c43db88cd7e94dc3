-- believed: a listener as contracts see it, and what each of its callbacks makes of it.
use Rattle.std.specs.Prelude.{◌≡◌, ℕ, zero, suc, ◌+◌, nat_lt, List, [], ◌∷◌, ◌++◌, Option, None, Some, if◌then◌else◌, IsSomeAnd}
use Rattle.mama_event.specs.declared.ids.ObjectId.{ObjectId}
use Rattle.mama_event.specs.declared.callback.Callback.{Callback}
use Rattle.mama_event.specs.declared.order.Order.{Order}
use Rattle.mama_event.specs.declared.order.PlanRow.{PlanRow}
use Rattle.mama_event.specs.Plan.{planned}

-- A listener: its object, how many callbacks it got, and, where it tells them, those callbacks, the orders that it gave
-- in each, and its plan.
pub record ListenerData : Type 0 where
  pub tag : ObjectId
  pub calls : ℕ
  pub heard : Option (List Callback)
  pub given : Option (List (List Order))
  pub plan : Option (List PlanRow)

-- a value of any listener type, by what its type says of it
abbrev pub told : {L : Type 0} → (L → ObjectId) → (L → ℕ) → (L → Option (List Callback)) → (L → Option (List (List Order))) → (L → Option (List PlanRow)) → L → ListenerData
told tagged calls heard given plan l = record { tag = tagged l; calls = calls l; heard = heard l; given = given l; plan = plan l }

-- the most callbacks that a listener counts
abbrev pub most_calls : ℕ
most_calls = 18446744073709551615

-- one callback more, as far as it is counted
abbrev pub risen : ℕ → ℕ
risen n = if nat_lt n most_calls then n + 1 else n

-- the count that a listener reaches with this many callbacks more
abbrev pub reached : ℕ → ℕ → ℕ
reached count zero = count
reached count (suc more) = risen (reached count more)

-- callbacks are told after one more only where they were told before it, and then it is the last
abbrev pub HeardNext : Callback → Option (List Callback) → Option (List Callback) → Type 0
HeardNext call before None = Unit {0}
HeardNext call before (Some after) = IsSomeAnd before (λ calls. after ≡ calls ++ call ∷ [])

-- the orders of each callback are told after one more only where they were told before it, and then its are the last
abbrev pub GivenNext : List Order → Option (List (List Order)) → Option (List (List Order)) → Type 0
GivenNext orders before None = Unit {0}
GivenNext orders before (Some after) = IsSomeAnd before (λ given. after ≡ given ++ orders ∷ [])

-- where the plan is told, the orders are those that it has for this callback
abbrev pub IsPlanned : Option (List PlanRow) → ℕ → List Order → Type 0
IsPlanned None call orders = Unit {0}
IsPlanned (Some plan) call orders = orders ≡ planned plan call

-- a listener got this callback, and left these orders in what it was lent
pub record Heard (call : Callback) (before after : ListenerData) (left : List Order) : Type 0 where
  pub tag : after.tag ≡ before.tag
  pub plan : after.plan ≡ before.plan
  pub calls : after.calls ≡ risen before.calls
  pub heard : HeardNext call before.heard after.heard
  pub given : GivenNext left before.given after.given
  pub orders : IsPlanned before.plan after.calls left

-- a plan that is told has the same orders for each callback as these rows
abbrev pub PlansAs : Option (List PlanRow) → List PlanRow → Type 0
PlansAs None rows = ⊥
PlansAs (Some plan) rows = (call : ℕ) → planned plan call ≡ planned rows call
