-- inner: what the parts of the reader return, for memory and for bytes.
use Rattle.std.specs.Prelude.{◌≡◌, ◌≤◌, ℕ, List, Result, Ok, Err}
use Rattle.mama_payload.specs.declared.fault.Rule.{Rule}
use Rattle.mama_payload.specs.declared.fault.Fault.{Fault}
use Rattle.mama_payload.specs.declared.fault.Stop.{Stop}
use Rattle.mama_payload.specs.declared.fault.Stop.TheVariants as stops
use Rattle.mama_payload.specs.Stop.{fault_at}

-- reading stops with a rule that is broken at the first of these bytes
abbrev pub stop_at : Rule → List ℕ → Stop
stop_at rule bytes = stops.Fault (fault_at rule bytes)

-- a fault is not before the front of so many bytes
abbrev pub IsWithin : ℕ → Stop → Type 0
IsWithin size stops.OutOfMemory = Unit {0}
IsWithin size (stops.Fault fault) = fault.left ≤ size

-- why reading stopped is the fault that reading gives, unless memory ran out
abbrev pub Stops : {Y : Type 0} → Stop → Result Y Fault → Type 0
Stops stops.OutOfMemory read = Unit {0}
Stops (stops.Fault fault) read = read ≡ Err fault

-- what a function returned, seen by view, is what reading gives, unless memory ran out
abbrev pub Gives : {X Y : Type 0} → (X → Y) → Result X Stop → Result Y Fault → Type 0
Gives view (Ok x) read = read ≡ Ok (view x)
Gives view (Err stop) read = Stops stop read
