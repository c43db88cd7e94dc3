-- believed: fault rows: which fault a list of rows tells for an index, and which row of a list is bad first.
use Rattle.std.specs.Prelude.{ℕ, Bool, false, ◌==◌, List, [], ◌∷◌, ◌++◌, Option, None, Some, is_some, if◌then◌else◌}
use Rattle.std.specs.Option.{option_or}
use Rattle.mama_link.specs.declared.faults.Fault.{Fault}
use Rattle.mama_link.specs.declared.faults.Fault.TheVariants.{Lose, Dup, Hold, Cut}
use Rattle.mama_link.specs.declared.faults.FaultRow.{FaultRow}
use Rattle.mama_link.specs.declared.faults.FaultsFault.{FaultsFault}
use Rattle.mama_link.specs.declared.faults.FaultsFault.TheVariants.{Repeated, ZeroHold, ZeroIndex}

-- the fault that the rows tell for the message numbered i, if they have a row for it
abbrev pub fault_at : List FaultRow → ℕ → Option Fault
fault_at [] i = None
fault_at (row ∷ rows) i = if row.index == i then Some row.fault else fault_at rows i

-- whether a fault holds a message back by nothing
abbrev pub is_zero_hold : Fault → Bool
is_zero_hold Lose = false
is_zero_hold Dup = false
is_zero_hold (Hold by) = by == 0
is_zero_hold (Cut keep) = false

-- what is bad about a row that comes after the rows `before`: messages are numbered from 1, a hold is by at least 1, and a message has one fault at most
abbrev pub fault_of_row : List FaultRow → FaultRow → Option FaultsFault
fault_of_row before row =
    if row.index == 0 then Some ZeroIndex
    else (if is_zero_hold row.fault then Some (ZeroHold row.index)
    else (if is_some (fault_at before row.index) then Some (Repeated row.index) else None))

-- what is bad about the first bad row of `rows`, which come after the rows `before`
abbrev pub first_fault_after : List FaultRow → List FaultRow → Option FaultsFault
first_fault_after before [] = None
first_fault_after before (row ∷ rows) = option_or (fault_of_row before row) (first_fault_after (before ++ row ∷ []) rows)

-- what is bad about the first bad row of the list, if it has one
abbrev pub first_fault : List FaultRow → Option FaultsFault
first_fault rows = first_fault_after [] rows
