-- believed: when two faults, two rows and two lists of rows are the same data.
use Rattle.std.specs.Prelude.{Bool, true, false, ◌==◌, ◌&&◌, List}
use Rattle.std.specs.Cmp.Lexicographic.{pointwise}
use Rattle.mama_link.specs.declared.faults.Fault.{Fault}
use Rattle.mama_link.specs.declared.faults.Fault.TheVariants.{Lose, Dup, Hold, Cut}
use Rattle.mama_link.specs.declared.faults.FaultRow.{FaultRow}

-- two faults are one
abbrev pub same_fault : Fault → Fault → Bool
same_fault Lose Lose = true
same_fault Dup Dup = true
same_fault (Hold by) (Hold by') = by == by'
same_fault (Cut keep) (Cut keep') = keep == keep'
same_fault _ _ = false

-- two rows tell one fault of one message
abbrev pub same_row : FaultRow → FaultRow → Bool
same_row a b = a.index == b.index && same_fault a.fault b.fault

-- two lists have the same rows, in the same order
abbrev pub same_rows : List FaultRow → List FaultRow → Bool
same_rows a b = pointwise same_row a b
