-- inner: by which numbers the code finds the cell of a table.
use Rattle.std.specs.Prelude.{ℕ, Bool, true, false}
use Rattle.mama_dq.specs.declared.table.Phase.{Phase}
use Rattle.mama_dq.specs.declared.table.Phase.TheVariants.{Await, LiveOk, LiveStale, LiveKept}
use Rattle.mama_dq.specs.declared.table.Relation.{Relation}
use Rattle.mama_dq.specs.declared.table.Relation.TheVariants.{Next, Same, Old, Ahead, Other}

-- the phase in whose cells of the table of strategy one the actions of a phase stand
abbrev pub phase_of_one : Phase → Phase
phase_of_one Await = Await
phase_of_one LiveOk = LiveOk
phase_of_one LiveStale = LiveStale
phase_of_one LiveKept = LiveOk

-- the numbers of phases, relations and kinds of messages, by which the cells of a table are numbered
abbrev pub phase_number : Phase → ℕ
phase_number Await = 0
phase_number LiveOk = 1
phase_number LiveStale = 2
phase_number LiveKept = 3

abbrev pub relation_number : Relation → ℕ
relation_number Next = 0
relation_number Same = 1
relation_number Old = 2
relation_number Ahead = 3
relation_number Other = 4

abbrev pub kind_number : Bool → ℕ
kind_number false = 0
kind_number true = 1
