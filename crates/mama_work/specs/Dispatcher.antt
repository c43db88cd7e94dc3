-- believed: the number of a queue, by which its dispatcher is counted.
use Rattle.std.specs.Prelude.{ℕ}
use Rattle.mama_edge.specs.declared.gate.GateActor.{GateActor}
use Rattle.mama_edge.specs.declared.gate.GateActor.TheVariants.{Queue}

-- the number of a queue, and 0 for an actor that is none
abbrev pub queue_number : GateActor → ℕ
queue_number (Queue number) = number
queue_number _ = 0
