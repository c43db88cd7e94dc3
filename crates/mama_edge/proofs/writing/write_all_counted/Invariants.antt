use Rattle.std.proofs.Common.{◌-◌, ◌≤◌, length, take}
use Rattle.mama_edge.specs.Told.{Appended}
use Rattle.mama_edge.proofs.writing.write_all_counted.Given as goal

abbrev pub invariant-pieces : goal.invariant-pieces
invariant-pieces g l =
    (l.done ≤ length l.text)
    × Appended (g.K.Sink.written l.fn.sink) (g.K.Sink.written l.sink) (take l.done l.text)
    × (g.K.Sink.faults l.fn.sink ≤ g.K.Sink.faults l.sink)

abbrev pub decreases-pieces : goal.decreases-pieces
decreases-pieces g l = length l.text - l.done
