use Rattle.std.proofs.Common.{◌≡◌, length}
use Rattle.mama_plans.specs.Put.{notes_of}
use Rattle.mama_seats.specs.Waiting.{waits}
use Rattle.mama_drive.specs.Held.{lay_out, lay_all}
use Rattle.mama_drive.proofs.held.settle_outs.Given as goal

abbrev pub invariant-loop-out : goal.invariant-loop-out
invariant-loop-out l =
    lay_all (lay_out l.bridge_port l.timers_port) (notes_of (waits l.outs)) l.system
    ≡ lay_all (lay_out l.bridge_port l.timers_port) (notes_of (waits l.fn.outs)) l.fn.system

abbrev pub decreases-loop-out : goal.decreases-loop-out
decreases-loop-out l = length (waits l.outs)
