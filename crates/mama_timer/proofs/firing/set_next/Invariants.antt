use Rattle.std.proofs.Common.{◌≡◌, take}
use Rattle.mama_event.specs.declared.ids.TimerId.{TimerId}
use Rattle.mama_timer.specs.Rows.{row_of}
use Rattle.mama_timer.specs.Firing.{row_after}
use Rattle.mama_timer.proofs.firing.set_next.Given as goal

abbrev pub invariant-loop-firing : goal.invariant-loop-firing
invariant-loop-firing l = (timer : TimerId) → row_of l.timers.entries timer ≡ row_after (take l.firing-index l.firings) timer (row_of l.initial.timers.entries timer)
