-- inner: The places that timers leave, as the code finds them.
use Rattle.std.specs.Prelude.{Option, None, Some, if◌then◌else◌}
use Rattle.mama_event.specs.declared.ids.TimerId.{TimerId}
use Rattle.mama_timer.specs.declared.table.Row.{Row}
use Rattle.mama_timer.specs.declared.ending.Leaving.{Leaving}

-- the place of a timer of this row
abbrev pub place_left : TimerId → Row → Leaving
place_left timer row = record { timer = timer; queue = row.queue; slot = row.slot }

-- the place that a timer leaves, if it is armed
abbrev pub leaving_of : TimerId × Row → Option Leaving
leaving_of entry = if entry.1.armed then Some (place_left entry.0 entry.1) else None
