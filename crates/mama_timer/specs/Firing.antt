-- inner: The timers that a moment lets tick, as the code finds them.
use Rattle.std.specs.Prelude.{ℕ, ◌+◌, Bool, false, ◌&&◌, ◌==◌, nat_le, List, [], ◌∷◌, Option, None, Some, if◌then◌else◌}
use Rattle.std.specs.Option.{option_map}
use Rattle.mama_event.specs.declared.ids.TimerId.{TimerId}
use Rattle.mama_event.specs.Object.{same_timer}
use Rattle.mama_timer.specs.declared.table.Row.{Row}
use Rattle.mama_timer.specs.declared.firing.Firing.{Firing}

-- a timer is armed, and due at this moment
abbrev pub is_due_at : ℕ → Option Row → Bool
is_due_at moment None = false
is_due_at moment (Some row) = row.armed && row.due == moment

-- the firing of a timer of this row at this clock
abbrev pub fired : TimerId → ℕ → Row → Firing
fired timer clock row = record { timer = timer; queue = row.queue; slot = row.slot; due = clock + row.interval }

abbrev pub fired_row : TimerId → ℕ → ℕ → Option Row → Option Firing
fired_row timer moment clock None = None
fired_row timer moment clock (Some row) = if row.armed && row.due == moment then Some (fired timer clock row) else None

-- the firing that a due moment stands for
abbrev pub firing_of : (TimerId → Option Row) → ℕ → ℕ × TimerId → Option Firing
firing_of rows clock key = fired_row key.1 key.0 clock (rows key.1)

-- the due moment that a firing writes down
abbrev pub next_key : Firing → ℕ × TimerId
next_key firing = (firing.due, firing.timer)

-- a row that is due at another moment
abbrev pub due_then : ℕ → Row → Row
due_then moment row = record { queue = row.queue; slot = row.slot; interval = row.interval; due = moment; armed = row.armed }

-- what is kept of a timer after each of these firings
abbrev pub row_after : List Firing → TimerId → Option Row → Option Row
row_after [] timer row = row
row_after (f ∷ fs) timer row = row_after fs timer (if same_timer f.timer timer then option_map (due_then f.due) row else row)

-- a row after a moment: a timer that is due then ticks, and is due again an interval later
abbrev pub ticked : ℕ → Row → Row
ticked clock row = if row.armed && nat_le row.due clock then due_then (clock + row.interval) row else row
