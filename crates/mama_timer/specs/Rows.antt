-- inner: The timers that were armed, as the code keeps them.
use Rattle.std.specs.Prelude.{ℕ, Bool, false, List, Option}
use Rattle.std.specs.List.{list_any}
use Rattle.std.specs.Map.{lookup}
use Rattle.std.specs.BTreeMap.{is_at}
use Rattle.mama_event.specs.declared.ids.TimerId.{TimerId}
use Rattle.mama_timer.specs.declared.table.Row.{Row}
use Rattle.mama_timer.specs.Order.{timer_cmp, due_cmp}

-- what is kept of a timer
abbrev pub row_of : List (TimerId × Row) → TimerId → Option Row
row_of rows timer = lookup (is_at (timer_cmp timer)) rows

-- a due moment of a timer is written down
abbrev pub is_listed : List (ℕ × TimerId) → ℕ × TimerId → Bool
is_listed dues key = list_any (is_at (due_cmp key)) dues

-- a row of a timer that is armed no more
abbrev pub laid_down : Row → Row
laid_down row = record { queue = row.queue; slot = row.slot; interval = row.interval; due = row.due; armed = false }
