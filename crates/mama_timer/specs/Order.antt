-- inner: The orders of timers' ids and of due moments.
use Rattle.std.specs.Prelude.{ℕ}
use Rattle.std.specs.Ordering.{nat_cmp, ordering_then}
use Rattle.std.specs.declared.cmp.Ordering.{Ordering}
use Rattle.mama_event.specs.declared.ids.TimerId.{TimerId}

-- by client, and then by number
abbrev pub timer_cmp : TimerId → TimerId → Ordering
timer_cmp a c = ordering_then (nat_cmp a.client c.client) (nat_cmp a.number c.number)

-- by due moment, and then by id
abbrev pub due_cmp : ℕ × TimerId → ℕ × TimerId → Ordering
due_cmp a c = ordering_then (nat_cmp a.0 c.0) (timer_cmp a.1 c.1)
