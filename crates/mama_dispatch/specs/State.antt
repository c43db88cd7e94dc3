-- believed: Whether an object is there for the listeners of a queue.
use Rattle.std.specs.Prelude.{Bool, if◌then◌else◌}
use Rattle.mama_dispatch.specs.declared.state.ObjectState.{ObjectState}
use Rattle.mama_dispatch.specs.declared.state.ObjectState.TheVariants.{Absent, Live, Muted}

-- by whether it is live on this queue, and whether it is muted
abbrev pub object_state : Bool → Bool → ObjectState
object_state live muted = if live then (if muted then Muted else Live) else Absent
