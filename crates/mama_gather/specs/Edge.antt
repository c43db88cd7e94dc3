-- inner: What the closing of a lane tells of one of its ports.
use Rattle.std.specs.Prelude.{Bool}
use Rattle.mama_journal.specs.Lane.{by_port, IsEdge}
use Rattle.mama_lane.specs.Values.{PortValue, TakerValue}

-- What was taken from a port begins what the port put, and is all of it where its last event was taken.
abbrev pub IsEdgeOf : {N : Type 0} → (N → Bool) → TakerValue N → PortValue N → Type 0
IsEdgeOf is_last taker port = IsEdge is_last (by_port port.number taker.taken) port.put
