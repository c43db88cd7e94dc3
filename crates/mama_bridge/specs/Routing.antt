-- believed: What contracts see of a bridge: its shape, and the ports and notes of all events that it took, in order.
use Rattle.std.specs.Prelude.{ℕ, Bool, List, [], ◌∷◌, ◌++◌, if◌then◌else◌}
use Rattle.std.specs.List.{list_any}
use Rattle.mama_journal.specs.Journal.{turns}
use Rattle.mama_event.specs.declared.shape.Shape.{Shape}
use Rattle.mama_event.specs.declared.to_bridge.BridgeNote.{BridgeNote}
use Rattle.mama_event.specs.declared.to_bridge.ToBridge.{ToBridge}
use Rattle.mama_rules_services.specs.Bridge.{put_by, heard, bridge_puts_at}
use Rattle.mama_rules_services.specs.Ports.{bridge_putter}
use Rattle.mama_laws_bridge.specs.Byes.{all_left}
use Rattle.mama_bridge.specs.Outs.{brought, is_create}

pub record Routing : Type 0 where
  pub shape : Shape
  pub journal : List (ℕ × BridgeNote)

-- the routing after one entry more
abbrev pub routed : Routing → ℕ → BridgeNote → Routing
routed routing port note = record { shape = routing.shape; journal = routing.journal ++ (port, note) ∷ [] }

-- an entry is the Bye of the last queue
abbrev pub is_last_bye : Routing → ℕ → BridgeNote → Bool
is_last_bye routing port note = turns (all_left routing.shape) (heard routing.shape routing.journal) (put_by (bridge_putter routing.shape port) note)

-- the listener that goes with what an entry puts: where it puts a Create, the one that the event brought
abbrev pub carried_by : {L : Type 0} → Routing → ℕ → BridgeNote → ToBridge L → List L
carried_by routing port note event = if list_any is_create (bridge_puts_at routing.shape routing.journal (port, note)) then brought event else []
