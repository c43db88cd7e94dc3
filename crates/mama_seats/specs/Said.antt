-- inner: What a client and a publisher put in a step, as notes.
use Rattle.std.specs.Prelude.{List, [], ◌∷◌}
use Rattle.mama_event.specs.Wire.{market_of}
use Rattle.mama_event.specs.declared.to_bridge.BridgeNote.{BridgeNote}
use Rattle.mama_event.specs.declared.to_bridge.BridgeNote.TheVariants as b
use Rattle.mama_event.specs.declared.to_timers.TimersNote.TheVariants as t
use Rattle.mama_rules_queue.specs.Queue.{QueuePut, to_bridge, to_timers}
use Rattle.mama_plans.specs.Put.{note_of}
use Rattle.mama_seats.specs.declared.client_state.Said.{Said}
use Rattle.mama_seats.specs.declared.client_state.Said.TheVariants as said
use Rattle.mama_seats.specs.declared.publisher_state.Sent.{Sent}
use Rattle.mama_seats.specs.declared.publisher_state.Sent.TheVariants as sent

abbrev pub notes_in : Said → List QueuePut
notes_in said.Nothing = []
notes_in (said.Put put) = note_of put ∷ []
notes_in said.Done = to_timers t.ClientDone ∷ to_bridge b.ClientDone ∷ []

abbrev pub notes_sent : Sent → List BridgeNote
notes_sent sent.Nothing = []
notes_sent (sent.Message msg) = b.Publish (market_of msg) ∷ []
notes_sent sent.Done = b.SendsDone ∷ []
