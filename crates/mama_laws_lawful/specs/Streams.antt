-- believed: What the bridge puts on each lane, and when what it heard lets it put only what it may.
use Rattle.std.specs.Prelude.{◌≡◌, ◌<◌, ℕ, Bool, true, false, ◌==◌, List, [], ◌∷◌, ◌++◌, map, if◌then◌else◌}
use Rattle.std.specs.List.{flat_map}
use Rattle.mama_journal.specs.Journal.{least_free}
use Rattle.mama_journal.specs.Lane.{by_port}
use Rattle.mama_event.specs.Lawful.{IsLawful}
use Rattle.mama_event.specs.Object.{same_object}
use Rattle.mama_event.specs.Ports.{clients_of, bridge_port_of_client}
use Rattle.mama_event.specs.ToBridge as bridge
use Rattle.mama_event.specs.ToQueue.{Block, open_blocks}
use Rattle.mama_event.specs.declared.ids.ObjectId.{ObjectId}
use Rattle.mama_event.specs.declared.shape.Shape.{Shape}
use Rattle.mama_event.specs.declared.to_bridge.BridgeNote.{BridgeNote}
use Rattle.mama_event.specs.declared.to_publisher.PublisherNote.{PublisherNote}
use Rattle.mama_event.specs.declared.to_timers.TimersNote.{TimersNote}
use Rattle.mama_event.specs.declared.to_queue.QueueNote.{QueueNote}
use Rattle.mama_event.specs.declared.to_queue.QueueNote.TheVariants as q
use Rattle.mama_rules_services.specs.Bridge.{BridgeEvent, joins, opens, BridgePut, to_publisher, to_queue, to_timers, has_ending, bridge_puts}

-- what of a put goes to one queue, to one publisher, and to the timers
abbrev pub queue_part : ℕ → BridgePut → List QueueNote
queue_part queue (to_publisher r note) = []
queue_part queue (to_queue k note) = if k == queue then note ∷ [] else []
queue_part queue (to_timers note) = []

abbrev pub publisher_part : ℕ → BridgePut → List PublisherNote
publisher_part publisher (to_publisher r note) = if r == publisher then note ∷ [] else []
publisher_part publisher (to_queue k note) = []
publisher_part publisher (to_timers note) = []

abbrev pub timers_part : BridgePut → List TimersNote
timers_part (to_publisher r note) = []
timers_part (to_queue k note) = []
timers_part (to_timers note) = note ∷ []

-- the stream to a queue, to a publisher, and to the timers
abbrev pub queue_stream : Shape → List (ℕ × BridgeNote) → ℕ → List QueueNote
queue_stream shape journal queue = flat_map (queue_part queue) (bridge_puts shape journal)

abbrev pub publisher_stream : Shape → List (ℕ × BridgeNote) → ℕ → List PublisherNote
publisher_stream shape journal publisher = flat_map (publisher_part publisher) (bridge_puts shape journal)

abbrev pub timers_stream : Shape → List (ℕ × BridgeNote) → List TimersNote
timers_stream shape journal = flat_map timers_part (bridge_puts shape journal)

-- an event that joins a subscription or opens an inbox
abbrev pub is_beginning : BridgeEvent → Bool
is_beginning (joins sub terms tag) = true
is_beginning (opens inbox terms tag) = true
is_beginning _ = false

-- nothing is joined or opened after the ending, as clients put nothing after their last word
pub record IsTimely (shape : Shape) (es : List BridgeEvent) : Type 0 where
  pub each : (before : List BridgeEvent) (e : BridgeEvent) (after : List BridgeEvent) → es ≡ before ++ e ∷ after → has_ending shape before ≡ true → is_beginning e ≡ false

-- each client put what it may put
pub record ClientsAreLawful (shape : Shape) (journal : List (ℕ × BridgeNote)) : Type 0 where
  pub each : (client : ℕ) → client < clients_of shape → IsLawful bridge.is_last (bridge.fits shape.bounds) (by_port (bridge_port_of_client shape client) journal)

-- a Create takes the least slot that no unfinished block has
abbrev pub takes_least : List QueueNote → QueueNote → Bool
takes_least before (q.Create slot object make tag) = slot == least_free (map (λ (b : Block). b.slot) (open_blocks before))
takes_least before _ = true

-- a Gone of an object
abbrev pub is_gone : ObjectId → QueueNote → Bool
is_gone object (q.Gone slot gone) = same_object gone object
is_gone object _ = false
