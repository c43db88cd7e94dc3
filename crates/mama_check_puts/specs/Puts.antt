-- believed: What actors put, as one list for each actor that it goes to.
use Rattle.std.specs.Prelude.{◌≡◌, ℕ, ◌<◌, ◌==◌, List, [], ◌∷◌, length, map, slice_index_or, if◌then◌else◌}
use Rattle.std.specs.List.{flat_map}
use Rattle.mama_msg.specs.Field.{FieldData}
use Rattle.mama_event.specs.declared.shape.Shape.{Shape}
use Rattle.mama_event.specs.declared.to_timers.TimersNote.{TimersNote}
use Rattle.mama_event.specs.declared.to_queue.QueueNote.{QueueNote}
use Rattle.mama_event.specs.declared.to_bridge.BridgeNote.{BridgeNote}
use Rattle.mama_event.specs.declared.to_publisher.PublisherNote.{PublisherNote}
use Rattle.mama_event.specs.Publisher.{PublisherScript}
use Rattle.mama_check_order.specs.Numbered.{numbered, parted}
use Rattle.mama_script.specs.declared.publisher.PublisherLine.{PublisherLine}
use Rattle.mama_rules_services.specs.Bridge.{bridge_puts_at}
use Rattle.mama_rules_services.specs.Timers.{timers_puts_at}
use Rattle.mama_rules_rounds.specs.Setting.{publisher_part, queue_part, timer_part}
use Rattle.mama_rules_rounds.specs.Sections.{sends_in}
use Rattle.mama_check_puts.specs.declared.bridge.BridgePuts.{BridgePuts}

-- There are so many lists, and each is what its number says.
pub record AreLists {V : Type 0} (lists : List (List V)) (count : ℕ) (list_of : ℕ → List V) : Type 0 where
  pub as_many : length lists ≡ count
  pub each : (n : ℕ) → n < count → slice_index_or lists n [] ≡ list_of n

-- what is for one number, of something that was put for another
abbrev pub one_for : {V : Type 0} → ℕ → V → ℕ → List V
one_for number v n = if number == n then v ∷ [] else []

-- the part of what the timer service puts that goes to one queue
abbrev pub tick_part : ℕ → ℕ × QueueNote → List QueueNote
tick_part q put = one_for put.0 put.1 q

-- what the timer service put to a queue, each event with the number of the entry that put it
abbrev pub timers_put_to : Shape → List (ℕ × TimersNote) → ℕ → List (ℕ × QueueNote)
timers_put_to shape journal q = parted (tick_part q) (numbered (timers_puts_at shape) journal)

-- the same of what the bridge put to a publisher, to a queue, and to the timer service

abbrev pub bridge_put_to_publisher : Shape → List (ℕ × BridgeNote) → ℕ → List (ℕ × PublisherNote)
bridge_put_to_publisher shape journal p = parted (publisher_part p) (numbered (bridge_puts_at shape) journal)

abbrev pub bridge_put_to_queue : Shape → List (ℕ × BridgeNote) → ℕ → List (ℕ × QueueNote)
bridge_put_to_queue shape journal q = parted (queue_part q) (numbered (bridge_puts_at shape) journal)

abbrev pub bridge_put_to_timers : Shape → List (ℕ × BridgeNote) → List (ℕ × TimersNote)
bridge_put_to_timers shape journal = parted timer_part (numbered (bridge_puts_at shape) journal)

-- the lists of what the bridge put to each publisher, and to each queue

abbrev pub publishers_in : BridgePuts → List (List (ℕ × PublisherNote))
publishers_in puts = map (λ list. list.items) puts.to_publishers.items

abbrev pub queues_in : BridgePuts → List (List (ℕ × QueueNote))
queues_in puts = map (λ list. list.items) puts.to_queues.items

-- the publisher of a section, by its number
abbrev pub script_of : ℕ → List FieldData → List PublisherLine → PublisherScript
script_of number base lines = record { number = number; base = base; lines = flat_map sends_in lines }
