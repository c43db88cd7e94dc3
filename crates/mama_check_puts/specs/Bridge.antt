-- inner: What a bridge puts, dealt to the lists of the actors that it goes to.
use Rattle.std.specs.Prelude.{◌≡◌, ℕ, List, ◌++◌}
use Rattle.std.specs.List.{flat_map}
use Rattle.mama_event.specs.declared.to_publisher.PublisherNote.{PublisherNote}
use Rattle.mama_event.specs.declared.to_queue.QueueNote.{QueueNote}
use Rattle.mama_event.specs.declared.to_timers.TimersNote.{TimersNote}
use Rattle.mama_check_order.specs.Numbered.{from_entry}
use Rattle.mama_rules_services.specs.Bridge.{BridgePut}
use Rattle.mama_rules_rounds.specs.Setting.{publisher_part, queue_part, timer_part}
use Rattle.mama_check_puts.specs.declared.bridge.BridgePuts.{BridgePuts}
use Rattle.mama_check_puts.specs.Puts.{publishers_in, queues_in}
use Rattle.mama_check_puts.specs.Dealing.{Grow}

-- Each list grew by what an entry put there.
pub record GrowBy (old new : BridgePuts) (entry : ℕ) (more_publishers : ℕ → List PublisherNote) (more_queues : ℕ → List QueueNote) (more_timers : List TimersNote) : Type 0 where
  pub publishers : Grow (publishers_in old) (publishers_in new) (λ p. from_entry entry (more_publishers p))
  pub queues : Grow (queues_in old) (queues_in new) (λ q. from_entry entry (more_queues q))
  pub timers : new.to_timers.items ≡ old.to_timers.items ++ from_entry entry more_timers

abbrev pub GrowByOne : BridgePuts → BridgePuts → ℕ → BridgePut → Type 0
GrowByOne old new entry put = GrowBy old new entry (λ p. publisher_part p put) (λ q. queue_part q put) (timer_part put)

abbrev pub GrowByAll : BridgePuts → BridgePuts → ℕ → List BridgePut → Type 0
GrowByAll old new entry puts = GrowBy old new entry (λ p. flat_map (publisher_part p) puts) (λ q. flat_map (queue_part q) puts) (flat_map timer_part puts)
