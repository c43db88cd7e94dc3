-- inner: The seats of a crew, kind by kind, and what they keep.
use Rattle.std.specs.Prelude.{◌≡◌, ℕ, List, [], ◌∷◌, map}
use Rattle.std.specs.List.{All, flat_map}
use Rattle.mama_journal.specs.Journal.{numbers_below}
use Rattle.mama_event.specs.declared.publisher_entry.PublisherEntry.{PublisherEntry}
use Rattle.mama_event.specs.Ports.{clients_of, publishers_of, queues_of}
use Rattle.mama_script.specs.Script.{ScriptData}
use Rattle.mama_record.specs.RunData.{RunData}
use Rattle.mama_rules_rounds.specs.Sections.{setting_of}
use Rattle.mama_rules_rounds.specs.Told.{object_calls, last_image, group_told, watch_told}
use Rattle.mama_posts_clients.specs.Client as client
use Rattle.mama_posts_services.specs.Publisher.{PublisherPostValue}
use Rattle.mama_posts_services.specs.Publisher as publisher
use Rattle.mama_posts_services.specs.Bridge.{BridgePostValue}
use Rattle.mama_posts_services.specs.Bridge as bridging
use Rattle.mama_posts_services.specs.Timers.{TimersPostValue}
use Rattle.mama_posts_services.specs.Timers as timing
use Rattle.mama_posts_services.specs.Service as service
use Rattle.mama_posts_clients.specs.Queue.{QueuePostValue}
use Rattle.mama_posts_clients.specs.Queue as queue
use Rattle.mama_gather.specs.Left.{events_by}
use Rattle.mama_crew.specs.Client.{ClientSeatValue}
use Rattle.mama_crew.specs.Hall.{HallValue, IsHallOf}
use Rattle.mama_crew.specs.Seat.{IsClientIn, IsPublisherIn, IsBridgeIn, IsTimersIn, IsQueueIn}
use Rattle.mama_crew.specs.declared.seat.Seat.{Seat}
use Rattle.mama_crew.specs.declared.seat.Seat.TheVariants.{Client, Publisher, Bridge, Timers, Queue}

-- a seat with its number, if it is a client's, a publisher's or a queue's, and the bridge's or the timer service's
abbrev pub client_in : {L : Type 0} → Seat L → List (ℕ × ClientSeatValue)
client_in (Client c seat) = (c, seat) ∷ []
client_in _ = []

abbrev pub publisher_in : {L : Type 0} → Seat L → List (ℕ × PublisherPostValue)
publisher_in (Publisher p post) = (p, post) ∷ []
publisher_in _ = []

abbrev pub bridge_in : {L : Type 0} → Seat L → List BridgePostValue
bridge_in (Bridge post) = post ∷ []
bridge_in _ = []

abbrev pub timers_in : {L : Type 0} → Seat L → List TimersPostValue
timers_in (Timers post) = post ∷ []
timers_in _ = []

abbrev pub queue_in : {L : Type 0} → Seat L → List (ℕ × QueuePostValue)
queue_in (Queue q post) = (q, post) ∷ []
queue_in _ = []

-- what a client has read, and the journal of a publisher
abbrev pub read_by : ℕ × ClientSeatValue → List ℕ
read_by s = s.1.post.walk.read

abbrev pub entries_by : ℕ × PublisherPostValue → List PublisherEntry
entries_by s = s.1.progress.journal

-- all seats of a crew, by kind, in the order of their numbers
pub record Kinds : Type 0 where
  pub clients : List (ℕ × ClientSeatValue)
  pub publishers : List (ℕ × PublisherPostValue)
  pub bridge : BridgePostValue
  pub timers : TimersPostValue
  pub queues : List (ℕ × QueuePostValue)

-- the record of these seats, where each group heard what it does by its queue's journal
abbrev pub record_of : ScriptData → Kinds → RunData
record_of script kinds = record {
  clients = map read_by kinds.clients;
  publishers = map entries_by kinds.publishers;
  bridge = kinds.bridge.service.journal;
  timers = kinds.timers.service.journal;
  queues = map events_by kinds.queues;
  calls = map (object_calls (setting_of script) (map events_by kinds.queues)) (setting_of script).objects;
  images = flat_map (last_image (setting_of script) (map events_by kinds.queues)) (setting_of script).objects;
  groups = map (group_told (setting_of script) (map events_by kinds.queues)) (setting_of script).groups;
  watches = map (watch_told (setting_of script) (map events_by kinds.queues)) (setting_of script).watches;
}

-- They are the seats of a crew of this script and hall, and all have ended.
pub record AreKindsOf (script : ScriptData) (hall : HallValue) (kinds : Kinds) : Type 0 where
  pub hall_is : IsHallOf script hall
  pub client_numbers : map (λ s. s.0) kinds.clients ≡ numbers_below (clients_of script.shape)
  pub publisher_numbers : map (λ s. s.0) kinds.publishers ≡ numbers_below (publishers_of script.shape)
  pub queue_numbers : map (λ s. s.0) kinds.queues ≡ numbers_below (queues_of script.shape)
  pub clients : All (λ s. IsClientIn script hall s.0 s.1) kinds.clients
  pub publishers : All (λ s. IsPublisherIn script hall s.0 s.1) kinds.publishers
  pub bridge : IsBridgeIn script hall kinds.bridge
  pub timers : IsTimersIn script hall kinds.timers
  pub queues : All (λ s. IsQueueIn script hall s.0 s.1) kinds.queues
  pub clients_ended : All (λ s. client.HasEnded s.1.post) kinds.clients
  pub publishers_ended : All (λ s. publisher.HasEnded s.1) kinds.publishers
  pub bridge_ended : service.HasEnded (bridging.is_over kinds.bridge.service.shape) kinds.bridge.service
  pub timers_ended : service.HasEnded (timing.is_over kinds.timers.service.shape) kinds.timers.service
  pub queues_ended : All (λ s. queue.HasEnded s.1) kinds.queues
