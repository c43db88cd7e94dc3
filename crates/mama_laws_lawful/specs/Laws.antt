-- believed: The laws of what the bridge puts.
use Rattle.std.specs.Prelude.{◌≡◌, ◌≤◌, ◌<◌, ℕ, true, false, List, []}
use Rattle.std.specs.List.{list_any}
use Rattle.mama_journal.specs.Journal.{count_of}
use Rattle.mama_event.specs.Lawful.{each_fits, IsLawful}
use Rattle.mama_event.specs.Ports.{queues_of, publishers_of, queue_port_of_bridge}
use Rattle.mama_event.specs.ToQueue as queue
use Rattle.mama_event.specs.ToPublisher as publisher
use Rattle.mama_event.specs.ToTimers as timers
use Rattle.mama_event.specs.declared.ids.ObjectId.{ObjectId}
use Rattle.mama_event.specs.declared.shape.Shape.{Shape}
use Rattle.mama_event.specs.declared.to_bridge.BridgeNote.{BridgeNote}
use Rattle.mama_rules_services.specs.Bridge.{heard, has_ending}
use Rattle.mama_laws_lawful.specs.Streams.{queue_stream, publisher_stream, timers_stream, IsTimely, ClientsAreLawful, takes_least, is_gone}

-- what the bridge puts by a journal: to each queue, to each publisher and to the timers a list that they may be given
pub record StreamsAreLawful (shape : Shape) (journal : List (ℕ × BridgeNote)) : Type 0 where
  pub to_queues : (k : ℕ) → IsLawful queue.is_last (queue.fits queue_port_of_bridge) (queue_stream shape journal k)
  pub to_publishers : (r : ℕ) → IsLawful publisher.is_last publisher.fits (publisher_stream shape journal r)
  pub to_timers : IsLawful timers.is_last (timers.fits shape.bounds) (timers_stream shape journal)

-- it does so where nothing is joined or opened after the ending
abbrev pub TimelyStreamsAreLawful : Type 0
TimelyStreamsAreLawful = (shape : Shape) (journal : List (ℕ × BridgeNote)) → IsTimely shape (heard shape journal) → StreamsAreLawful shape journal

-- where each client put what it may, nothing is joined or opened after the ending
abbrev pub LawfulClientsAreTimely : Type 0
LawfulClientsAreTimely = (shape : Shape) (journal : List (ℕ × BridgeNote)) → ClientsAreLawful shape journal → IsTimely shape (heard shape journal)

-- so the bridge puts what it may where each client does
abbrev pub LawfulClientsGetLawfulStreams : Type 0
LawfulClientsGetLawfulStreams = (shape : Shape) (journal : List (ℕ × BridgeNote)) → ClientsAreLawful shape journal → StreamsAreLawful shape journal

-- to the timers it puts what it may by every journal
abbrev pub TimersGetALawfulStream : Type 0
TimersGetALawfulStream = (shape : Shape) (journal : List (ℕ × BridgeNote)) → IsLawful timers.is_last (timers.fits shape.bounds) (timers_stream shape journal)

-- where nothing is joined or opened after the ending, each Create takes the least slot that is free on its queue
abbrev pub SlotsAreLeast : Type 0
SlotsAreLeast = (shape : Shape) (journal : List (ℕ × BridgeNote)) (k : ℕ) → IsTimely shape (heard shape journal) → each_fits takes_least [] (queue_stream shape journal k) ≡ true

-- a queue, a publisher and the timers were told Fin exactly where the ending has come
pub record FinsTell (shape : Shape) (journal : List (ℕ × BridgeNote)) : Type 0 where
  pub to_queues : (k : ℕ) → k < queues_of shape → list_any queue.is_last (queue_stream shape journal k) ≡ has_ending shape (heard shape journal)
  pub to_publishers : (r : ℕ) → r < publishers_of shape → list_any publisher.is_last (publisher_stream shape journal r) ≡ has_ending shape (heard shape journal)
  pub to_timers : list_any timers.is_last (timers_stream shape journal) ≡ has_ending shape (heard shape journal)

-- so it is by every journal, where the ending is still to come at the start: somebody is there who must say its last
abbrev pub FinsTellTheEnding : Type 0
FinsTellTheEnding = (shape : Shape) (journal : List (ℕ × BridgeNote)) → has_ending shape [] ≡ false → FinsTell shape journal

-- an object is created once at most in a stream to a queue, and it is gone as often once the ending has come
pub record EndsEach (shape : Shape) (journal : List (ℕ × BridgeNote)) (k : ℕ) (object : ObjectId) : Type 0 where
  pub once : count_of (queue.creates object) (queue_stream shape journal k) ≤ 1
  pub none_more : count_of (is_gone object) (queue_stream shape journal k) ≤ count_of (queue.creates object) (queue_stream shape journal k)
  pub ended : has_ending shape (heard shape journal) ≡ true → count_of (is_gone object) (queue_stream shape journal k) ≡ count_of (queue.creates object) (queue_stream shape journal k)

abbrev pub EachCreateHasItsGone : Type 0
EachCreateHasItsGone = (shape : Shape) (journal : List (ℕ × BridgeNote)) (k : ℕ) (object : ObjectId) → IsTimely shape (heard shape journal) → EndsEach shape journal k object
