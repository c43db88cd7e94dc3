-- believed: The laws of what the timer service puts.
use Rattle.std.specs.Prelude.{◌≡◌, ◌≤◌, ◌<◌, ℕ, true, List, []}
use Rattle.std.specs.List.{list_any}
use Rattle.mama_journal.specs.Journal.{count_of}
use Rattle.mama_event.specs.Lawful.{each_fits, IsLawful}
use Rattle.mama_event.specs.Ports.{queues_of, queue_port_of_timers}
use Rattle.mama_event.specs.ToQueue.{is_last, fits, creates}
use Rattle.mama_event.specs.declared.ids.ObjectId.{ObjectId}
use Rattle.mama_event.specs.declared.shape.Shape.{Shape}
use Rattle.mama_event.specs.declared.to_timers.TimersNote.{TimersNote}
use Rattle.mama_rules_services.specs.Timers.{heard, has_ending}
use Rattle.mama_laws_lawful.specs.Streams.{takes_least, is_gone}
use Rattle.mama_laws_timers.specs.Streams.{queue_stream, IsTimely, ClientsAreLawful}

-- what the service puts to a queue by a journal is a list that the queue may be given by the timers' port
abbrev pub StreamIsLawful : Shape → List (ℕ × TimersNote) → ℕ → Type 0
StreamIsLawful shape journal k = IsLawful is_last (fits queue_port_of_timers) (queue_stream shape journal k)

-- it is where no timer is armed after the ending
abbrev pub TimelyStreamsAreLawful : Type 0
TimelyStreamsAreLawful = (shape : Shape) (journal : List (ℕ × TimersNote)) (k : ℕ) → IsTimely shape (heard shape journal) → StreamIsLawful shape journal k

-- where each client put what it may, no timer is armed after the ending
abbrev pub LawfulClientsAreTimely : Type 0
LawfulClientsAreTimely = (shape : Shape) (journal : List (ℕ × TimersNote)) → ClientsAreLawful shape journal → IsTimely shape (heard shape journal)

-- so the service puts what it may where each client does
abbrev pub LawfulClientsGetLawfulStreams : Type 0
LawfulClientsGetLawfulStreams = (shape : Shape) (journal : List (ℕ × TimersNote)) (k : ℕ) → ClientsAreLawful shape journal → StreamIsLawful shape journal k

-- where no timer is armed after the ending, each Create takes the least slot that is free among the timers of its queue
abbrev pub SlotsAreLeast : Type 0
SlotsAreLeast = (shape : Shape) (journal : List (ℕ × TimersNote)) (k : ℕ) → IsTimely shape (heard shape journal) → each_fits takes_least [] (queue_stream shape journal k) ≡ true

-- by every journal a queue was told Fin exactly where the ending has come
abbrev pub FinsTellTheEnding : Type 0
FinsTellTheEnding = (shape : Shape) (journal : List (ℕ × TimersNote)) (k : ℕ) → k < queues_of shape → list_any is_last (queue_stream shape journal k) ≡ has_ending shape (heard shape journal)

-- an object is created once at most in a stream to a queue, it is gone at most as often, and as often once the ending has come
pub record EndsEach (shape : Shape) (journal : List (ℕ × TimersNote)) (k : ℕ) (object : ObjectId) : Type 0 where
  pub once : count_of (creates object) (queue_stream shape journal k) ≤ 1
  pub none_more : count_of (is_gone object) (queue_stream shape journal k) ≤ count_of (creates object) (queue_stream shape journal k)
  pub ended : has_ending shape (heard shape journal) ≡ true → count_of (is_gone object) (queue_stream shape journal k) ≡ count_of (creates object) (queue_stream shape journal k)

abbrev pub EachCreateHasItsGone : Type 0
EachCreateHasItsGone = (shape : Shape) (journal : List (ℕ × TimersNote)) (k : ℕ) (object : ObjectId) → IsTimely shape (heard shape journal) → EndsEach shape journal k object
