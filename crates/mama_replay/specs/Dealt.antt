-- inner: The steps of all actors, each with the number of its pass, and these dealt to the passes.
use Rattle.std.specs.Prelude.{◌≡◌, ℕ, ◌+◌, List, [], ◌∷◌, ◌++◌, length, slice_index_or, Option, None, Some}
use Rattle.std.specs.List.{flat_map}
use Rattle.mama_journal.specs.Journal.{numbers_below}
use Rattle.mama_journal.specs.Lane.{by_port}
use Rattle.mama_event.specs.declared.publisher_entry.PublisherEntry.{PublisherEntry}
use Rattle.mama_event.specs.declared.publisher_entry.PublisherEntry.TheVariants.{Took}
use Rattle.mama_record.specs.RunData.{RunData}
use Rattle.mama_check.specs.declared.verdict.Actor.{Actor}
use Rattle.mama_check.specs.declared.verdict.Actor.TheVariants as actor
use Rattle.mama_replay.specs.declared.step.Step.{Step}
use Rattle.mama_replay.specs.Passes.{by_itself, by_port_of}

-- each list grew by what comes of these for its number
abbrev pub Dealt : List (List Step) → List (List Step) → List (ℕ × Step) → Type 0
Dealt old new more = (m : ℕ) → slice_index_or new m [] ≡ slice_index_or old m [] ++ by_port m more

-- the port by which an entry of a publisher takes
abbrev pub port_in : PublisherEntry → Option ℕ
port_in (Took note) = Some 0
port_in _ = None

-- the steps of an actor with the numbers of their passes

abbrev pub client_dealt : ℕ → List ℕ → List (ℕ × Step)
client_dealt c [] = []
client_dealt c (r ∷ rs) = (r, by_itself (actor.Client c)) ∷ client_dealt c rs

-- the step of an entry, if there is one
abbrev pub publisher_step : ℕ → ℕ → Option PublisherEntry → List (ℕ × Step)
publisher_step p r None = []
publisher_step p r (Some e) = (r, record { actor = actor.Publisher p; port = port_in e }) ∷ []

abbrev pub publisher_dealt : ℕ → List ℕ → List PublisherEntry → List (ℕ × Step)
publisher_dealt p [] es = []
publisher_dealt p (r ∷ rs) [] = []
publisher_dealt p (r ∷ rs) (e ∷ es) = (r, record { actor = actor.Publisher p; port = port_in e }) ∷ publisher_dealt p rs es

abbrev pub taker_step : Actor → ℕ → Option ℕ → List (ℕ × Step)
taker_step who r None = []
taker_step who r (Some port) = (r, by_port_of who port) ∷ []

abbrev pub taker_dealt : {N : Type 0} → Actor → List ℕ → List (ℕ × N) → List (ℕ × Step)
taker_dealt who [] es = []
taker_dealt who (r ∷ rs) [] = []
taker_dealt who (r ∷ rs) (e ∷ es) = (r, by_port_of who e.0) ∷ taker_dealt who rs es

-- those of so many clients
abbrev pub clients_dealt : List (List ℕ) → ℕ → List (ℕ × Step)
clients_dealt ranks count = flat_map (λ c. client_dealt c (slice_index_or ranks c [])) (numbers_below count)

-- those of so many publishers, and queues, whose numbers among the actors begin at a first
abbrev pub publishers_dealt : List (List ℕ) → ℕ → List (List PublisherEntry) → ℕ → List (ℕ × Step)
publishers_dealt ranks first journals count = flat_map (λ p. publisher_dealt p (slice_index_or ranks (first + p) []) (slice_index_or journals p [])) (numbers_below count)

abbrev pub queues_dealt : {N : Type 0} → List (List ℕ) → ℕ → List (List (ℕ × N)) → ℕ → List (ℕ × Step)
queues_dealt ranks first journals count = flat_map (λ q. taker_dealt (actor.Queue q) (slice_index_or ranks (first + q) []) (slice_index_or journals q [])) (numbers_below count)

-- those of all actors: clients, publishers, the bridge, the timer service, queues, each ascending
abbrev pub all_dealt : ℕ → RunData → List (List ℕ) → List (ℕ × Step)
all_dealt clients run ranks =
    clients_dealt ranks clients
    ++ publishers_dealt ranks clients run.publishers (length run.publishers)
    ++ taker_dealt actor.Bridge (slice_index_or ranks (clients + length run.publishers) []) run.bridge
    ++ taker_dealt actor.Timers (slice_index_or ranks (clients + length run.publishers + 1) []) run.timers
    ++ queues_dealt ranks (clients + length run.publishers + 2) run.queues (length run.queues)

-- the steps of so many passes, one pass after another
abbrev pub in_passes : ℕ → List (ℕ × Step) → List Step
in_passes count dealt = flat_map (λ m. by_port m dealt) (numbers_below count)
