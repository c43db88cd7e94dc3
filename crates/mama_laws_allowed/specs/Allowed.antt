-- believed: What a client, a queue and a publisher put is what their ports may put.
use Rattle.std.specs.Prelude.{◌≡◌, ℕ, ◌<◌, ◌≤◌, Bool, true, not, ◌&&◌, List, [], ◌∷◌, ◌++◌, length, map, slice_index_or}
use Rattle.std.specs.List.{All, flat_map, list_any}
use Rattle.mama_journal.specs.Lane.{by_port}
use Rattle.mama_event.specs.Lawful.{each_fits, IsLawful}
use Rattle.mama_event.specs.ToBridge as bridge
use Rattle.mama_event.specs.ToTimers as timers
use Rattle.mama_event.specs.ToQueue as queue
use Rattle.mama_event.specs.Ports.{queues_of, queue_port_of_timers}
use Rattle.mama_event.specs.Publisher.{PublisherScript, SendLine, publisher_puts}
use Rattle.mama_event.specs.declared.shape.Bounds.{Bounds}
use Rattle.mama_event.specs.declared.to_queue.QueueNote.{QueueNote}
use Rattle.mama_event.specs.declared.to_publisher.PublisherNote.TheVariants.{Settle, Fin}
use Rattle.mama_event.specs.declared.publisher_entry.PublisherEntry.{PublisherEntry}
use Rattle.mama_event.specs.declared.publisher_entry.PublisherEntry.TheVariants.{Send, Done, Took}
use Rattle.mama_rules_services.specs.Bridge.{heard, has_ending}
use Rattle.mama_script.specs.Script.{ScriptData}
use Rattle.mama_script.specs.Tree.{IsShaped}
use Rattle.mama_script.specs.Within.{IsWithin}
use Rattle.mama_record.specs.RunData.{RunData}
use Rattle.mama_rules_queue.specs.Queue.{QueuePut}
use Rattle.mama_rules_rounds.specs.Client.{client_steps, bridge_part, timers_part}
use Rattle.mama_rules_rounds.specs.Setting.{Setting}
use Rattle.mama_rules_legal.specs.Edges.{all_steps, client_puts, queue_puts, AreEdges}
use Rattle.mama_rules_legal.specs.Lines.{is_done, takes_settle, IsSentOut}

-- what a client or a queue puts: its part for each of the two lanes may be put there
pub record ArePutsLawful (bounds : Bounds) (puts : List QueuePut) : Type 0 where
  pub to_bridge : IsLawful bridge.is_last (bridge.fits bounds) (flat_map bridge_part puts)
  pub to_timers : IsLawful timers.is_last (timers.fits bounds) (flat_map timers_part puts)

-- what the client of a number puts by its lines, where these are the moments that it reads
abbrev pub own_puts : ScriptData → ℕ → List ℕ → List QueuePut
own_puts script c moments = all_steps (client_steps (queues_of script.shape) c moments (slice_index_or script.clients c []))

abbrev pub ClientPutsAreLawful : Type 0
ClientPutsAreLawful = (script : ScriptData) (c : ℕ) (moments : List ℕ) → IsShaped script → IsWithin script → ArePutsLawful script.shape.bounds (own_puts script c moments)

-- what a record has of the puts of a client is what its own lines and moments make it put
abbrev pub ClientPutsAreItsOwn : Type 0
ClientPutsAreItsOwn = (script : ScriptData) (moments : List (List ℕ)) (c : ℕ) → c < length script.clients → client_puts script moments c ≡ own_puts script c (slice_index_or moments c [])

-- what a queue took came by its two ports, and of each it is what the port may put
pub record IsTakenLawfully (journal : List (ℕ × QueueNote)) : Type 0 where
  pub ports : All (λ (e : ℕ × QueueNote). e.0 ≤ queue_port_of_timers) journal
  pub each : (port : ℕ) → IsLawful queue.is_last (queue.fits port) (by_port port journal)

abbrev pub QueuePutsAreLawful : Type 0
QueuePutsAreLawful = (setting : Setting) (bounds : Bounds) (q : ℕ) (journal : List (ℕ × QueueNote)) → IsTakenLawfully journal → ArePutsLawful bounds (queue_puts setting q journal)

-- a publisher's entry comes in time: a Settle after Done and once, and after it nothing but Fin
abbrev pub comes_in_time : List PublisherEntry → PublisherEntry → Bool
comes_in_time before (Took Settle) = list_any is_done before && not (list_any takes_settle before)
comes_in_time before (Took Fin) = true
comes_in_time before _ = not (list_any takes_settle before)

-- a publisher that stops before what does not come in time
pub record StopsInTime (journal : List PublisherEntry) : Type 0 where
  pub each : each_fits comes_in_time [] journal ≡ true

abbrev pub PublisherPutsAreLawful : Type 0
PublisherPutsAreLawful = (script : PublisherScript) (bounds : Bounds) (journal : List PublisherEntry) → StopsInTime journal → IsLawful bridge.is_last (bridge.fits bounds) (publisher_puts script journal)

-- what an entry of a publisher is of its own accord, not taken
abbrev pub own_in : PublisherEntry → List PublisherEntry
own_in Send = Send ∷ []
own_in Done = Done ∷ []
own_in (Took note) = []

abbrev pub own_by : List PublisherEntry → List PublisherEntry
own_by journal = flat_map own_in journal

-- Where every edge is whole and the ending came, a publisher that stops in time, and sent so many lines of its own accord
-- and then was done, has a journal as one has that sent all its lines.
abbrev pub StoppedPublishersSentOut : Type 0
StoppedPublishersSentOut = (script : ScriptData) (run : RunData) → IsShaped script → AreEdges script run → has_ending script.shape (heard script.shape run.bridge) ≡ true
    → (p : ℕ) → p < length script.publishers → (lines : List SendLine) → own_by (slice_index_or run.publishers p []) ≡ map (λ l. Send) lines ++ Done ∷ []
    → StopsInTime (slice_index_or run.publishers p []) → IsSentOut (length lines) (slice_index_or run.publishers p [])
