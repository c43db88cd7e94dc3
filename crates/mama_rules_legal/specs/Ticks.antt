-- believed: what goes to the queue of one timer.
use Rattle.std.specs.Prelude.{◌≡◌, ℕ, ◌<◌, nat_le, List, [], ◌∷◌, ◌++◌, filter, slice_index_or, Option, None, Some, if◌then◌else◌}
use Rattle.mama_journal.specs.Journal.{first_said}
use Rattle.mama_event.specs.declared.ids.TimerId.{TimerId}
use Rattle.mama_event.specs.declared.ids.ObjectId.TheVariants.{Timer}
use Rattle.mama_event.specs.declared.shape.Shape.{Shape}
use Rattle.mama_event.specs.declared.to_timers.TimersNote.{TimersNote}
use Rattle.mama_event.specs.declared.to_timers.TimersNote.TheVariants as t
use Rattle.mama_event.specs.declared.to_queue.Make.TheVariants as make
use Rattle.mama_event.specs.declared.to_queue.QueueNote.{QueueNote}
use Rattle.mama_event.specs.declared.to_queue.QueueNote.TheVariants as q
use Rattle.mama_event.specs.Ports.{clients_of}
use Rattle.mama_event.specs.Object.{same_timer}
use Rattle.mama_rules_services.specs.Life.{window_of}
use Rattle.mama_rules_services.specs.Timers.{TimersEvent, now, clock, due, heard, is_live}
use Rattle.mama_rules_queue.specs.Queue.{QueuePut}
use Rattle.mama_rules_queue.specs.Queue as queue
use Rattle.mama_script.specs.Script.{ScriptData}
use Rattle.mama_record.specs.RunData.{RunData}
use Rattle.mama_rules_legal.specs.Edges.{client_puts}
use Rattle.mama_rules_legal.specs.Streams.{is_of, IsStream, IsJournal}

-- A timer fires at a moment told, if the clock then is not below its due moment; it tells the clock.
abbrev pub fires : TimerId → List TimersEvent → TimersEvent → List ℕ
fires timer before (now moment) =
    if nat_le (due timer before) (clock (before ++ now moment ∷ [])) then clock (before ++ now moment ∷ []) ∷ [] else []
fires timer before _ = []

-- its ticks: at what moments it fired while it was live, in order
abbrev pub ticks : Shape → TimerId → List TimersEvent → List ℕ
ticks shape timer es = window_of (is_live shape timer) (fires timer) es

-- what of the service's puts is for a timer, with the number of its queue
abbrev pub timer_stream : TimerId → List (ℕ × QueueNote) → List (ℕ × QueueNote)
timer_stream timer outs = filter (λ x. is_of (Timer timer) x.1) outs

-- The stream of a timer on its queue, in one slot: its Create, its ticks, and its Gone.
abbrev pub IsTimerStream : TimerId → ℕ → List ℕ → List (ℕ × QueueNote) → Type 0
IsTimerStream timer queue moments stream = IsStream (Timer timer) queue make.Timer (λ slot m. q.Tick slot timer m) moments stream

-- with which queue and interval a put arms a timer
abbrev pub arming_noted : TimerId → TimersNote → Option (ℕ × ℕ)
arming_noted timer (t.Arm r queue interval tag) = if same_timer r timer then Some (queue, interval) else None
arming_noted timer _ = None

abbrev pub arming_put : TimerId → QueuePut → Option (ℕ × ℕ)
arming_put timer (queue.to_bridge note) = None
arming_put timer (queue.to_timers note) = arming_noted timer note

-- the queue and the interval with which the lines of its client arm a timer
abbrev pub arming_of : ScriptData → RunData → TimerId → Option (ℕ × ℕ)
arming_of script run timer = first_said (arming_put timer) (client_puts script run.clients timer.client)

-- A queue's journal has of a timer its Create, its ticks, and its Gone.
abbrev pub IsTimerJournal : TimerId → List ℕ → List (ℕ × QueueNote) → Type 0
IsTimerJournal timer moments journal = IsJournal (Timer timer) make.Timer (λ slot m. q.Tick slot timer m) moments journal

-- So it is with each timer that the script arms, in the journal of its queue.
pub record AreTimerStreams (script : ScriptData) (run : RunData) : Type 0 where
  pub each : (timer : TimerId) (terms : ℕ × ℕ) → timer.client < clients_of script.shape → arming_of script run timer ≡ Some terms
      → IsTimerJournal timer (ticks script.shape timer (heard script.shape run.timers)) (slice_index_or run.queues terms.0 [])
