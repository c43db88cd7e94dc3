-- believed: What a turn of a queue makes of its watches, by its event and by what the turn answered.
use Rattle.std.specs.Prelude.{◌≡◌, ℕ, nat_lt, Bool, false, List, [], ◌∷◌, ◌++◌, map, Option, Some, None, if◌then◌else◌}
use Rattle.std.specs.List.{flat_map}
use Rattle.mama_event.specs.declared.ids.SubId.{SubId}
use Rattle.mama_event.specs.declared.ids.TimerId.{TimerId}
use Rattle.mama_event.specs.declared.ids.ObjectId.{ObjectId}
use Rattle.mama_event.specs.declared.order.Order.{Order}
use Rattle.mama_event.specs.declared.to_queue.QueueNote.{QueueNote}
use Rattle.mama_event.specs.declared.to_queue.QueueNote.TheVariants as q
use Rattle.mama_event.specs.declared.watch.WatchRow.{WatchRow}
use Rattle.mama_event.specs.Listener.{ListenerData}
use Rattle.mama_dispatch.specs.declared.turn.Turn.{Turn}
use Rattle.mama_dispatch.specs.declared.turn.Turn.TheVariants as turn
use Rattle.mama_dispatch.specs.Seats.{SeatData}
use Rattle.mama_dispatch.specs.Answering.{AnswersTo}
use Rattle.mama_rules_queue.specs.Queue.{QueuePut, deeds}
use Rattle.mama_rules_queue.specs.Watch.{is_missed, wishes_at}
use Rattle.mama_timeout.specs.Table.{WatchData, watch_by, ticked, tick_wishes}

-- the timer and the moment of a tick
abbrev pub tick_in : QueueNote → Option (TimerId × ℕ)
tick_in (q.Tick slot timer moment) = Some (timer, moment)
tick_in (q.Create slot object make tag) = None
tick_in (q.Deliver slot sub msg) = None
tick_in (q.Reply slot inbox body) = None
tick_in (q.Bad slot sub kind sender seq bytes) = None
tick_in (q.BadReply slot inbox bytes) = None
tick_in (q.Gone slot object) = None
tick_in q.Fin = None

-- a turn in which an object that was not muted was called back
abbrev pub has_called : {L : Type 0} → Turn L → Bool
has_called (turn.Called count) = nat_lt 0 count
has_called (turn.Muted object) = false
has_called (turn.Ended object listener) = false
has_called turn.Running = false
has_called turn.Finished = false

-- the watches behind it, where this says of each subscription whether it is missed, and what they wish for
abbrev pub watches_after : {L : Type 0} → Option (TimerId × ℕ) → Turn L → (SubId → Bool) → List WatchData → List WatchData
watches_after None answer missed watches = watches
watches_after (Some tick) answer missed watches = if has_called answer then map (ticked tick.0 tick.1 missed) watches else watches

abbrev pub wishes_after : {L : Type 0} → Option (TimerId × ℕ) → Turn L → (SubId → Bool) → List WatchData → List QueuePut
wishes_after None answer missed watches = []
wishes_after (Some tick) answer missed watches = if has_called answer then flat_map (tick_wishes tick.0 tick.1 missed) watches else []

-- whether a subscription is missed after a journal
abbrev pub missed_by : (ObjectId → ℕ → List Order) → List (ℕ × QueueNote) → SubId → Bool
missed_by orders journal s = is_missed s journal (deeds orders journal)

-- So watches note, and wish for, what their rules say of the journal.
pub record AreWatched {L : Type 0} (orders : ObjectId → ℕ → List Order) (rows : List (ℕ × WatchRow)) (before : List (ℕ × QueueNote)) (e : ℕ × QueueNote) (answer : Turn L) : Type 0 where
  pub noted : watches_after (tick_in e.1) answer (missed_by orders (before ++ e ∷ [])) (map (watch_by orders before) rows) ≡ map (watch_by orders (before ++ e ∷ [])) rows
  pub wished : wishes_after (tick_in e.1) answer (missed_by orders (before ++ e ∷ [])) (map (watch_by orders before) rows) ≡ wishes_at orders (map (λ (w : ℕ × WatchRow). w.1) rows) before e

abbrev pub TurnsAreWatched : Type 0 → Type 0
TurnsAreWatched L = (view : L → ListenerData) (orders : ObjectId → ℕ → List Order) (seats : List SeatData) (rows : List (ℕ × WatchRow)) (before : List (ℕ × QueueNote)) (e : ℕ × QueueNote) (answer : Turn L)
    → AnswersTo view orders seats before (deeds orders before) e.1 answer → AreWatched orders rows before e answer
