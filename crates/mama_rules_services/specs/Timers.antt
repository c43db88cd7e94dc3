-- believed: the timer service's rules, as functions of its journal, in milliseconds: clock, live timers, and what each entry puts.
use Rattle.std.specs.Prelude.{ℕ, ◌+◌, ◌-◌, ◌^◌, Bool, true, false, ◌&&◌, ◌||◌, ◌==◌, nat_lt, nat_le, min, max, List, [], ◌∷◌, ◌++◌, map, filter, Option, None, Some, is_some, if◌then◌else◌}
use Rattle.std.specs.List.{list_any, flat_map}
use Rattle.mama_journal.specs.Journal.{puts, all_puts, turns, first_said, all_below, numbers_below}
use Rattle.mama_event.specs.declared.ids.TimerId.{TimerId}
use Rattle.mama_event.specs.declared.ids.ObjectId.{ObjectId}
use Rattle.mama_event.specs.declared.ids.ObjectId.TheVariants.{Timer}
use Rattle.mama_event.specs.declared.shape.Shape.{Shape}
use Rattle.mama_event.specs.declared.to_queue.Make.TheVariants as make
use Rattle.mama_event.specs.declared.to_timers.TimersNote.{TimersNote}
use Rattle.mama_event.specs.declared.to_timers.TimersNote.TheVariants as t
use Rattle.mama_event.specs.declared.to_queue.QueueNote.{QueueNote}
use Rattle.mama_event.specs.declared.to_queue.QueueNote.TheVariants as q
use Rattle.mama_event.specs.Ports.{clients_of, queues_of}
use Rattle.mama_event.specs.Object.{same_timer}
pub use Rattle.mama_rules_services.specs.Life.{lives, is_alive, newly, all_alive}
pub use Rattle.mama_rules_services.specs.Place.{created_by, at_place, slot_on, least_slot}
use Rattle.mama_rules_services.specs.Ports.{Putter, ByClient, ByQueue, ByBridge, timers_putter}

-- One entry of the service's journal by its meaning. An event that its kind of port never puts is no event.
pub data TimersEvent : Type 0 where
  arms : TimerId → ℕ → ℕ → ObjectId → TimersEvent
  disarms : TimerId → TimersEvent
  now : ℕ → TimersEvent
  client_done : ℕ → TimersEvent
  bye : ℕ → TimersEvent
  fin : TimersEvent
  no_event : TimersEvent

-- what a client puts; it arms only timers of its own
abbrev pub from_client : ℕ → TimersNote → TimersEvent
from_client c (t.Arm timer queue interval tag) = if timer.client == c then arms timer queue interval tag else no_event
from_client c (t.Disarm timer) = disarms timer
from_client c (t.Now moment) = now moment
from_client c t.ClientDone = client_done c
from_client c _ = no_event

-- what a queue puts
abbrev pub from_queue : ℕ → TimersNote → TimersEvent
from_queue k (t.Disarm timer) = disarms timer
from_queue k t.Bye = bye k
from_queue k _ = no_event

-- what the bridge puts
abbrev pub from_bridge : TimersNote → TimersEvent
from_bridge t.Fin = fin
from_bridge _ = no_event

abbrev pub put_by : Putter → TimersNote → TimersEvent
put_by (ByClient c) note = from_client c note
put_by (ByQueue k) note = from_queue k note
put_by ByBridge note = from_bridge note
put_by _ note = no_event

-- the service's journal by its meaning
abbrev pub heard : Shape → List (ℕ × TimersNote) → List TimersEvent
heard shape journal = map (λ e. put_by (timers_putter shape e.0) e.1) journal

-- the latest moment that the clock tells
abbrev pub last_moment : ℕ
last_moment = 2 ^ 63 - 1

-- the moment that an entry tells
abbrev pub moment_in : TimersEvent → ℕ
moment_in (now moment) = min moment last_moment
moment_in _ = 0

-- the service's clock: the greatest moment that a client told, at first 0
abbrev pub clock : List TimersEvent → ℕ
clock [] = 0
clock (e ∷ es) = max (moment_in e) (clock es)

-- the queue and the interval with which an entry arms a timer
abbrev pub terms_in : TimerId → TimersEvent → Option (ℕ × ℕ)
terms_in timer (arms r queue interval tag) = if same_timer r timer then Some (queue, interval) else None
terms_in timer _ = None

abbrev pub arms_timer : TimerId → TimersEvent → Bool
arms_timer timer e = is_some (terms_in timer e)

abbrev pub disarms_timer : TimerId → TimersEvent → Bool
disarms_timer timer (disarms r) = same_timer r timer
disarms_timer timer _ = false

abbrev pub ends_client : ℕ → TimersEvent → Bool
ends_client c (client_done d) = d == c
ends_client c _ = false

abbrev pub ends_queue : ℕ → TimersEvent → Bool
ends_queue k (bye r) = r == k
ends_queue k _ = false

abbrev pub is_fin : TimersEvent → Bool
is_fin fin = true
is_fin _ = false

-- the ending has come: every client is done, and the bridge has said Fin
abbrev pub has_ending : Shape → List TimersEvent → Bool
has_ending shape es = all_below (clients_of shape) (λ c. list_any (ends_client c) es) && list_any is_fin es

-- the first Arm has come, and no Disarm after it
abbrev pub is_armed : TimerId → List TimersEvent → Bool
is_armed timer es = lives (arms_timer timer) (disarms_timer timer) es

-- a timer is live from its first Arm to its first later Disarm or the ending
abbrev pub is_live : Shape → TimerId → List TimersEvent → Bool
is_live shape timer es = is_alive (arms_timer timer) (disarms_timer timer) (has_ending shape) es

-- the interval and the due moment of a timer after one more entry, given the clock after it. An Arm makes it due an
-- interval after the clock. A Now at which it is due makes it fire, and due again an interval after the clock.
abbrev pub due_step : TimersEvent → ℕ → Option (ℕ × ℕ) → Option (ℕ × ℕ) → Option (ℕ × ℕ)
due_step e clock (Some terms) None = Some (terms.1, clock + terms.1)
due_step e clock None None = None
due_step (now moment) clock terms (Some state) = if nat_le state.1 clock then Some (state.0, clock + state.0) else Some state
due_step _ clock terms (Some state) = Some state

-- its interval and due moment while more entries come
abbrev pub due_along : TimerId → List TimersEvent → Option (ℕ × ℕ) → List TimersEvent → Option (ℕ × ℕ)
due_along timer before state [] = state
due_along timer before state (e ∷ es) =
    due_along timer (before ++ e ∷ []) (due_step e (clock (before ++ e ∷ [])) (terms_in timer e) state) es

abbrev pub due_moment : Option (ℕ × ℕ) → ℕ
due_moment None = 0
due_moment (Some state) = state.1

-- the due moment of a timer that was armed
abbrev pub due : TimerId → List TimersEvent → ℕ
due timer es = due_moment (due_along timer [] None es)

-- the timer that an entry arms, if it is the first Arm of its id
abbrev pub newly_armed : List TimersEvent → TimersEvent → List TimerId
newly_armed before (arms timer queue interval tag) = newly arms_timer before timer
newly_armed before _ = []

-- order of ids: by client, and then by number
abbrev pub comes_first : TimerId → TimerId → Bool
comes_first a c = nat_lt a.client c.client || (a.client == c.client && nat_lt a.number c.number)

-- a list with one element put before the first that it comes before
abbrev pub put_in : {A : Type 0} → (A → A → Bool) → A → List A → List A
put_in first a [] = a ∷ []
put_in first a (c ∷ cs) = if first a c then a ∷ c ∷ cs else c ∷ put_in first a cs

abbrev pub in_order : {A : Type 0} → (A → A → Bool) → List A → List A
in_order first [] = []
in_order first (a ∷ rest) = put_in first a (in_order first rest)

-- the live timers in order of their ids
abbrev pub live_timers : Shape → List TimersEvent → List TimerId
live_timers shape es = in_order comes_first (all_alive (is_live shape) newly_armed es)

-- order of firing: by due moment, and then by id
abbrev pub fires_first : List TimersEvent → TimerId → TimerId → Bool
fires_first es a c = nat_lt (due a es) (due c es) || (due a es == due c es && comes_first a c)

-- the timers that fire at an entry that leaves the clock at this moment, in order of firing
abbrev pub firing : Shape → List TimersEvent → ℕ → List TimerId
firing shape before clock = in_order (fires_first before) (filter (λ timer. nat_le (due timer before) clock) (live_timers shape before))

-- WHAT THE SERVICE PUTS: events to queues, each with its queue's number

abbrev pub created_in : TimerId → ℕ × QueueNote → Option (ℕ × ℕ)
created_in timer put = created_by (Timer timer) put.0 put.1

-- where a timer stands: its queue and its slot
abbrev pub place_of : TimerId → List (ℕ × QueueNote) → Option (ℕ × ℕ)
place_of timer sofar = first_said (created_in timer) sofar

abbrev pub to_place : Option (ℕ × ℕ) → (ℕ → QueueNote) → List (ℕ × QueueNote)
to_place place event = at_place (λ queue note. (queue, note)) place event

-- the least of a queue's timer slots that no live timer has
abbrev pub free_slot : Shape → List TimersEvent → List (ℕ × QueueNote) → ℕ → ℕ
free_slot shape before sofar queue = least_slot (λ timer. place_of timer sofar) (live_timers shape before) queue

abbrev pub gone : List (ℕ × QueueNote) → TimerId → List (ℕ × QueueNote)
gone sofar timer = to_place (place_of timer sofar) (λ slot. q.Gone slot (Timer timer))

-- the reaction to one event, but for the ending
abbrev pub answer : Shape → List TimersEvent → List (ℕ × QueueNote) → TimersEvent → List (ℕ × QueueNote)
answer shape before sofar (arms timer queue interval tag) =
    if list_any (arms_timer timer) before then []
    else (queue, q.Create (free_slot shape before sofar queue) (Timer timer) make.Timer tag) ∷ []
answer shape before sofar (disarms timer) = if is_live shape timer before then gone sofar timer else []
answer shape before sofar (now moment) =
    let clock = clock (before ++ now moment ∷ []) in
    flat_map (λ timer. to_place (place_of timer sofar) (λ slot. q.Tick slot timer clock)) (firing shape before clock)
answer shape before sofar _ = []

-- the entry at which the ending comes ends every live timer, and then says Fin to every queue
abbrev pub ending_comes : Shape → List TimersEvent → List (ℕ × QueueNote) → TimersEvent → List (ℕ × QueueNote)
ending_comes shape before sofar e =
    if turns (has_ending shape) before e then
    flat_map (gone sofar) (live_timers shape before) ++ map (λ k. (k, q.Fin)) (numbers_below (queues_of shape))
    else []

-- what the service puts at an event, given the events before it and what they put
abbrev pub timers_reaction : Shape → List TimersEvent → List (ℕ × QueueNote) → TimersEvent → List (ℕ × QueueNote)
timers_reaction shape before sofar e = answer shape before sofar e ++ ending_comes shape before sofar e

-- all that the service puts by a journal
abbrev pub timers_puts : Shape → List (ℕ × TimersNote) → List (ℕ × QueueNote)
timers_puts shape journal = all_puts (timers_reaction shape) (heard shape journal)

-- what the service puts at an entry, given its journal before it
abbrev pub timers_puts_at : Shape → List (ℕ × TimersNote) → ℕ × TimersNote → List (ℕ × QueueNote)
timers_puts_at shape before e =
    timers_reaction shape (heard shape before) (timers_puts shape before) (put_by (timers_putter shape e.0) e.1)
