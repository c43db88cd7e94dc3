-- inner: When what the code keeps is what the service's journal says.
use Rattle.std.specs.Prelude.{◌≡◌, ℕ, Bool, true, false, ◌&&◌, ◌==◌, List, map, [], Option, None, Some}
use Rattle.std.specs.List.{list_any}
use Rattle.mama_journal.specs.Journal.{puts, numbers_below}
use Rattle.mama_event.specs.Ports.{clients_of, queues_of}
use Rattle.mama_event.specs.declared.ids.TimerId.{TimerId}
use Rattle.mama_event.specs.declared.shape.Shape.{Shape}
use Rattle.mama_event.specs.declared.to_queue.QueueNote.{QueueNote}
use Rattle.mama_rules_services.specs.Timers.{TimersEvent, clock, arms_timer, ends_client, ends_queue, is_fin, has_ending, is_armed, is_live, due_step, due_along, newly_armed, moment_in, disarms_timer, place_of}
use Rattle.mama_timer.specs.declared.table.Row.{Row}
use Rattle.mama_slots.specs.Slots.{SlotData, in_use}

-- a place is this slot of this queue
abbrev pub stands_at : ℕ → ℕ → Option (ℕ × ℕ) → Bool
stands_at queue slot None = false
stands_at queue slot (Some place) = place.0 == queue && place.1 == slot

-- a live timer has this slot of this queue
abbrev pub is_held : Shape → List TimersEvent → List (ℕ × QueueNote) → ℕ → ℕ → Bool
is_held shape es sofar queue slot = list_any (λ t. is_live shape t es && stands_at queue slot (place_of t sofar)) (puts newly_armed es)

-- a row is what the journal says of a timer that was armed
pub record IsRow (shape : Shape) (es : List TimersEvent) (sofar : List (ℕ × QueueNote)) (timer : TimerId) (row : Row) : Type 0 where
  pub came : list_any (arms_timer timer) es ≡ true
  pub armed : row.armed ≡ is_armed timer es
  pub place : place_of timer sofar ≡ Some (row.queue, row.slot)
  pub terms : is_live shape timer es ≡ true → due_along timer [] None es ≡ Some (row.interval, row.due)

-- each timer that was armed has a row
pub record AreRows (shape : Shape) (es : List TimersEvent) (sofar : List (ℕ × QueueNote)) (rows : TimerId → Option Row) : Type 0 where
  pub unknown : (timer : TimerId) → rows timer ≡ None → list_any (arms_timer timer) es ≡ false
  pub known : (timer : TimerId) (row : Row) → rows timer ≡ Some row → IsRow shape es sofar timer row

-- the due moment of each armed timer is written down
pub record AreListed (rows : TimerId → Option Row) (listed : ℕ × TimerId → Bool) : Type 0 where
  pub each : (timer : TimerId) (row : Row) → rows timer ≡ Some row → row.armed ≡ true → listed (row.due, timer) ≡ true

-- who said the last word
pub record AreRolls (shape : Shape) (es : List TimersEvent) (by_client : List Bool) (by_bridge : Bool) (by_queue : List Bool) : Type 0 where
  pub clients : by_client ≡ map (λ c. list_any (ends_client c) es) (numbers_below (clients_of shape))
  pub bridge : by_bridge ≡ list_any is_fin es
  pub queues : by_queue ≡ map (λ k. list_any (ends_queue k) es) (numbers_below (queues_of shape))

-- what the code keeps of the timers is what the journal says, until the ending for due moments and slots
pub record Stands (shape : Shape) (es : List TimersEvent) (sofar : List (ℕ × QueueNote)) (moment : ℕ) (row_at : TimerId → Option Row) (is_listed : ℕ × TimerId → Bool) (held : SlotData) : Type 0 where
  pub time : moment ≡ clock es
  pub rows : AreRows shape es sofar row_at
  pub listed : has_ending shape es ≡ false → AreListed row_at is_listed
  pub slots : has_ending shape es ≡ false → (queue slot : ℕ) → in_use held queue slot ≡ is_held shape es sofar queue slot

-- an entry changes no timer, given those before it
pub record IsStill (es : List TimersEvent) (e : TimersEvent) : Type 0 where
  pub news : newly_armed es e ≡ []
  pub fresh : (t : TimerId) → list_any (arms_timer t) es ≡ false → arms_timer t e ≡ false
  pub keeps : (t : TimerId) → is_armed t es ≡ true → disarms_timer t e ≡ false
  pub moment : moment_in e ≡ 0
  pub due : (at : ℕ) (terms : Option (ℕ × ℕ)) (state : ℕ × ℕ) → due_step e at terms (Some state) ≡ Some state

-- an entry that is no last word
pub record IsNoWord (e : TimersEvent) : Type 0 where
  pub client : (c : ℕ) → ends_client c e ≡ false
  pub bridge : is_fin e ≡ false
  pub queue : (k : ℕ) → ends_queue k e ≡ false
