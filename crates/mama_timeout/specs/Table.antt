-- believed: The watches of a queue as contracts see them, and what a tick that counts makes of one.
use Rattle.std.specs.Prelude.{◌≡◌, ℕ, suc, ◌==◌, Bool, true, false, List, [], ◌∷◌, ◌++◌, length, Option, None, Some, if◌then◌else◌}
use Rattle.std.specs.List.{AllByRecursion, flat_map}
use Rattle.mama_event.specs.declared.ids.TimerId.{TimerId}
use Rattle.mama_event.specs.declared.ids.SubId.{SubId}
use Rattle.mama_event.specs.declared.watch.WatchRow.{WatchRow}
use Rattle.mama_event.specs.declared.watch.WatchNote.{WatchNote}
use Rattle.mama_event.specs.Object.{same_sub, same_timer}
use Rattle.mama_event.specs.declared.to_bridge.BridgeNote.TheVariants as b
use Rattle.mama_event.specs.declared.to_bridge.ToBridge.{ToBridge}
use Rattle.mama_event.specs.ToBridge.{note_of}
use Rattle.mama_event.specs.declared.ids.ObjectId.{ObjectId}
use Rattle.mama_event.specs.declared.order.Order.{Order}
use Rattle.mama_event.specs.declared.to_queue.QueueNote.{QueueNote}
use Rattle.mama_rules_queue.specs.Queue.{Deed, QueuePut, to_bridge}
use Rattle.mama_rules_queue.specs.Watch as rules
use Rattle.mama_rules_queue.specs.Watch.{watch_note, watch_notes, wish_in}

-- a watch: its number, its row, and what it noted
pub record WatchData : Type 0 where
  pub number : ℕ
  pub row : WatchRow
  pub notes : List WatchNote

-- a watch that noted nothing yet
abbrev pub new_watch : ℕ × WatchRow → WatchData
new_watch w = record { number = w.0; row = w.1; notes = [] }

-- the notes of a tick at a moment, behind those that were noted: the next retry, or once a timeout
abbrev pub next_notes : WatchData → ℕ → List WatchNote
next_notes w moment = watch_note w.row.retries (suc (length w.notes)) moment

-- a watch after a tick of a timer at a moment, where missed says of each subscription whether it is missed
abbrev pub ticked : TimerId → ℕ → (SubId → Bool) → WatchData → WatchData
ticked t moment missed w =
    if same_timer w.row.timer t then (if missed w.row.sub then record w { notes = w.notes ++ next_notes w moment } else w) else w

-- what the watch wishes for then
abbrev pub tick_wishes : TimerId → ℕ → (SubId → Bool) → WatchData → List QueuePut
tick_wishes t moment missed w =
    if same_timer w.row.timer t then (if missed w.row.sub then flat_map (wish_in w.row) (next_notes w moment) else []) else []

-- the same where every subscription is missed
abbrev pub counted_at : TimerId → ℕ → WatchData → WatchData
counted_at t moment w = ticked t moment (λ s. true) w

abbrev pub count_wishes : TimerId → ℕ → WatchData → List QueuePut
count_wishes t moment w = tick_wishes t moment (λ s. true) w

-- a watch by the journal of its queue
abbrev pub watch_by : (ObjectId → ℕ → List Order) → List (ℕ × QueueNote) → ℕ × WatchRow → WatchData
watch_by orders journal w = record { number = w.0; row = w.1; notes = watch_notes orders w.1 journal }

-- what an entry did is a tick of this timer at this moment that was called back, or no tick of any
abbrev pub IsTick : TimerId → ℕ → List Deed → Type 0
IsTick t moment ds = (u : TimerId) → flat_map (rules.ticked u) ds ≡ (if same_timer t u then moment ∷ [] else [])

abbrev pub IsNoTick : List Deed → Type 0
IsNoTick ds = (u : TimerId) → flat_map (rules.ticked u) ds ≡ []

-- the watches of a queue, and whether there is room for a note more of each
pub record TableData : Type 0 where
  pub watches : List WatchData
  pub ready : Bool

-- the subscription of the watch of a timer, if there is one
abbrev pub first_sub : TimerId → List WatchData → Option SubId
first_sub t [] = None
first_sub t (w ∷ ws) = if same_timer w.row.timer t then Some w.row.sub else first_sub t ws

-- a note, if there is one
abbrev pub note_list : Option WatchNote → List WatchNote
note_list None = []
note_list (Some note) = note ∷ []

-- a wish, as a queue puts it: the subscription and the sender, or the event, where a listener has this tag
abbrev pub wish_puts : Option (SubId × ℕ) → List QueuePut
wish_puts None = []
wish_puts (Some w) = to_bridge (b.RecapWish w.0 w.1) ∷ []

abbrev pub event_puts : {M : Type 0} → (M → ObjectId) → Option (ToBridge M) → List QueuePut
event_puts tagged None = []
event_puts tagged (Some event) = to_bridge (note_of tagged event) ∷ []

-- no number, no subscription and no timer stands twice
abbrev pub AreApart : List (ℕ × WatchRow) → Type 0
AreApart [] = Unit {0}
AreApart (w ∷ ws) =
    AllByRecursion (λ (v : ℕ × WatchRow). ((v.0 == w.0) ≡ false) × (same_sub v.1.sub w.1.sub ≡ false) × (same_timer v.1.timer w.1.timer ≡ false)) ws × AreApart ws

-- what comes out of a table
abbrev pub part_of : WatchData → ℕ × List WatchNote
part_of w = (w.number, w.notes)
