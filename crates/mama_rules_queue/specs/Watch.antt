-- believed: The rules of watches: a subscription without an image is asked for again at the ticks of a timer, so many times, and then
-- a timeout is told; as functions of the journal of their queue. A wish that a watch puts goes behind what the queue puts by serving.
use Rattle.std.specs.Prelude.{ℕ, suc, Bool, true, false, not, ◌&&◌, ◌==◌, nat_lt, nat_le, List, [], ◌∷◌, ◌++◌, length, if◌then◌else◌}
use Rattle.std.specs.List.{flat_map}
use Rattle.mama_journal.specs.Journal.{puts, first_said}
use Rattle.mama_event.specs.declared.ids.SubId.{SubId}
use Rattle.mama_event.specs.declared.ids.TimerId.{TimerId}
use Rattle.mama_event.specs.declared.ids.ObjectId.{ObjectId}
use Rattle.mama_event.specs.declared.ids.ObjectId.TheVariants.{Sub, Timer}
use Rattle.mama_event.specs.declared.callback.Callback.TheVariants as on
use Rattle.mama_event.specs.declared.order.Order.{Order}
use Rattle.mama_event.specs.declared.to_queue.QueueNote.{QueueNote}
use Rattle.mama_event.specs.declared.to_bridge.BridgeNote.TheVariants as b
use Rattle.mama_event.specs.declared.watch.WatchRow.{WatchRow}
use Rattle.mama_event.specs.declared.watch.WatchNote.{WatchNote}
use Rattle.mama_event.specs.declared.watch.WatchNote.TheVariants.{Retry, Timeout}
use Rattle.mama_event.specs.Object.{same_timer}
use Rattle.mama_dq.specs.Context.{ContextData}
use Rattle.mama_dq.specs.declared.table.Phase.{Phase}
use Rattle.mama_dq.specs.declared.table.Phase.TheVariants.{Await}
use Rattle.mama_rules_queue.specs.Queue.{Deed, called, QueuePut, to_bridge, is_live, is_muted, make_in, context_of, messages_of, deeds, deeds_at, queue_puts_at}

-- there is no image yet
abbrev pub is_waiting : Phase → Bool
is_waiting Await = true
is_waiting _ = false

abbrev pub lacks_image : ContextData → Bool
lacks_image context = is_waiting context.phase

-- a subscription is live, is not muted, and has no image
abbrev pub is_missed : SubId → List (ℕ × QueueNote) → List Deed → Bool
is_missed s journal ds =
    is_live ds (Sub s) && not (is_muted (Sub s) ds)
    && lacks_image (context_of (first_said (λ e. make_in (Sub s) e.1) journal) (messages_of s ds))

-- the moments of a timer's ticks that were called back
abbrev pub ticked : TimerId → Deed → List ℕ
ticked t (called (Timer timer) (on.Tick moment) orders) = if same_timer timer t then moment ∷ [] else []
ticked t _ = []

-- An entry counts for a watch where it is a tick of its timer that was called back, and the subscription is missed after it:
-- the moments of the ticks of an entry that count, at most one.
abbrev pub counted_at : (ObjectId → ℕ → List Order) → WatchRow → List (ℕ × QueueNote) → ℕ × QueueNote → List ℕ
counted_at orders row before e =
    if is_missed row.sub (before ++ e ∷ []) (deeds orders (before ++ e ∷ [])) then flat_map (ticked row.timer) (deeds_at orders before e) else []

-- how many ticks of a journal count
abbrev pub counted : (ObjectId → ℕ → List Order) → WatchRow → List (ℕ × QueueNote) → ℕ
counted orders row journal = length (puts (counted_at orders row) journal)

-- what a watch notes of the tick of a number, from 1, that counts: a retry, or once a timeout
abbrev pub watch_note : ℕ → ℕ → ℕ → List WatchNote
watch_note retries number moment =
    if nat_le number retries then Retry number moment ∷ [] else (if number == suc retries then Timeout moment ∷ [] else [])

-- what a watch notes at an entry
abbrev pub watch_notes_at : (ObjectId → ℕ → List Order) → WatchRow → List (ℕ × QueueNote) → ℕ × QueueNote → List WatchNote
watch_notes_at orders row before e = flat_map (watch_note row.retries (suc (counted orders row before))) (counted_at orders row before e)

-- what a watch notes of a whole journal
abbrev pub watch_notes : (ObjectId → ℕ → List Order) → WatchRow → List (ℕ × QueueNote) → List WatchNote
watch_notes orders row journal = puts (watch_notes_at orders row) journal

-- a retry wishes for a recap of the row's sender, if there is one
abbrev pub wish_in : WatchRow → WatchNote → List QueuePut
wish_in row (Retry count moment) = if nat_lt 0 row.sender then to_bridge (b.RecapWish row.sub row.sender) ∷ [] else []
wish_in row (Timeout moment) = []

-- the wishes of some watches at an entry
abbrev pub wishes_at : (ObjectId → ℕ → List Order) → List WatchRow → List (ℕ × QueueNote) → ℕ × QueueNote → List QueuePut
wishes_at orders rows before e = flat_map (λ (row : WatchRow). flat_map (wish_in row) (watch_notes_at orders row before e)) rows

-- WHAT A QUEUE PUTS at an entry, given its journal before it: what it puts by serving, and then what its watches wish
abbrev pub watched_puts_at : (ObjectId → ℕ → List Order) → List WatchRow → List (ℕ × QueueNote) → ℕ × QueueNote → List QueuePut
watched_puts_at orders rows before e = queue_puts_at orders before e ++ wishes_at orders rows before e
