-- believed: What is called back of each object over a list of turns, and that nothing meant for one object reaches another.
use Rattle.std.specs.Prelude.{◌≡◌, ℕ, Bool, true, false, ◌&&◌, ◌||◌, not, List, [], ◌∷◌, ◌++◌, map, if◌then◌else◌}
use Rattle.std.specs.List.{list_all}
use Rattle.mama_journal.specs.Lane.{by_port}
use Rattle.mama_event.specs.Lawful.{each_fits, IsLawful}
use Rattle.mama_event.specs.ToQueue.{is_last, fits, is_live_in}
use Rattle.mama_event.specs.declared.ids.ObjectId.{ObjectId}
use Rattle.mama_event.specs.declared.ids.ObjectId.TheVariants.{Sub}
use Rattle.mama_event.specs.declared.callback.Callback.{Callback}
use Rattle.mama_event.specs.declared.order.Order.{Order}
use Rattle.mama_event.specs.declared.to_queue.QueueNote.{QueueNote}
use Rattle.mama_event.specs.declared.to_queue.QueueNote.TheVariants as q
use Rattle.mama_rules_queue.specs.Queue.{Deed, handled, called, is_create, is_destroy, calls_of, deeds, deeds_at}
use Rattle.mama_dispatch.specs.Journals.{may_come}

-- no callbacks
abbrev pub is_none : List Callback → Bool
is_none [] = true
is_none (c ∷ cs) = false

-- callbacks after on_create: others, and with on_destroy they end
abbrev pub goes_on : List Callback → Bool
goes_on [] = true
goes_on (c ∷ cs) = if is_destroy c then is_none cs else not (is_create c) && goes_on cs

-- callbacks are on_create, then others, then on_destroy, or a first part of these
abbrev pub is_stream : List Callback → Bool
is_stream [] = true
is_stream (c ∷ cs) = is_create c && goes_on cs

-- each entry of a journal was one that may come after those before it
abbrev pub AreTurns : List (ℕ × QueueNote) → Type 0
AreTurns journal = each_fits (λ before e. may_come before e.1) [] journal ≡ true

-- A law: whatever the listeners order, and whatever the turns are, the callbacks of each object are a stream.
abbrev pub CallbacksAreStreams : Type 0
CallbacksAreStreams = (orders : ObjectId → ℕ → List Order) (journal : List (ℕ × QueueNote)) (o : ObjectId)
    → AreTurns journal → is_stream (map (λ c. c.0) (calls_of o (deeds orders journal))) ≡ true

-- an object has the block of an event's slot that is not finished, by the events up to some place
abbrev pub has_block : QueueNote → List QueueNote → ObjectId → Bool
has_block (q.Create slot object make tag) notes o = is_live_in slot o notes
has_block (q.Deliver slot sub msg) notes o = is_live_in slot o notes
has_block (q.Reply slot inbox body) notes o = is_live_in slot o notes
has_block (q.Bad slot sub kind sender seq bytes) notes o = is_live_in slot o notes
has_block (q.BadReply slot inbox bytes) notes o = is_live_in slot o notes
has_block (q.Tick slot timer moment) notes o = is_live_in slot o notes
has_block (q.Gone slot object) notes o = is_live_in slot o notes
has_block q.Fin notes o = false

-- a deed is of the object whose block in the event's slot was not finished before the event, or was begun by it
abbrev pub is_of_block : QueueNote → List QueueNote → Deed → Bool
is_of_block note before (called o call orders) = has_block note before o || has_block note (before ++ note ∷ []) o
is_of_block note before (handled sub msg) = has_block note before (Sub sub) || has_block note (before ++ note ∷ []) (Sub sub)

-- A law: where each port put a lawful list, each callback and each message that an entry brings is of the object that
-- its slot is then of. What was meant for the slot's former object never reaches the next.
abbrev pub SlotsAreKept : Type 0
SlotsAreKept = (orders : ObjectId → ℕ → List Order) (journal before after : List (ℕ × QueueNote)) (e : ℕ × QueueNote)
    → ((port : ℕ) → IsLawful is_last (fits port) (by_port port journal)) → journal ≡ before ++ e ∷ after
    → list_all (is_of_block e.1 (by_port e.0 before)) (deeds_at orders before e) ≡ true

-- A law: in a lawful list a slot is of one object at a time.
abbrev pub SlotsAreOfOne : Type 0
SlotsAreOfOne = (port : ℕ) (notes : List QueueNote) (slot : ℕ) (a b : ObjectId)
    → IsLawful is_last (fits port) notes → is_live_in slot a notes ≡ true → is_live_in slot b notes ≡ true → a ≡ b
