-- believed: When the objects that a queue keeps are those that its journal says, and when an entry is served as the rules say.
use Rattle.std.specs.Prelude.{◌≡◌, ℕ, Bool, true, false, is_some, List, [], ◌∷◌, ◌++◌}
use Rattle.std.specs.List.{flat_map}
use Rattle.mama_event.specs.declared.ids.ObjectId.{ObjectId}
use Rattle.mama_event.specs.declared.ids.ObjectId.TheVariants.{Sub, Timer, Inbox}
use Rattle.mama_event.specs.declared.order.Order.{Order}
use Rattle.mama_event.specs.declared.to_queue.QueueNote.{QueueNote}
use Rattle.mama_event.specs.declared.to_queue.QueueNote.TheVariants as q
use Rattle.mama_rules_queue.specs.Queue.{Deed, QueuePut, calls_of, served, puts_of, deeds, bye_put, queue_puts_at, is_live}
use Rattle.mama_dispatch.specs.Journals.{born, is_born, is_live_here, messages_at}
use Rattle.mama_dispatch.specs.Seats.{SeatData, has_seat, listener_in, Fits}
use Rattle.mama_dispatch.specs.Seating.{Seated}

-- the seats are those of the objects that were made here, as the deeds leave them
pub record Stands (journal : List (ℕ × QueueNote)) (ds : List Deed) (ss : List SeatData) : Type 0 where
  pub seated : Seated (is_live ds) ds (born journal) ss
  pub live : (x : ObjectId) → is_live ds x ≡ is_live_here x journal
  pub quiet : (x : ObjectId) → is_born x journal ≡ false → calls_of x ds ≡ []
  pub silent : (x : ObjectId) → is_born x journal ≡ false → messages_at x ds ≡ []

-- an entry was served as the rules say, where the deeds before it are these
pub record ServedAt (orders : ObjectId → ℕ → List Order) (port : ℕ) (journal : List (ℕ × QueueNote)) (ds : List Deed) (note : QueueNote) (after : List SeatData) (put_before put_after : List QueuePut) : Type 0 where
  pub stands : Stands (journal ++ (port, note) ∷ []) (ds ++ served orders journal ds note) after
  pub puts : put_after ≡ put_before ++ flat_map puts_of (served orders journal ds note)

-- an entry was served as the rules say, whatever came before it
pub record Serves (note : QueueNote) (before after : List SeatData) (put_before put_after : List QueuePut) : Type 0 where
  pub fits : (orders : ObjectId → ℕ → List Order) → Fits orders after → Fits orders before
  pub serves : (orders : ObjectId → ℕ → List Order) (port : ℕ) (journal : List (ℕ × QueueNote)) (ds : List Deed)
      → Fits orders after → Stands journal ds before → ServedAt orders port journal ds note after put_before put_after

-- an entry may be served: a Create is of an object that has no seat, and else the object's listener is there
abbrev pub MayServe : QueueNote → List SeatData → Type 0
MayServe (q.Create slot object make tag) ss = has_seat object ss ≡ false
MayServe (q.Deliver slot sub msg) ss = is_some (listener_in (Sub sub) ss) ≡ true
MayServe (q.Reply slot inbox body) ss = is_some (listener_in (Inbox inbox) ss) ≡ true
MayServe (q.Bad slot sub kind sender seq bytes) ss = is_some (listener_in (Sub sub) ss) ≡ true
MayServe (q.BadReply slot inbox bytes) ss = is_some (listener_in (Inbox inbox) ss) ≡ true
MayServe (q.Tick slot timer moment) ss = is_some (listener_in (Timer timer) ss) ≡ true
MayServe (q.Gone slot object) ss = is_some (listener_in object ss) ≡ true
MayServe q.Fin ss = Unit {0}

-- an entry makes an object
abbrev pub is_making : QueueNote → Bool
is_making (q.Create slot object make tag) = true
is_making _ = false

-- A law: no seats are those of an empty journal.
abbrev pub StandsAtFirst : Type 0
StandsAtFirst = Stands [] [] []

-- where an entry is served, the seats are those of the journal with it, and what was put is what it puts but for Byes
pub record StandsNext (orders : ObjectId → ℕ → List Order) (journal : List (ℕ × QueueNote)) (port : ℕ) (note : QueueNote) (after : List SeatData) (put_before put_after : List QueuePut) : Type 0 where
  pub stands : Stands (journal ++ (port, note) ∷ []) (deeds orders (journal ++ (port, note) ∷ [])) after
  pub puts : put_after ++ bye_put journal (port, note) ≡ put_before ++ queue_puts_at orders journal (port, note)

-- A law: so it is for every journal, and every orders that those given in the callbacks fit.
abbrev pub Standing : Type 0
Standing =
    (orders : ObjectId → ℕ → List Order) (journal : List (ℕ × QueueNote)) (port : ℕ) (note : QueueNote) (before after : List SeatData) (put_before put_after : List QueuePut)
    → Serves note before after put_before put_after → Fits orders after → Stands journal (deeds orders journal) before
    → StandsNext orders journal port note after put_before put_after
