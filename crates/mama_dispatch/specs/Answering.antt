-- believed: What a turn of a queue answers.
use Rattle.std.specs.Prelude.{◌≡◌, ℕ, ◌==◌, Bool, false, List, ◌++◌, length, if◌then◌else◌}
use Rattle.mama_journal.specs.Journal.{count_of}
use Rattle.mama_event.specs.declared.ids.ObjectId.{ObjectId}
use Rattle.mama_event.specs.declared.ids.ObjectId.TheVariants.{Sub, Timer, Inbox}
use Rattle.mama_event.specs.declared.callback.CallNote.{CallNote}
use Rattle.mama_event.specs.declared.order.Order.{Order}
use Rattle.mama_event.specs.declared.to_queue.QueueNote.{QueueNote}
use Rattle.mama_event.specs.declared.to_queue.QueueNote.TheVariants as q
use Rattle.mama_rules_queue.specs.Queue.{Deed, calls_of, is_muted, served, is_fin}
use Rattle.mama_event.specs.Listener.{ListenerData}
use Rattle.mama_dispatch.specs.declared.turn.Turn.{Turn}
use Rattle.mama_dispatch.specs.declared.turn.Turn.TheVariants as turn
use Rattle.mama_dispatch.specs.Seats.{SeatData, AreApart, Fits}
use Rattle.mama_dispatch.specs.Journals.{notes_of}
use Rattle.mama_dispatch.specs.Hearing.{HasHeard, HeardAt}
use Rattle.mama_dispatch.specs.Standing.{Stands}

-- an object's listener is handed back, and has heard the callbacks of these notes since it came
pub record IsHandedBack {L : Type 0} (view : L → ListenerData) (object : ObjectId) (notes : List CallNote) (seats : List SeatData) (answer : Turn L) : Type 0 where
  pub listener : L
  pub is : answer ≡ turn.Ended object listener
  pub heard : (came : ListenerData) → HeardAt object came seats → HasHeard notes came (view listener)

-- what an object is told: nothing where it is muted, and else so many callbacks
abbrev pub told_or_muted : {L : Type 0} → ObjectId → Bool → ℕ → Turn L
told_or_muted object muted count = if muted then turn.Muted object else turn.Called count

-- What a turn with an entry answers, given the journal, the deeds and the seats before it: Called with the number of
-- callbacks that were made of its object, or Muted where that was muted before; Ended at a Gone, with the listener that
-- has heard all callbacks of its object; and at a Fin Finished where it is the second, else Running.
abbrev pub AnswersTo : {L : Type 0} → (L → ListenerData) → (ObjectId → ℕ → List Order) → List SeatData → List (ℕ × QueueNote) → List Deed → QueueNote → Turn L → Type 0
AnswersTo view orders seats before sofar (q.Create slot object make tag) answer =
    answer ≡ turn.Called (length (calls_of object (served orders before sofar (q.Create slot object make tag))))
AnswersTo view orders seats before sofar (q.Deliver slot sub msg) answer =
    answer ≡ told_or_muted (Sub sub) (is_muted (Sub sub) sofar) (length (calls_of (Sub sub) (served orders before sofar (q.Deliver slot sub msg))))
AnswersTo view orders seats before sofar (q.Reply slot inbox body) answer =
    answer ≡ told_or_muted (Inbox inbox) (is_muted (Inbox inbox) sofar) (length (calls_of (Inbox inbox) (served orders before sofar (q.Reply slot inbox body))))
AnswersTo view orders seats before sofar (q.Bad slot sub kind sender seq bytes) answer =
    answer ≡ told_or_muted (Sub sub) (is_muted (Sub sub) sofar) (length (calls_of (Sub sub) (served orders before sofar (q.Bad slot sub kind sender seq bytes))))
AnswersTo view orders seats before sofar (q.BadReply slot inbox bytes) answer =
    answer ≡ told_or_muted (Inbox inbox) (is_muted (Inbox inbox) sofar) (length (calls_of (Inbox inbox) (served orders before sofar (q.BadReply slot inbox bytes))))
AnswersTo view orders seats before sofar (q.Tick slot timer moment) answer =
    answer ≡ told_or_muted (Timer timer) (is_muted (Timer timer) sofar) (length (calls_of (Timer timer) (served orders before sofar (q.Tick slot timer moment))))
AnswersTo view orders seats before sofar (q.Gone slot object) answer =
    IsHandedBack view object (notes_of object (sofar ++ served orders before sofar (q.Gone slot object))) seats answer
AnswersTo view orders seats before sofar q.Fin answer = answer ≡ (if count_of is_fin before == 1 then turn.Finished else turn.Running)

-- an entry that is no Fin is answered as the rules say, whatever came before it
abbrev pub Answers : {L : Type 0} → (L → ListenerData) → QueueNote → List SeatData → List SeatData → Turn L → Type 0
Answers view note before after answer =
    (orders : ObjectId → ℕ → List Order) (journal : List (ℕ × QueueNote)) (ds : List Deed)
    → is_fin (0, note) ≡ false → AreApart before → Fits orders after → Stands journal ds before
    → AnswersTo view orders before journal ds note answer
