-- What a turn answers says what is still to be told of it: it calls back no subscription but that of its event.
use Rattle.std.specs.Prelude.{if◌then◌else◌, ◌&&◌, not}
use Rattle.std.proofs.Common.{◌≡◌, ℕ, ◌+◌, Bool, true, false, List, [], ◌∷◌, ◌++◌, length, Option, None, Some, refl, sym, ap, ◌∙◌}
use Rattle.mama_journal.specs.Journal.{first_said}
use Rattle.mama_event.specs.declared.callback.Callback.{Callback}
use Rattle.mama_event.specs.declared.callback.Callback.TheVariants as on
use Rattle.mama_event.specs.declared.ids.SubId.{SubId}
use Rattle.mama_event.specs.declared.ids.InboxId.{InboxId}
use Rattle.mama_event.specs.declared.market.MarketMsg.{MarketMsg}
use Rattle.mama_event.specs.declared.ids.ObjectId.{ObjectId}
use Rattle.mama_event.specs.declared.ids.ObjectId.TheVariants.{Sub, Timer, Inbox}
use Rattle.mama_event.specs.declared.order.Order.{Order}
use Rattle.mama_event.specs.declared.to_queue.QueueNote.{QueueNote}
use Rattle.mama_event.specs.declared.to_queue.QueueNote.TheVariants as q
use Rattle.mama_event.specs.EqualityLaws.{same_sub-Decides}
use Rattle.mama_event.specs.Listener.{ListenerData}
use Rattle.mama_event.specs.Object.{same_sub, same_object}
use Rattle.mama_event.specs.Noted.{delivered_note, replied_note}
use Rattle.mama_event.specs.Arrival.{Arrival, ReplyArrival, code_of}
use Rattle.std.specs.Prelude.{Ok, Err}
use Rattle.mama_dq.specs.Strategy.{callbacks_of}
use Rattle.mama_rules_queue.specs.Queue.{Deed, handled, called, calls_of, is_destroy, is_muted, made, make_in, context_of, messages_of, served}
use Rattle.mama_dispatch.specs.declared.turn.Turn.{Turn}
use Rattle.mama_dispatch.specs.declared.turn.Turn.TheVariants as turn
use Rattle.mama_dispatch.specs.Answering.{AnswersTo, told_or_muted}
use Rattle.mama_dispatch.specs.Seats.{SeatData}
use Rattle.mama_plans.proofs.IdLemmas.{same_object_sym}
use Rattle.mama_seats.specs.Behind.{sub_of, sub_in, called_in}

-- THE SUBSCRIPTION OF AN EVENT

pub sub_delivered : (slot : ℕ) (sub : SubId) (a : Arrival) → Some sub ≡ sub_in (delivered_note slot sub a)
sub_delivered slot sub (Ok msg) = refl
sub_delivered slot sub (Err piece) = refl

pub sub_replied : (slot : ℕ) (inbox : InboxId) (a : ReplyArrival) → None ≡ sub_in (replied_note slot inbox a)
sub_replied slot inbox (Ok body) = refl
sub_replied slot inbox (Err bytes) = refl

-- NO OTHER SUBSCRIPTION IS CALLED BACK

-- a subscription that an event is not for
abbrev pub IsOther : SubId → Option SubId → Type 0
IsOther t None = Unit {0}
IsOther t (Some s) = same_sub t s ≡ false

made_other : (t : SubId) (orders : ObjectId → ℕ → List Order) (o : ObjectId) (sofar : List Deed) (cs : List Callback) → same_object o (Sub t) ≡ false → calls_of (Sub t) (made orders o sofar cs) ≡ []
made_other t orders o sofar [] other = refl
made_other t orders o sofar (c ∷ cs) other =
    let deed : Deed = called o c (orders o (length (calls_of o sofar) + 1)) in
    elim (is_muted o sofar && not (is_destroy c)) as (λ b. calls_of (Sub t) (if b then made orders o sofar cs else deed ∷ made orders o (sofar ++ deed ∷ []) cs) ≡ []) [
      | true ↦ made_other t orders o sofar cs other
      | false ↦ rw other (made_other t orders o (sofar ++ deed ∷ []) cs other)
    ]

other_sub : (t s : SubId) → same_sub t s ≡ false → same_object (Sub s) (Sub t) ≡ false
other_sub t s other = same_object_sym (Sub s) (Sub t) ∙ other

made_for : (t : SubId) (orders : ObjectId → ℕ → List Order) (o : ObjectId) (sofar : List Deed) (cs : List Callback) → IsOther t (sub_of o) → calls_of (Sub t) (made orders o sofar cs) ≡ []
made_for t orders (Sub s) sofar cs other = made_other t orders (Sub s) sofar cs (other_sub t s other)
made_for t orders (Timer s) sofar cs other = made_other t orders (Timer s) sofar cs refl
made_for t orders (Inbox s) sofar cs other = made_other t orders (Inbox s) sofar cs refl

pub calls_elsewhere : (orders : ObjectId → ℕ → List Order) (before : List (ℕ × QueueNote)) (sofar : List Deed) (n : QueueNote) (t : SubId) → IsOther t (sub_in n) → calls_of (Sub t) (served orders before sofar n) ≡ []
calls_elsewhere orders before sofar (q.Create slot object make tag) t other = made_for t orders object sofar (on.Create ∷ []) other
calls_elsewhere orders before sofar (q.Deliver slot sub msg) t other =
    let cs : List Callback = callbacks_of (context_of (first_said (λ e. make_in (Sub sub) e.1) before) (messages_of sub sofar)) msg in
    elim (is_muted (Sub sub) sofar) as (λ b. calls_of (Sub t) (if b then [] else handled sub msg ∷ made orders (Sub sub) (sofar ++ handled sub msg ∷ []) cs) ≡ []) [
      | true ↦ refl
      | false ↦ made_for t orders (Sub sub) (sofar ++ handled sub msg ∷ []) cs other
    ]
calls_elsewhere orders before sofar (q.Reply slot inbox body) t other = made_for t orders (Inbox inbox) sofar (on.Reply body ∷ []) tt
calls_elsewhere orders before sofar (q.Bad slot sub kind sender seq bytes) t other = made_for t orders (Sub sub) sofar (on.Error (code_of bytes) ∷ []) other
calls_elsewhere orders before sofar (q.BadReply slot inbox bytes) t other = made_for t orders (Inbox inbox) sofar (on.Error (code_of bytes) ∷ []) tt
calls_elsewhere orders before sofar (q.Tick slot timer moment) t other = made_for t orders (Timer timer) sofar (on.Tick moment ∷ []) tt
calls_elsewhere orders before sofar (q.Gone slot object) t other = made_for t orders object sofar (on.Destroy ∷ []) other
calls_elsewhere orders before sofar q.Fin t other = refl

-- AS MANY CALLBACKS AS THE TURN TELLS

abbrev pub AreCalls : ℕ → List Deed → Option SubId → Type 0
AreCalls count ds None = Unit {0}
AreCalls count ds (Some s) = count ≡ length (calls_of (Sub s) ds)

-- what was muted is told nothing, and had no callbacks
told_count : {L : Type 0} (answer : Turn L) (object : ObjectId) (muted : Bool) (count : ℕ) → answer ≡ told_or_muted object muted count → (muted ≡ true → count ≡ 0) → called_in answer ≡ count
told_count {L} answer object false count is none = ap called_in is
told_count {L} answer object true count is none = ap called_in is ∙ sym (none refl)

none_delivered : (orders : ObjectId → ℕ → List Order) (before : List (ℕ × QueueNote)) (sofar : List Deed) (slot : ℕ) (sub : SubId) (msg : MarketMsg) → is_muted (Sub sub) sofar ≡ true
    → length (calls_of (Sub sub) (served orders before sofar (q.Deliver slot sub msg))) ≡ 0
none_delivered orders before sofar slot sub msg muted = rw muted refl

none_bad : (orders : ObjectId → ℕ → List Order) (sofar : List Deed) (sub : SubId) (code : ℕ) → is_muted (Sub sub) sofar ≡ true → length (calls_of (Sub sub) (made orders (Sub sub) sofar (on.Error code ∷ []))) ≡ 0
none_bad orders sofar sub code muted = rw muted refl

same_self : (s : SubId) → same_sub s s ≡ true
same_self s = (same_sub-Decides s s).1 refl

one_call : (s : SubId) (call : Callback) (os : List Order) → 1 ≡ length (calls_of (Sub s) (called (Sub s) call os ∷ []))
one_call s call os = rw (same_self s) refl

-- what is gone is told so, also where it was muted
one_gone : (orders : ObjectId → ℕ → List Order) (sofar : List Deed) (sub : SubId) → 1 ≡ length (calls_of (Sub sub) (made orders (Sub sub) sofar (on.Destroy ∷ [])))
one_gone orders sofar sub =
    let os : List Order = orders (Sub sub) (length (calls_of (Sub sub) sofar) + 1) in
    elim (is_muted (Sub sub) sofar) as (λ b. 1 ≡ length (calls_of (Sub sub) (if b && false then [] else called (Sub sub) on.Destroy os ∷ []))) [
      | true ↦ one_call sub on.Destroy os
      | false ↦ one_call sub on.Destroy os
    ]

pub calls_counted : {L : Type 0} (view : L → ListenerData) (orders : ObjectId → ℕ → List Order) (seats : List SeatData) (before : List (ℕ × QueueNote)) (sofar : List Deed) (n : QueueNote) (answer : Turn L)
    → AnswersTo view orders seats before sofar n answer → AreCalls (called_in answer) (served orders before sofar n) (sub_in n)
calls_counted view orders seats before sofar (q.Create slot (Sub sub) make tag) answer is = ap called_in is
calls_counted view orders seats before sofar (q.Create slot (Timer timer) make tag) answer is = tt
calls_counted view orders seats before sofar (q.Create slot (Inbox inbox) make tag) answer is = tt
calls_counted view orders seats before sofar (q.Deliver slot sub msg) answer is =
    told_count answer (Sub sub) (is_muted (Sub sub) sofar) (length (calls_of (Sub sub) (served orders before sofar (q.Deliver slot sub msg)))) is (none_delivered orders before sofar slot sub msg)
calls_counted view orders seats before sofar (q.Reply slot inbox body) answer is = tt
calls_counted view orders seats before sofar (q.Bad slot sub kind sender seq bytes) answer is =
    told_count answer (Sub sub) (is_muted (Sub sub) sofar) (length (calls_of (Sub sub) (made orders (Sub sub) sofar (on.Error (code_of bytes) ∷ [])))) is (none_bad orders sofar sub (code_of bytes))
calls_counted view orders seats before sofar (q.BadReply slot inbox bytes) answer is = tt
calls_counted view orders seats before sofar (q.Tick slot timer moment) answer is = tt
calls_counted view orders seats before sofar (q.Gone slot (Sub sub)) answer is = ap called_in is.is ∙ one_gone orders sofar sub
calls_counted view orders seats before sofar (q.Gone slot (Timer timer)) answer is = tt
calls_counted view orders seats before sofar (q.Gone slot (Inbox inbox)) answer is = tt
calls_counted view orders seats before sofar q.Fin answer is = tt
