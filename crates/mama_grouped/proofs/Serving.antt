-- An entry of a queue's journal calls back one subscription alone, or none.
use Rattle.std.proofs.Common.{◌≡◌, ℕ, ◌+◌, Bool, true, false, cond, List, [], ◌∷◌, ◌++◌, length, None, Some, unwrap_or, refl, sym, ap, ◌∙◌}
use Rattle.std.specs.Prelude.{◌&&◌, not}
use Rattle.mama_journal.specs.Journal.{first_said}
use Rattle.mama_event.specs.declared.ids.SubId.{SubId}
use Rattle.mama_event.specs.declared.ids.ObjectId.{ObjectId}
use Rattle.mama_event.specs.declared.ids.ObjectId.TheVariants.{Sub, Timer, Inbox}
use Rattle.mama_event.specs.declared.callback.Callback.{Callback}
use Rattle.mama_event.specs.declared.callback.Callback.TheVariants as on
use Rattle.mama_event.specs.declared.order.Order.{Order}
use Rattle.mama_event.specs.declared.to_queue.QueueNote.{QueueNote}
use Rattle.mama_event.specs.declared.to_queue.QueueNote.TheVariants as q
use Rattle.mama_event.specs.Object.{same_sub, same_object}
use Rattle.mama_event.specs.Arrival.{code_of}
use Rattle.mama_event.specs.EqualityLaws.{same_sub-Decides}
use Rattle.mama_dq.specs.Strategy.{callbacks_of}
use Rattle.mama_rules_queue.specs.Queue.{Deed, handled, called, calls_in, calls_of, is_destroy, is_muted, make_in, context_of, messages_of, made, served}
use Rattle.mama_grouped.specs.Seat.{sub_in}

some_same : {X : Type 0} (x y : X) → Some x ≡ Some y → x ≡ y
some_same x y e = ap (λ o. unwrap_or o x) e

-- one that is another than a third is so the other way round
pub other_way : (t a s : SubId) → a ≡ s → same_sub t s ≡ false → same_sub a t ≡ false
other_way t a s at other = by (same_sub a t) refl
  where
    by : (b : Bool) → same_sub a t ≡ b → b ≡ false
    by true e =
        let same : t ≡ s = sym ((same_sub-Decides a t).0 e) ∙ at in
        let bad : true ≡ false = sym ((same_sub-Decides t s).1 same) ∙ other in
        absurd cc
    by false e = refl

module _ (orders : ObjectId → ℕ → List Order) (x : ObjectId) where
  made_step : (test : Bool) (xs ys : List Deed) (d : Deed) → calls_in x d ≡ [] → calls_of x xs ≡ [] → calls_of x ys ≡ [] → calls_of x (cond test xs (d ∷ ys)) ≡ []
  made_step true xs ys d here left right = left
  made_step false xs ys d here left right = ap (λ (cs : List (Callback × List Order)). cs ++ calls_of x ys) here ∙ right

  made_other : (o : ObjectId) → same_object o x ≡ false → (sofar : List Deed) (cs : List Callback) → calls_of x (made orders o sofar cs) ≡ []
  made_other o other sofar [] = refl
  made_other o other sofar (c ∷ cs) =
      let os : List Order = orders o (length (calls_of o sofar) + 1) in
      let d : Deed = called o c os in
      made_step (is_muted o sofar && not (is_destroy c)) (made orders o sofar cs) (made orders o (sofar ++ d ∷ []) cs) d
      (ap (λ (b : Bool). cond b ((c, os) ∷ []) []) other) (made_other o other sofar cs) (made_other o other (sofar ++ d ∷ []) cs)

module _ (orders : ObjectId → ℕ → List Order) (before : List (ℕ × QueueNote)) (sofar : List Deed) (t : SubId) where
  -- an entry that calls back no subscription
  pub none_served : (n : QueueNote) → sub_in n ≡ None → calls_of (Sub t) (served orders before sofar n) ≡ []
  none_served (q.Create slot (Sub s) make tag) none = absurd cc
  none_served (q.Create slot (Timer u) make tag) none = made_other orders (Sub t) (Timer u) refl sofar (on.Create ∷ [])
  none_served (q.Create slot (Inbox i) make tag) none = made_other orders (Sub t) (Inbox i) refl sofar (on.Create ∷ [])
  none_served (q.Deliver slot sub msg) none = absurd cc
  none_served (q.Reply slot inbox body) none = made_other orders (Sub t) (Inbox inbox) refl sofar (on.Reply body ∷ [])
  none_served (q.Bad slot sub kind sender seq bytes) none = absurd cc
  none_served (q.BadReply slot inbox bytes) none = made_other orders (Sub t) (Inbox inbox) refl sofar (on.Error (code_of bytes) ∷ [])
  none_served (q.Tick slot timer moment) none = made_other orders (Sub t) (Timer timer) refl sofar (on.Tick moment ∷ [])
  none_served (q.Gone slot (Sub s)) none = absurd cc
  none_served (q.Gone slot (Timer u)) none = made_other orders (Sub t) (Timer u) refl sofar (on.Destroy ∷ [])
  none_served (q.Gone slot (Inbox i)) none = made_other orders (Sub t) (Inbox i) refl sofar (on.Destroy ∷ [])
  none_served q.Fin none = refl

  -- and one that calls back this one
  pub only_served : (s : SubId) (n : QueueNote) → sub_in n ≡ Some s → same_sub t s ≡ false → calls_of (Sub t) (served orders before sofar n) ≡ []
  only_served s (q.Create slot (Sub a) make tag) one other = made_other orders (Sub t) (Sub a) (other_way t a s (some_same a s one) other) sofar (on.Create ∷ [])
  only_served s (q.Create slot (Timer u) make tag) one other = absurd cc
  only_served s (q.Create slot (Inbox i) make tag) one other = absurd cc
  only_served s (q.Deliver slot a msg) one other =
      let cs : List Callback = callbacks_of (context_of (first_said (λ e. make_in (Sub a) e.1) before) (messages_of a sofar)) msg in
      made_step orders (Sub t) (is_muted (Sub a) sofar) [] (made orders (Sub a) (sofar ++ handled a msg ∷ []) cs) (handled a msg) refl refl
      (made_other orders (Sub t) (Sub a) (other_way t a s (some_same a s one) other) (sofar ++ handled a msg ∷ []) cs)
  only_served s (q.Reply slot inbox body) one other = absurd cc
  only_served s (q.Bad slot a kind sender seq bytes) one other = made_other orders (Sub t) (Sub a) (other_way t a s (some_same a s one) other) sofar (on.Error (code_of bytes) ∷ [])
  only_served s (q.BadReply slot inbox bytes) one other = absurd cc
  only_served s (q.Tick slot timer moment) one other = absurd cc
  only_served s (q.Gone slot (Sub a)) one other = made_other orders (Sub t) (Sub a) (other_way t a s (some_same a s one) other) sofar (on.Destroy ∷ [])
  only_served s (q.Gone slot (Timer u)) one other = absurd cc
  only_served s (q.Gone slot (Inbox i)) one other = absurd cc
  only_served s q.Fin one other = absurd cc
