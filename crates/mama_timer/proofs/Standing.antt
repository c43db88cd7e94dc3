-- What the code keeps still stands for the journal after one entry more.
use Rattle.std.specs.Prelude.{Option, None, Some, max}
use Rattle.std.specs.List.{list_any}
use Rattle.std.proofs.Common.{◌≡◌, ℕ, Bool, true, false, not, ◌&&◌, cond, List, [], ◌∷◌, ◌++◌, refl, sym, ◌∙◌, ap, arith, append-nil}
use Rattle.std.proofs.lemmas.Bool.{both_ways, or_left, or_from, false_from_ne_true}
use Rattle.mama_event.specs.Object.{same_timer}
use Rattle.mama_event.specs.declared.ids.TimerId.{TimerId}
use Rattle.mama_event.specs.declared.ids.ObjectId.{ObjectId}
use Rattle.mama_event.specs.declared.shape.Shape.{Shape}
use Rattle.mama_event.specs.declared.to_queue.QueueNote.{QueueNote}
use Rattle.mama_rules_services.specs.Timers.{TimersEvent, arms, disarms, client_done, bye, fin, no_event, clock, terms_in, arms_timer, disarms_timer, has_ending, is_armed, is_live, due_step, newly_armed, created_in, place_of}
use Rattle.mama_timer.specs.declared.table.Row.{Row}
use Rattle.mama_slots.specs.Slots.{SlotData}
use Rattle.mama_timer.specs.Stands.{IsStill, IsRow, Stands}
use Rattle.mama_timer.proofs.Lists.{said_still, said_none, list_any-push}
use Rattle.mama_journal.specs.EntryLaws.{puts-push}
use Rattle.mama_timer.proofs.Orders.{same_timer-is}
use Rattle.mama_timer.proofs.Pushes.{clock-push, is_armed-push, due_along-push, has_ending-keeps, live_before}
use Rattle.mama_timer.proofs.Live.{all_armed, arms_timer-arms}
use Rattle.mama_timer.proofs.Holding.{held_same}

-- whether the ending had come, where it has not come after one entry more
pub not_yet : (shape : Shape) (es : List TimersEvent) (e : TimersEvent) → has_ending shape (es ++ e ∷ []) ≡ false → has_ending shape es ≡ false
not_yet shape es e h = false_from_ne_true (has_ending shape es) (λ ended. both_ways (has_ending shape (es ++ e ∷ [])) h (has_ending-keeps shape es e ended))

-- whether a timer that was armed is armed after one entry more
pub armed_step : (t : TimerId) (es : List TimersEvent) (e : TimersEvent) → list_any (arms_timer t) es ≡ true → is_armed t (es ++ e ∷ []) ≡ (is_armed t es && not (disarms_timer t e))
armed_step t es e came = is_armed-push t es e ∙ ap (λ (b : Bool). cond b (is_armed t es && not (disarms_timer t e)) (arms_timer t e)) came

-- a row after one entry more
pub row_step : (shape : Shape) (es : List TimersEvent) (sofar more : List (ℕ × QueueNote)) (e : TimersEvent) (t : TimerId) (r r' : Row) → IsRow shape es sofar t r
    → r'.queue ≡ r.queue → r'.slot ≡ r.slot → r'.armed ≡ (r.armed && not (disarms_timer t e))
    → (is_live shape t (es ++ e ∷ []) ≡ true → due_step e (clock (es ++ e ∷ [])) (terms_in t e) (Some (r.interval, r.due)) ≡ Some (r'.interval, r'.due))
    → IsRow shape (es ++ e ∷ []) (sofar ++ more) t r'
row_step shape es sofar more e t r r' is queue slot armed due = record {
  came = list_any-push (arms_timer t) es e ∙ or_left (list_any (arms_timer t) es) (arms_timer t e) is.came;
  armed = armed ∙ ap (λ (b : Bool). b && not (disarms_timer t e)) is.armed ∙ sym (armed_step t es e is.came);
  place = said_still (created_in t) sofar more (r.queue, r.slot) is.place ∙ (λ i. Some (sym queue i, sym slot i));
  terms = λ live. due_along-push t es e ∙ ap (due_step e (clock (es ++ e ∷ [])) (terms_in t e)) (is.terms (live_before shape t es e is.came live)) ∙ due live;
}

-- ---- an entry that changes no timer

kept_armed : (a d : Bool) → (a ≡ true → d ≡ false) → a ≡ (a && not d)
kept_armed true d h = rw (h refl) refl
kept_armed false d h = refl

pub live_still : (shape : Shape) (es : List TimersEvent) (e : TimersEvent) → has_ending shape (es ++ e ∷ []) ≡ false → (t : TimerId) → (is_armed t es ≡ true → disarms_timer t e ≡ false)
    → list_any (arms_timer t) es ≡ true → is_live shape t (es ++ e ∷ []) ≡ is_live shape t es
live_still shape es e none t keeps came =
    rw (armed_step t es e came, sym (kept_armed (is_armed t es) (disarms_timer t e) keeps), none, not_yet shape es e none) refl

pub stands_still : (shape : Shape) (es : List TimersEvent) (sofar more : List (ℕ × QueueNote)) (e : TimersEvent) (moment : ℕ) (rows : TimerId → Option Row) (listed : ℕ × TimerId → Bool) (slots : SlotData)
    → IsStill es e → ((t : TimerId) → place_of t more ≡ None)
    → Stands shape es sofar moment rows listed slots → Stands shape (es ++ e ∷ []) (sofar ++ more) moment rows listed slots
stands_still shape es sofar more e moment rows listed slots still made stands = record {
  time = stands.time ∙ sym (clock-push es e ∙ ap (max (clock es)) still.moment ∙ omega arith);
  rows = record {
    unknown = λ t none. let before = stands.rows.unknown t none in list_any-push (arms_timer t) es e ∙ or_from (list_any (arms_timer t) es) (arms_timer t e) before (still.fresh t before);
    known = λ t r is. let row = stands.rows.known t r is in
        row_step shape es sofar more e t r r row refl refl (row.armed ∙ kept_armed (is_armed t es) (disarms_timer t e) (still.keeps t) ∙ ap (λ (b : Bool). b && not (disarms_timer t e)) (sym row.armed))
        (λ live. still.due (clock (es ++ e ∷ [])) (terms_in t e) (r.interval, r.due));
  };
  listed = λ none. stands.listed (not_yet shape es e none);
  slots = λ none queue slot. stands.slots (not_yet shape es e none) queue slot
      ∙ sym (held_same shape es (es ++ e ∷ []) sofar (sofar ++ more) (puts-push newly_armed es e ∙ ap (λ (ts : List TimerId). all_armed es ++ ts) still.news ∙ append-nil (all_armed es))
      (λ t came. live_still shape es e none t (still.keeps t) came)
      (λ t came. said_none (created_in t) sofar more (made t)) queue slot);
}

pub nothing_still : (es : List TimersEvent) → IsStill es no_event
nothing_still es = record { news = refl; fresh = λ t h. refl; keeps = λ t h. refl; moment = refl; due = λ at terms state. due_nothing at terms state }
  where
    due_nothing : (at : ℕ) (terms : Option (ℕ × ℕ)) (state : ℕ × ℕ) → due_step no_event at terms (Some state) ≡ Some state
    due_nothing at None state = refl
    due_nothing at (Some t) state = refl

pub bye_still : (es : List TimersEvent) (k : ℕ) → IsStill es (bye k)
bye_still es k = record { news = refl; fresh = λ t h. refl; keeps = λ t h. refl; moment = refl; due = λ at terms state. due_bye at terms state }
  where
    due_bye : (at : ℕ) (terms : Option (ℕ × ℕ)) (state : ℕ × ℕ) → due_step (bye k) at terms (Some state) ≡ Some state
    due_bye at None state = refl
    due_bye at (Some t) state = refl

pub client_still : (es : List TimersEvent) (c : ℕ) → IsStill es (client_done c)
client_still es c = record { news = refl; fresh = λ t h. refl; keeps = λ t h. refl; moment = refl; due = λ at terms state. due_client at terms state }
  where
    due_client : (at : ℕ) (terms : Option (ℕ × ℕ)) (state : ℕ × ℕ) → due_step (client_done c) at terms (Some state) ≡ Some state
    due_client at None state = refl
    due_client at (Some t) state = refl

pub fin_still : (es : List TimersEvent) → IsStill es fin
fin_still es = record { news = refl; fresh = λ t h. refl; keeps = λ t h. refl; moment = refl; due = λ at terms state. due_fin at terms state }
  where
    due_fin : (at : ℕ) (terms : Option (ℕ × ℕ)) (state : ℕ × ℕ) → due_step fin at terms (Some state) ≡ Some state
    due_fin at None state = refl
    due_fin at (Some t) state = refl

pub due_disarms : (u : TimerId) (at : ℕ) (terms : Option (ℕ × ℕ)) (state : ℕ × ℕ) → due_step (disarms u) at terms (Some state) ≡ Some state
due_disarms u at None state = refl
due_disarms u at (Some t) state = refl

pub due_arms : (u : TimerId) (queue interval : ℕ) (tag : ObjectId) (at : ℕ) (terms : Option (ℕ × ℕ)) (state : ℕ × ℕ) → due_step (arms u queue interval tag) at terms (Some state) ≡ Some state
due_arms u queue interval tag at None state = refl
due_arms u queue interval tag at (Some t) state = refl

-- a timer that is not armed is disarmed
pub disarm_still : (es : List TimersEvent) (u : TimerId) → is_armed u es ≡ false → IsStill es (disarms u)
disarm_still es u not_armed = record {
  news = refl;
  fresh = λ t h. refl;
  keeps = λ t armed. false_from_ne_true (same_timer u t) (λ s. both_ways (is_armed u es) not_armed (ap (λ (v : TimerId). is_armed v es) (same_timer-is u t s) ∙ armed));
  moment = refl;
  due = λ at terms state. due_disarms u at terms state;
}

-- a timer that was armed is armed again
pub known_still : (es : List TimersEvent) (u : TimerId) (queue interval : ℕ) (tag : ObjectId) → list_any (arms_timer u) es ≡ true → IsStill es (arms u queue interval tag)
known_still es u queue interval tag came = record {
  news = ap (λ (b : Bool). cond b [] (u ∷ [])) came;
  fresh = λ t none. arms_timer-arms t u queue interval tag ∙ false_from_ne_true (same_timer u t) (λ s. both_ways (list_any (arms_timer t) es) none (ap (λ (v : TimerId). list_any (arms_timer v) es) (sym (same_timer-is u t s)) ∙ came));
  keeps = λ t armed. refl;
  moment = refl;
  due = λ at terms state. due_arms u queue interval tag at terms state;
}
