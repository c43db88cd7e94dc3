-- The stream of a timer: its Create, its ticks, and its Gone.
use Rattle.std.specs.Prelude.{nat_le, None, Some, is_some}
use Rattle.std.specs.List.{list_any}
use Rattle.std.proofs.Common.{◌≡◌, ℕ, Bool, true, false, cond, List, [], ◌∷◌, ◌++◌, map, refl, ◌∙◌, ap, subst, append-nil}
use Rattle.std.proofs.lemmas.Bool.{both_ways}
use Rattle.mama_event.specs.declared.ids.TimerId.{TimerId}
use Rattle.mama_event.specs.declared.ids.ObjectId.TheVariants.{Timer}
use Rattle.mama_event.specs.declared.shape.Shape.{Shape}
use Rattle.mama_event.specs.declared.to_queue.Make.TheVariants as make
use Rattle.mama_event.specs.declared.to_queue.QueueNote.{QueueNote}
use Rattle.mama_event.specs.declared.to_queue.QueueNote.TheVariants as q
use Rattle.mama_event.specs.Object.{same_timer}
use Rattle.mama_rules_services.specs.Timers.{TimersEvent, arms, disarms, now, clock, terms_in, arms_timer, disarms_timer, has_ending, due, place_of, free_slot, gone, answer, timers_reaction, timers_puts, heard}
use Rattle.mama_rules_legal.specs.Streams.{IsStream}
use Rattle.mama_rules_legal.specs.Ticks.{fires, ticks}
use Rattle.mama_laws_legal.specs.Laws.{TimersGetTheirStreams}
use Rattle.mama_laws_legal.proofs.Lives.{same_timer-is, some_is}
use Rattle.mama_laws_legal.proofs.TimerLives.{is_word, ending_same, ending_stays, stream, stream-append, gone_here, tick_here, placed, ticked, answer_stream, arm_stream, reaction_stream}
use Rattle.mama_laws_legal.proofs.ObjectStreams.{Kind, IsKind, IsCreate, stream_at_end}

-- a timer is an object whose link holds nothing: what it fires goes out at once
abbrev timer : Shape → TimerId → Kind TimersEvent (ℕ × QueueNote) (ℕ × ℕ) ℕ ℕ
timer shape t = record {
  object = Timer t;
  said = terms_in t;
  ends = disarms_timer t;
  ending = has_ending shape;
  is_word = is_word;
  sent = fires t;
  out = λ terms ms. ms;
  goes = λ terms w ms. ms;
  left = λ terms w. [];
  queue = λ terms. terms.0;
  make = λ terms. make.Timer;
  item = λ slot m. q.Tick slot t m;
  answer = answer shape;
  reaction = timers_reaction shape;
  own = stream t;
  place = place_of t;
  closes = λ es sofar. stream t (gone sofar t);
  passes = λ es sofar e. ticked t es sofar e;
}

module _ (shape : Shape) (t : TimerId) where
  begins_no_word : (e : TimersEvent) → arms_timer t e ≡ true → is_word e ≡ false
  begins_no_word (arms r queue interval tag) h = refl
  begins_no_word _ h = absurd (both_ways false refl h)

  ends_no_word : (e : TimersEvent) → disarms_timer t e ≡ true → is_word e ≡ false
  ends_no_word (disarms r) h = refl
  ends_no_word _ h = absurd (both_ways false refl h)

  end_fires_none : (es : List TimersEvent) (e : TimersEvent) → disarms_timer t e ≡ true → fires t es e ≡ []
  end_fires_none es (disarms r) h = refl
  end_fires_none es _ h = absurd (both_ways false refl h)

  word_fires_none : (es : List TimersEvent) (e : TimersEvent) → is_word e ≡ true → fires t es e ≡ []
  word_fires_none es (now m) h = absurd (both_ways false refl h)
  word_fires_none es _ h = refl

  creates : (es : List TimersEvent) (sofar : List (ℕ × QueueNote)) (e : TimersEvent) (terms : ℕ × ℕ) → terms_in t e ≡ Some terms → list_any (arms_timer t) es ≡ false → IsCreate (timer shape t) terms (stream t (answer shape es sofar e))
  creates es sofar (arms r queue interval tag) terms said new = by_case (same_timer r t) refl said
    where
      by_case : (b : Bool) → same_timer r t ≡ b → cond b (Some (queue, interval)) None ≡ Some terms → IsCreate (timer shape t) terms (stream t (answer shape es sofar (arms r queue interval tag)))
      by_case true same is =
          subst (λ (u : ℕ × ℕ). IsCreate (timer shape t) u (stream t (answer shape es sofar (arms r queue interval tag)))) (some_is {A = ℕ × ℕ} (queue, interval) terms is)
          (record { slot = free_slot shape es sofar queue; tag = tag; is = ap (λ (u : TimerId). stream t (answer shape es sofar (arms u queue interval tag))) (same_timer-is r t same) ∙ arm_stream shape t es sofar queue interval tag new })
      by_case false other is = absurd (both_ways false refl (ap is_some is))
  creates es sofar _ terms said new = absurd (both_ways false refl (ap is_some said))

  -- what it ticks at an event
  ticked_is : (es : List TimersEvent) (sofar : List (ℕ × QueueNote)) (e : TimersEvent) (k slot : ℕ) → place_of t sofar ≡ Some (k, slot) → ticked t es sofar e ≡ map (λ m. (k, q.Tick slot t m)) (fires t es e)
  ticked_is es sofar (now m) k slot at =
      ap (λ (ws : List (ℕ × QueueNote)). cond (nat_le (due t es) (clock (es ++ now m ∷ []))) ws []) (tick_here t sofar (clock (es ++ now m ∷ [])) k slot at)
      ∙ by_case (nat_le (due t es) (clock (es ++ now m ∷ [])))
    where
      by_case : (b : Bool) → cond {A = List (ℕ × QueueNote)} b ((k, q.Tick slot t (clock (es ++ now m ∷ []))) ∷ []) [] ≡ map (λ m. (k, q.Tick slot t m)) (cond b (clock (es ++ now m ∷ []) ∷ []) [])
      by_case true = refl
      by_case false = refl
  ticked_is es sofar _ k slot at = refl

  is_kind : IsKind (timer shape t)
  is_kind = record {
    ending_same = ending_same shape;
    ending_stays = λ es e. ending_stays shape es (e ∷ []);
    no_word_begins = begins_no_word;
    no_word_ends = ends_no_word;
    end_sends_none = end_fires_none;
    word_sends_none = word_fires_none;
    out_none = λ terms. refl;
    out_more = λ terms w es e. refl;
    goes_none = λ terms w. refl;
    own_append = stream-append t;
    own_none = refl;
    placed = λ sofar terms slot tag more is. placed t sofar terms.0 slot tag (map (λ m. (terms.0, q.Tick slot t m)) more) is;
    answers = answer_stream shape t;
    creates = creates;
    reacts = reaction_stream shape t;
    closing = λ es sofar terms slot at said. gone_here t sofar terms.0 slot at;
    passing = λ es sofar e terms slot at said. ticked_is es sofar e terms.0 slot at;
  }

pub timers_streams : TimersGetTheirStreams
timers_streams shape journal t terms was dead said =
    subst (λ (ms : List ℕ). IsStream (Timer t) terms.0 make.Timer (λ slot m. q.Tick slot t m) ms (stream t (timers_puts shape journal)))
    (append-nil (ticks shape t (heard shape journal)))
    (stream_at_end (timer shape t) (is_kind shape t) (heard shape journal) was.before was.after terms was.whole was.live dead said)
