-- The stream of a subscription: its Create, what its link lets through of its window, and its Gone.
use Rattle.std.specs.Prelude.{slice_index, Option, None, Some, is_some, Ok}
use Rattle.std.specs.List.{list_any}
use Rattle.std.proofs.Common.{◌≡◌, ℕ, ◌==◌, Bool, true, false, cond, List, [], ◌∷◌, ◌++◌, map, refl, ◌∙◌, ap, subst, inl}
use Rattle.std.proofs.lemmas.Bool.{both_ways}
use Rattle.std.proofs.lemmas.List.{map-append}
use Rattle.mama_journal.specs.Journal.{first_said}
use Rattle.mama_link.specs.Link.{rest}
use Rattle.mama_event.specs.Arrival.{Arrival, arriving, cut_arrival}
use Rattle.mama_event.specs.Noted.{delivered_note}
use Rattle.mama_event.specs.declared.ids.SubId.{SubId}
use Rattle.mama_event.specs.declared.ids.ObjectId.TheVariants.{Sub}
use Rattle.mama_event.specs.declared.market.MarketMsg.{MarketMsg}
use Rattle.mama_event.specs.declared.shape.Shape.{Shape}
use Rattle.mama_event.specs.declared.to_bridge.SubTerms.{SubTerms}
use Rattle.mama_event.specs.declared.to_queue.Make.TheVariants as make
use Rattle.mama_event.specs.declared.to_queue.QueueNote.{QueueNote}
use Rattle.mama_event.specs.declared.to_queue.QueueNote.TheVariants as q
use Rattle.mama_event.specs.Object.{same_sub}
use Rattle.mama_rules_services.specs.Bridge.{BridgeEvent, joins, leaves, publishes, images, BridgePut, has_ending, terms_in, joins_sub, leaves_sub, sent_with, window as window_in, faults_of, place_of, free_slot, delivered, gone, passed_on, passed, ended, answer, bridge_reaction, heard}
use Rattle.mama_laws_legal.specs.Laws.{SubsGetTheirStreams}
use Rattle.mama_laws_legal.proofs.Endings.{ending_stays}
use Rattle.mama_link.proofs.LawLemmas.{emitted}
use Rattle.mama_laws_legal.proofs.Links.{IsFew, few_if, few_map, emitted_few}
use Rattle.mama_laws_legal.proofs.Lives.{same_sub-is, same_sub-itself, some_is}
use Rattle.mama_laws_legal.proofs.BridgeStreams.{is_word, ending_same, stream-append, delivered_of, items_here, gone_here, placed}
use Rattle.mama_laws_legal.proofs.ObjectStreams.{Kind, IsKind, IsCreate, stream_at_end}
use Rattle.mama_laws_legal.proofs.Deliveries.{stream, quiet, no_messages, answer_stream, join_stream, reaction_stream}

few : (shape : Shape) (s : SubId) (terms : Option SubTerms) (e : BridgeEvent) → IsFew (sent_with shape s terms e)
few shape s None e = inl refl
few shape s (Some terms) (publishes r msg) = few_if (slice_index shape.publisher_topics r == terms.topic) msg
few shape s (Some terms) (images r msg) = few_if (same_sub r s) msg
few shape s (Some terms) _ = inl refl

abbrev sub : Shape → SubId → Kind BridgeEvent BridgePut SubTerms MarketMsg Arrival
sub shape s = record {
  object = Sub s;
  said = terms_in s;
  ends = leaves_sub s;
  ending = has_ending shape;
  is_word = is_word;
  sent = λ es e. sent_with shape s (first_said (terms_in s) es) e;
  out = λ terms ms. emitted cut_arrival terms.faults (arriving ms);
  goes = λ terms w ms. passed_on cut_arrival terms.faults (arriving w) (arriving ms);
  left = λ terms w. rest terms.faults (arriving w);
  queue = λ terms. terms.queue;
  make = λ terms. make.Sub terms.kind terms.cache shape.strategy;
  item = λ slot a. delivered_note slot s a;
  answer = answer shape;
  reaction = bridge_reaction shape;
  own = stream s;
  place = place_of (Sub s);
  closes = λ es sofar. stream s (ended shape es sofar s);
  passes = λ es sofar e. stream s (passed shape es sofar e s);
}

module _ (shape : Shape) (s : SubId) where
  begins_no_word : (e : BridgeEvent) → joins_sub s e ≡ true → is_word e ≡ false
  begins_no_word (joins r terms tag) h = refl
  begins_no_word _ h = absurd (both_ways false refl h)

  ends_no_word : (e : BridgeEvent) → leaves_sub s e ≡ true → is_word e ≡ false
  ends_no_word (leaves r) h = refl
  ends_no_word _ h = absurd (both_ways false refl h)

  end_sends_none : (terms : Option SubTerms) (e : BridgeEvent) → leaves_sub s e ≡ true → sent_with shape s terms e ≡ []
  end_sends_none terms (leaves r) h = no_messages shape s (leaves r) (λ topic. refl) terms
  end_sends_none terms _ h = absurd (both_ways false refl h)

  here : (es : List BridgeEvent) (sofar : List BridgePut) (f : List Arrival) (k slot : ℕ) → place_of (Sub s) sofar ≡ Some (k, slot) → stream s (delivered s sofar f) ≡ map (λ a. (k, delivered_note slot s a)) f
  here es sofar f k slot at = items_here (Sub s) (place_of (Sub s) sofar) (λ slot a. delivered_note slot s a) f (λ slot a. delivered_of (Sub s) slot s a ∙ same_sub-itself s) k slot at

  creates : (es : List BridgeEvent) (sofar : List BridgePut) (e : BridgeEvent) (terms : SubTerms) → terms_in s e ≡ Some terms → list_any (joins_sub s) es ≡ false → IsCreate (sub shape s) terms (stream s (answer shape es sofar e))
  creates es sofar (joins r t tag) terms said new = by_case (same_sub r s) refl said
    where
      by_case : (b : Bool) → same_sub r s ≡ b → cond b (Some t) None ≡ Some terms → IsCreate (sub shape s) terms (stream s (answer shape es sofar (joins r t tag)))
      by_case true same is =
          subst (λ (u : SubTerms). IsCreate (sub shape s) u (stream s (answer shape es sofar (joins r t tag)))) (some_is t terms is)
          (record { slot = free_slot shape es sofar t.queue; tag = tag; is = ap (λ (u : SubId). stream s (answer shape es sofar (joins u t tag))) (same_sub-is r s same) ∙ join_stream shape s es sofar t tag new })
      by_case false other is = absurd (both_ways false refl (ap is_some is))
  creates es sofar _ terms said new = absurd (both_ways false refl (ap is_some said))

  is_kind : IsKind (sub shape s)
  is_kind = record {
    ending_same = ending_same shape;
    ending_stays = λ es e. ending_stays shape es (e ∷ []);
    no_word_begins = begins_no_word;
    no_word_ends = ends_no_word;
    end_sends_none = λ es e h. end_sends_none (first_said (terms_in s) es) e h;
    word_sends_none = λ es e h. quiet shape s (first_said (terms_in s) es) e h;
    out_none = λ terms. refl;
    out_more = λ terms w es e.
        let sent : List MarketMsg = sent_with shape s (first_said (terms_in s) es) e in
        ap (emitted cut_arrival terms.faults) (map-append (λ (m : MarketMsg). Ok m) w sent)
        ∙ emitted_few cut_arrival terms.faults (arriving w) (arriving sent) (few_map (λ (m : MarketMsg). Ok m) sent (few shape s (first_said (terms_in s) es) e));
    goes_none = λ terms w. refl;
    own_append = stream-append (Sub s);
    own_none = refl;
    placed = λ sofar terms slot tag more is. placed (Sub s) sofar terms.queue slot (make.Sub terms.kind terms.cache shape.strategy) tag (map (λ a. (terms.queue, delivered_note slot s a)) more) is;
    answers = answer_stream shape s;
    creates = creates;
    reacts = reaction_stream shape s;
    closing = λ es sofar terms slot at said.
        stream-append (Sub s) (delivered s sofar (rest (faults_of (first_said (terms_in s) es)) (arriving (window_in shape s es)))) (gone (Sub s) sofar)
        ∙ ap (λ (ws : List (ℕ × QueueNote)). ws ++ stream s (gone (Sub s) sofar)) (here es sofar (rest (faults_of (first_said (terms_in s) es)) (arriving (window_in shape s es))) terms.queue slot at)
        ∙ ap (λ (ws : List (ℕ × QueueNote)). map (λ a. (terms.queue, delivered_note slot s a)) (rest (faults_of (first_said (terms_in s) es)) (arriving (window_in shape s es))) ++ ws) (gone_here (Sub s) sofar terms.queue slot at)
        ∙ ap (λ (o : Option SubTerms). map (λ a. (terms.queue, delivered_note slot s a)) (rest (faults_of o) (arriving (window_in shape s es))) ++ (terms.queue, q.Gone slot (Sub s)) ∷ []) said;
    passing = λ es sofar e terms slot at said.
        here es sofar (passed_on cut_arrival (faults_of (first_said (terms_in s) es)) (arriving (window_in shape s es)) (arriving (sent_with shape s (first_said (terms_in s) es) e))) terms.queue slot at
        ∙ ap (λ (o : Option SubTerms). map (λ a. (terms.queue, delivered_note slot s a)) (passed_on cut_arrival (faults_of o) (arriving (window_in shape s es)) (arriving (sent_with shape s (first_said (terms_in s) es) e)))) said;
  }

pub subs_streams : SubsGetTheirStreams
subs_streams shape journal s terms was dead said = stream_at_end (sub shape s) (is_kind shape s) (heard shape journal) was.before was.after terms was.whole was.live dead said
