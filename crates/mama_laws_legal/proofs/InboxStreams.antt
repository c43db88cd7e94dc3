-- The stream of an inbox: its Create, what its link lets through of the replies put while it was open, and its Gone.
use Rattle.std.specs.Prelude.{Option, None, Some, is_some, Ok}
use Rattle.std.specs.List.{list_any}
use Rattle.std.proofs.Common.{◌≡◌, ℕ, Bool, true, false, cond, List, [], ◌∷◌, ◌++◌, map, refl, ◌∙◌, ap, subst, inl}
use Rattle.std.proofs.lemmas.Bool.{both_ways}
use Rattle.std.proofs.lemmas.List.{map-append}
use Rattle.mama_journal.specs.Journal.{first_said}
use Rattle.mama_msg.specs.Field.{FieldData}
use Rattle.mama_link.specs.Link.{rest}
use Rattle.mama_event.specs.Arrival.{ReplyArrival, answering, cut_reply}
use Rattle.mama_event.specs.Noted.{replied_note}
use Rattle.mama_event.specs.declared.ids.InboxId.{InboxId}
use Rattle.mama_event.specs.declared.ids.ObjectId.TheVariants.{Inbox}
use Rattle.mama_event.specs.declared.shape.Shape.{Shape}
use Rattle.mama_event.specs.declared.to_bridge.InboxTerms.{InboxTerms}
use Rattle.mama_event.specs.declared.to_queue.Make.TheVariants as make
use Rattle.mama_event.specs.declared.to_queue.QueueNote.{QueueNote}
use Rattle.mama_event.specs.declared.to_queue.QueueNote.TheVariants as q
use Rattle.mama_event.specs.Object.{same_inbox}
use Rattle.mama_rules_services.specs.Bridge.{BridgeEvent, opens, closes, replies, BridgePut, has_ending, inbox_terms_in, opens_inbox, closes_inbox, replied_to, reply_window, inbox_faults_of, place_of, free_slot, replied, gone, passed_on, passed_reply, ended_inbox, answer, bridge_reaction, heard}
use Rattle.mama_laws_legal.specs.Laws.{InboxesGetTheirStreams}
use Rattle.mama_laws_legal.proofs.Endings.{ending_stays}
use Rattle.mama_link.proofs.LawLemmas.{emitted}
use Rattle.mama_laws_legal.proofs.Links.{IsFew, few_if, few_map, emitted_few}
use Rattle.mama_laws_legal.proofs.Lives.{same_inbox-is, same_inbox-itself, some_is}
use Rattle.mama_laws_legal.proofs.BridgeStreams.{is_word, ending_same, stream-append, replied_of, items_here, gone_here, placed}
use Rattle.mama_laws_legal.proofs.ObjectStreams.{Kind, IsKind, IsCreate, stream_at_end}
use Rattle.mama_laws_legal.proofs.InboxDeliveries.{stream, quiet, answer_stream, join_stream, reaction_stream}

few : (i : InboxId) (e : BridgeEvent) → IsFew (replied_to i e)
few i (replies j body) = few_if (same_inbox j i) body
few i _ = inl refl

abbrev inbox : Shape → InboxId → Kind BridgeEvent BridgePut InboxTerms (List FieldData) ReplyArrival
inbox shape i = record {
  object = Inbox i;
  said = inbox_terms_in i;
  ends = closes_inbox i;
  ending = has_ending shape;
  is_word = is_word;
  sent = λ es e. replied_to i e;
  out = λ terms ms. emitted cut_reply terms.faults (answering ms);
  goes = λ terms w ms. passed_on cut_reply terms.faults (answering w) (answering ms);
  left = λ terms w. rest terms.faults (answering w);
  queue = λ terms. terms.queue;
  make = λ terms. make.Inbox;
  item = λ slot a. replied_note slot i a;
  answer = answer shape;
  reaction = bridge_reaction shape;
  own = stream i;
  place = place_of (Inbox i);
  closes = λ es sofar. stream i (ended_inbox shape es sofar i);
  passes = λ es sofar e. stream i (passed_reply shape es sofar e i);
}

module _ (shape : Shape) (i : InboxId) where
  begins_no_word : (e : BridgeEvent) → opens_inbox i e ≡ true → is_word e ≡ false
  begins_no_word (opens r terms tag) h = refl
  begins_no_word _ h = absurd (both_ways false refl h)

  ends_no_word : (e : BridgeEvent) → closes_inbox i e ≡ true → is_word e ≡ false
  ends_no_word (closes r) h = refl
  ends_no_word _ h = absurd (both_ways false refl h)

  end_sends_none : (e : BridgeEvent) → closes_inbox i e ≡ true → replied_to i e ≡ []
  end_sends_none (closes r) h = refl
  end_sends_none _ h = absurd (both_ways false refl h)

  here : (sofar : List BridgePut) (f : List ReplyArrival) (k slot : ℕ) → place_of (Inbox i) sofar ≡ Some (k, slot) → stream i (replied i sofar f) ≡ map (λ a. (k, replied_note slot i a)) f
  here sofar f k slot at = items_here (Inbox i) (place_of (Inbox i) sofar) (λ slot a. replied_note slot i a) f (λ slot a. replied_of (Inbox i) slot i a ∙ same_inbox-itself i) k slot at

  creates : (es : List BridgeEvent) (sofar : List BridgePut) (e : BridgeEvent) (terms : InboxTerms) → inbox_terms_in i e ≡ Some terms → list_any (opens_inbox i) es ≡ false → IsCreate (inbox shape i) terms (stream i (answer shape es sofar e))
  creates es sofar (opens r t tag) terms said new = by_case (same_inbox r i) refl said
    where
      by_case : (b : Bool) → same_inbox r i ≡ b → cond b (Some t) None ≡ Some terms → IsCreate (inbox shape i) terms (stream i (answer shape es sofar (opens r t tag)))
      by_case true same is =
          subst (λ (u : InboxTerms). IsCreate (inbox shape i) u (stream i (answer shape es sofar (opens r t tag)))) (some_is t terms is)
          (record { slot = free_slot shape es sofar t.queue; tag = tag; is = ap (λ (u : InboxId). stream i (answer shape es sofar (opens u t tag))) (same_inbox-is r i same) ∙ join_stream shape i es sofar t tag new })
      by_case false other is = absurd (both_ways false refl (ap is_some is))
  creates es sofar _ terms said new = absurd (both_ways false refl (ap is_some said))

  is_kind : IsKind (inbox shape i)
  is_kind = record {
    ending_same = ending_same shape;
    ending_stays = λ es e. ending_stays shape es (e ∷ []);
    no_word_begins = begins_no_word;
    no_word_ends = ends_no_word;
    end_sends_none = λ es e h. end_sends_none e h;
    word_sends_none = λ es e h. quiet i e h;
    out_none = λ terms. refl;
    out_more = λ terms w es e.
        ap (emitted cut_reply terms.faults) (map-append (λ (body : List FieldData). Ok body) w (replied_to i e))
        ∙ emitted_few cut_reply terms.faults (answering w) (answering (replied_to i e)) (few_map (λ (body : List FieldData). Ok body) (replied_to i e) (few i e));
    goes_none = λ terms w. refl;
    own_append = stream-append (Inbox i);
    own_none = refl;
    placed = λ sofar terms slot tag more is. placed (Inbox i) sofar terms.queue slot make.Inbox tag (map (λ a. (terms.queue, replied_note slot i a)) more) is;
    answers = answer_stream shape i;
    creates = creates;
    reacts = reaction_stream shape i;
    closing = λ es sofar terms slot at said.
        stream-append (Inbox i) (replied i sofar (rest (inbox_faults_of (first_said (inbox_terms_in i) es)) (answering (reply_window shape i es)))) (gone (Inbox i) sofar)
        ∙ ap (λ (ws : List (ℕ × QueueNote)). ws ++ stream i (gone (Inbox i) sofar)) (here sofar (rest (inbox_faults_of (first_said (inbox_terms_in i) es)) (answering (reply_window shape i es))) terms.queue slot at)
        ∙ ap (λ (ws : List (ℕ × QueueNote)). map (λ a. (terms.queue, replied_note slot i a)) (rest (inbox_faults_of (first_said (inbox_terms_in i) es)) (answering (reply_window shape i es))) ++ ws) (gone_here (Inbox i) sofar terms.queue slot at)
        ∙ ap (λ (o : Option InboxTerms). map (λ a. (terms.queue, replied_note slot i a)) (rest (inbox_faults_of o) (answering (reply_window shape i es))) ++ (terms.queue, q.Gone slot (Inbox i)) ∷ []) said;
    passing = λ es sofar e terms slot at said.
        here sofar (passed_on cut_reply (inbox_faults_of (first_said (inbox_terms_in i) es)) (answering (reply_window shape i es)) (answering (replied_to i e))) terms.queue slot at
        ∙ ap (λ (o : Option InboxTerms). map (λ a. (terms.queue, replied_note slot i a)) (passed_on cut_reply (inbox_faults_of o) (answering (reply_window shape i es)) (answering (replied_to i e)))) said;
  }

pub inboxes_streams : InboxesGetTheirStreams
inboxes_streams shape journal i terms was dead said = stream_at_end (inbox shape i) (is_kind shape i) (heard shape journal) was.before was.after terms was.whole was.live dead said
