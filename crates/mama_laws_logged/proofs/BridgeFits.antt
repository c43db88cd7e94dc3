-- What the bridge puts names what clients joined and opened, its slots are small, and what it passes on is such as went into its links,
-- or a cut of that.
use Rattle.std.specs.Prelude.{◌≡◌, ℕ, ◌-◌, ◌^◌, ◌<◌, Bool, true, false, ◌&&◌, not, ◌==◌, position, List, [], ◌∷◌, Option, None, Some, is_some, slice_index, option_map, Ok, Err, if◌then◌else◌}
use Rattle.std.specs.List.{AllByRecursion, list_any}
use Rattle.std.specs.Option.{option_or}
use Rattle.std.proofs.Common.{refl, ap, subst, ◌∙◌}
use Rattle.std.proofs.lemmas.Bool.{and_parts}
use Rattle.mama_journal.specs.Journal.{puts, all_puts, first_said}
use Rattle.mama_msg.specs.Field.{FieldData}
use Rattle.mama_link.specs.Link.{rest}
use Rattle.mama_event.specs.Object.{same_sub, same_inbox, same_object}
use Rattle.mama_event.specs.EqualityLaws.{same_sub-Decides, same_inbox-Decides}
use Rattle.mama_event.specs.declared.ids.SubId.{SubId}
use Rattle.mama_event.specs.declared.ids.InboxId.{InboxId}
use Rattle.mama_event.specs.declared.ids.ObjectId.{ObjectId}
use Rattle.mama_event.specs.declared.ids.ObjectId.TheVariants.{Sub, Inbox}
use Rattle.mama_event.specs.declared.shape.Shape.{Shape}
use Rattle.mama_event.specs.declared.market.MarketMsg.{MarketMsg}
use Rattle.mama_event.specs.declared.market.MsgKind.TheVariants.{Initial, Recap}
use Rattle.mama_event.specs.declared.market.SubKind.{SubKind}
use Rattle.mama_event.specs.declared.market.SubKind.TheVariants.{Market, Snapshot, Basic}
use Rattle.mama_event.specs.declared.to_bridge.SubTerms.{SubTerms}
use Rattle.mama_event.specs.declared.to_bridge.InboxTerms.{InboxTerms}
use Rattle.mama_event.specs.Arrival.{Arrival, ReplyArrival, arriving, answering, cut_arrival, cut_reply}
use Rattle.mama_event.specs.Noted.{delivered_note, replied_note}
use Rattle.mama_event.specs.declared.to_queue.QueueNote.{QueueNote}
use Rattle.mama_event.specs.declared.to_queue.QueueNote.TheVariants as q
use Rattle.mama_event.specs.declared.to_publisher.PublisherNote.{PublisherNote}
use Rattle.mama_event.specs.declared.to_publisher.PublisherNote.TheVariants as p
use Rattle.mama_event.specs.declared.to_queue.Make.TheVariants as make
use Rattle.mama_event.specs.declared.shape.Strategy.{Strategy}
use Rattle.mama_rules_services.specs.Bridge.{BridgeEvent, joins, leaves, opens, closes, asks, publishes, images, replies, wishes, newly_joined, newly_opened, terms_in, inbox_terms_in, joins_sub, leaves_sub, opens_inbox, closes_inbox, is_live, is_open, live_subs, open_inboxes, sent_to, sent_with, window, faults_of, inbox_faults_of, reply_window, replied_to, is_settling, has_ending, free_slot, may_wish, BridgePut, to_publisher, to_queue, to_timers, created_by, created_in, place_of, to_place, to_found, to_first, wants_image, delivered, replied, gone, passed_on, passed, passed_reply, ended, ended_inbox, answer, bridge_reaction}
use Rattle.mama_log_line.specs.Names.{NamesData, terms_of, inbox_terms_of, made_by, make_of, IsSub, IsInbox}
use Rattle.mama_log_line.specs.Entering.{IsPublisherNote, IsLinked}
use Rattle.mama_laws_genuine.proofs.Elements.{all_append, all_if, all_flat_map, all_filter, all_map, all_weaker, all_puts_after, all_puts_so_far}
use Rattle.mama_laws_genuine.proofs.Reactions as reactions
use Rattle.mama_laws_genuine.proofs.Carried.{InEvent}
use Rattle.mama_laws_genuine.proofs.Linked.{all_passed_on, all_rest}
use Rattle.mama_laws_logged.proofs.Begun.{alive_says}
use Rattle.mama_laws_logged.proofs.Fits.{Names, Places, LinkPut, Any, AnyReply}

-- what is put where a test holds
pub all_where : {X : Type 0} (P : X → Type 0) (b : Bool) (xs : List X) → (b ≡ true → AllByRecursion P xs) → AllByRecursion P (if b then xs else [])
all_where P true xs all = all refl
all_where P false xs all = tt

module _ (A : Arrival → Type 0) (R : ReplyArrival → Type 0) (shape : Shape) where
  -- messages and replies that the bridge hears are such as may go into links
  abbrev pub Sends : BridgeEvent → Type 0
  Sends = InEvent (λ (m : MarketMsg). A (Ok m)) (λ (body : List FieldData). R (Ok body))

  abbrev Msg : MarketMsg → Type 0
  Msg m = A (Ok m)

  abbrev Body : List FieldData → Type 0
  Body body = R (Ok body)

  all_sent_to : (s : SubId) (topic : ℕ) (e : BridgeEvent) → Sends e → AllByRecursion Msg (sent_to shape s topic e)
  all_sent_to s topic (publishes n msg) h = all_if Msg (slice_index shape.publisher_topics n == topic) (msg ∷ []) [] (h, tt) tt
  all_sent_to s topic (images r msg) h = all_if Msg (same_sub r s) (msg ∷ []) [] (h, tt) tt
  all_sent_to s topic _ h = tt

  all_sent : (s : SubId) (terms : Option SubTerms) (e : BridgeEvent) → Sends e → AllByRecursion Msg (sent_with shape s terms e)
  all_sent s None e h = tt
  all_sent s (Some terms) e h = all_sent_to s terms.topic e h

  all_window : (s : SubId) (es : List BridgeEvent) → AllByRecursion Sends es → AllByRecursion Msg (window shape s es)
  all_window s es all =
      all_puts_after Sends Msg (λ (before : List BridgeEvent) (e : BridgeEvent). if is_live shape s before then sent_with shape s (first_said (terms_in s) before) e else [])
      (λ before e h. all_if Msg (is_live shape s before) (sent_with shape s (first_said (terms_in s) before) e) [] (all_sent s (first_said (terms_in s) before) e h) tt)
      [] es all

  all_replied_to : (i : InboxId) (e : BridgeEvent) → Sends e → AllByRecursion Body (replied_to i e)
  all_replied_to i (replies j body) h = all_if Body (same_inbox j i) (body ∷ []) [] (h, tt) tt
  all_replied_to i _ h = tt

  all_reply_window : (i : InboxId) (es : List BridgeEvent) → AllByRecursion Sends es → AllByRecursion Body (reply_window shape i es)
  all_reply_window i es all =
      all_puts_after Sends Body (λ (before : List BridgeEvent) (e : BridgeEvent). if is_open shape i before then replied_to i e else [])
      (λ before e h. all_if Body (is_open shape i before) (replied_to i e) [] (all_replied_to i e h) tt) [] es all

  all_arriving : (msgs : List MarketMsg) → AllByRecursion Msg msgs → AllByRecursion A (arriving msgs)
  all_arriving msgs all = all_map Msg A (λ (m : MarketMsg). Ok m) (λ m h. h) msgs all

  all_answering : (bodies : List (List FieldData)) → AllByRecursion Body bodies → AllByRecursion R (answering bodies)
  all_answering bodies all = all_map Body R (λ (body : List FieldData). Ok body) (λ body h. h) bodies all

-- where anything may go into links
pub any_sends : (shape : Shape) (e : BridgeEvent) → Sends Any AnyReply shape e
any_sends shape (publishes n msg) = tt
any_sends shape _ = tt

module _ (names : NamesData) (shape : Shape) (alike : names.shape.strategy ≡ shape.strategy)
    (small : (before : List BridgeEvent) (sofar : List BridgePut) (queue : ℕ) → AllByRecursion (Names names) before → free_slot shape before sofar queue < 2 ^ 32)
    (A : Arrival → Type 0) (A_cut : (keep : ℕ) (a : Arrival) → A a → A (cut_arrival keep a))
    (R : ReplyArrival → Type 0) (R_cut : (keep : ℕ) (a : ReplyArrival) → R a → R (cut_reply keep a)) where
  abbrev Fits : BridgePut → Type 0
  Fits = LinkPut names A R

  abbrev Heard : BridgeEvent → Type 0
  Heard e = Names names e × Sends A R shape e

  all_named : (es : List BridgeEvent) → AllByRecursion Heard es → AllByRecursion (Names names) es
  all_named es all = all_weaker Heard (Names names) (λ e h. h.0) es all

  all_sends : (es : List BridgeEvent) → AllByRecursion Heard es → AllByRecursion (Sends A R shape) es
  all_sends es all = all_weaker Heard (Sends A R shape) (λ e h. h.1) es all

  -- ---- what was joined and opened

  if_sub : (r s : SubId) (terms : SubTerms) → IsSub names r → is_some (if same_sub r s then Some terms else None) ≡ true → IsSub names s
  if_sub r s terms known h = by_case (same_sub r s) refl h
    where
      by_case : (c : Bool) → same_sub r s ≡ c → is_some (if c then Some terms else None) ≡ true → IsSub names s
      by_case true same h = subst (IsSub names) ((same_sub-Decides r s).0 same) known
      by_case false other h = absurd cc

  joins_known : (s : SubId) (e : BridgeEvent) → Names names e → joins_sub s e ≡ true → IsSub names s
  joins_known s (joins r terms tag) known h = if_sub r s terms known.0 h
  joins_known s _ known h = absurd cc

  live_known : (s : SubId) (es : List BridgeEvent) → AllByRecursion (Names names) es → is_live shape s es ≡ true → IsSub names s
  live_known s es all live = alive_says (Names names) (IsSub names s) (joins_sub s) (leaves_sub s) (has_ending shape) (joins_known s) es all live

  if_inbox : (j i : InboxId) (terms : InboxTerms) → IsInbox names j → is_some (if same_inbox j i then Some terms else None) ≡ true → IsInbox names i
  if_inbox j i terms known h = by_case (same_inbox j i) refl h
    where
      by_case : (c : Bool) → same_inbox j i ≡ c → is_some (if c then Some terms else None) ≡ true → IsInbox names i
      by_case true same h = subst (IsInbox names) ((same_inbox-Decides j i).0 same) known
      by_case false other h = absurd cc

  opens_known : (i : InboxId) (e : BridgeEvent) → Names names e → opens_inbox i e ≡ true → IsInbox names i
  opens_known i (opens j terms tag) known h = if_inbox j i terms known.0 h
  opens_known i _ known h = absurd cc

  open_known : (i : InboxId) (es : List BridgeEvent) → AllByRecursion (Names names) es → is_open shape i es ≡ true → IsInbox names i
  open_known i es all live = alive_says (Names names) (IsInbox names i) (opens_inbox i) (closes_inbox i) (has_ending shape) (opens_known i) es all live

  newly_known : (before : List BridgeEvent) (e : BridgeEvent) → Names names e → AllByRecursion (IsSub names) (newly_joined before e)
  newly_known before (joins s terms tag) known = all_if (IsSub names) (list_any (joins_sub s) before) [] (s ∷ []) tt (known.0, tt)
  newly_known before _ known = tt

  live_subs_known : (es : List BridgeEvent) → AllByRecursion (Names names) es → AllByRecursion (IsSub names) (live_subs shape es)
  live_subs_known es all =
      all_filter (IsSub names) (λ (s : SubId). is_live shape s es) (puts newly_joined es)
      (all_puts_after (Names names) (IsSub names) newly_joined newly_known [] es all)

  newly_opened_known : (before : List BridgeEvent) (e : BridgeEvent) → Names names e → AllByRecursion (IsInbox names) (newly_opened before e)
  newly_opened_known before (opens i terms tag) known = all_if (IsInbox names) (list_any (opens_inbox i) before) [] (i ∷ []) tt (known.0, tt)
  newly_opened_known before _ known = tt

  open_inboxes_known : (es : List BridgeEvent) → AllByRecursion (Names names) es → AllByRecursion (IsInbox names) (open_inboxes shape es)
  open_inboxes_known es all =
      all_filter (IsInbox names) (λ (i : InboxId). is_open shape i es) (puts newly_opened es)
      (all_puts_after (Names names) (IsInbox names) newly_opened newly_opened_known [] es all)

  -- ---- slots

  abbrev IsSmallPlace : Option (ℕ × ℕ) → Type 0
  IsSmallPlace None = Unit {0}
  IsSmallPlace (Some place) = place.1 < 2 ^ 32

  small_or : (one two : Option (ℕ × ℕ)) → IsSmallPlace one → IsSmallPlace two → IsSmallPlace (option_or one two)
  small_or None two h k = k
  small_or (Some place) two h k = h

  small_if : (c : Bool) (place : ℕ × ℕ) → place.1 < 2 ^ 32 → IsSmallPlace (if c then Some place else None)
  small_if true place h = h
  small_if false place h = tt

  note_small : (o : ObjectId) (queue : ℕ) (note : QueueNote) → Places names A R note → IsSmallPlace (created_by o queue note)
  note_small o queue (q.Create slot object how tag) h = small_if (same_object object o) (queue, slot) h.0
  note_small o queue _ h = tt

  created_small : (o : ObjectId) (put : BridgePut) → Fits put → IsSmallPlace (created_in o put)
  created_small o (to_publisher n note) h = tt
  created_small o (to_queue queue note) h = note_small o queue note h
  created_small o (to_timers note) h = tt

  place_small : (o : ObjectId) (sofar : List BridgePut) → AllByRecursion Fits sofar → IsSmallPlace (place_of o sofar)
  place_small o [] all = tt
  place_small o (put ∷ sofar) all = small_or (created_in o put) (first_said (created_in o) sofar) (created_small o put all.0) (place_small o sofar all.1)

  -- ---- what the bridge puts

  placed : (place : Option (ℕ × ℕ)) → IsSmallPlace place → (event : ℕ → QueueNote) → ((slot : ℕ) → slot < 2 ^ 32 → Places names A R (event slot))
      → AllByRecursion Fits (to_place place event)
  placed None h event each = tt
  placed (Some place) h event each = (each place.1 h, tt)

  all_found : (found : Option ℕ) (note : PublisherNote) → IsPublisherNote names note → AllByRecursion Fits (to_found found note)
  all_found None note h = tt
  all_found (Some n) note h = (h, tt)

  all_first : (topic : ℕ) (note : PublisherNote) → IsPublisherNote names note → AllByRecursion Fits (to_first shape topic note)
  all_first topic note h = all_found (position (λ n. n == topic) shape.publisher_topics) note h

  all_wanted : (s : SubId) (kind : SubKind) (topic : ℕ) → IsSub names s → AllByRecursion Fits (wants_image shape s kind topic)
  all_wanted s Basic topic known = tt
  all_wanted s Market topic known = all_first topic (p.Want s Initial) (known, tt)
  all_wanted s Snapshot topic known = all_first topic (p.Want s Initial) (known, tt)

  made_so : (s : SubId) (terms : SubTerms) → terms_of names s ≡ Some terms → make_of names (Sub s) ≡ Some (make.Sub terms.kind terms.cache shape.strategy)
  made_so s terms is = ap (option_map (made_by names.shape.strategy)) is ∙ ap (λ (strategy : Strategy). Some (make.Sub terms.kind terms.cache strategy)) alike

  opened_so : (i : InboxId) (terms : InboxTerms) → inbox_terms_of names i ≡ Some terms → make_of names (Inbox i) ≡ Some make.Inbox
  opened_so i terms is = ap (option_map (λ (t : InboxTerms). make.Inbox)) is

  module _ (before : List BridgeEvent) (sofar : List BridgePut) (heard : AllByRecursion Heard before) (so : AllByRecursion Fits sofar) where
    all : AllByRecursion (Names names) before
    all = all_named before heard

    one_delivered : (s : SubId) → IsSub names s → (a : Arrival) → A a → AllByRecursion Fits (to_place (place_of (Sub s) sofar) (λ slot. delivered_note slot s a))
    one_delivered s known (Ok m) h = placed (place_of (Sub s) sofar) (place_small (Sub s) sofar so) (λ slot. q.Deliver slot s m) (λ slot low. (low, known, h))
    one_delivered s known (Err p) h = placed (place_of (Sub s) sofar) (place_small (Sub s) sofar so) (λ slot. q.Bad slot s p.kind p.sender p.seq p.body) (λ slot low. (low, known, h))

    all_delivered : (s : SubId) → IsSub names s → (arrivals : List Arrival) → AllByRecursion A arrivals → AllByRecursion Fits (delivered s sofar arrivals)
    all_delivered s known arrivals come =
        all_flat_map A Fits (λ (a : Arrival). to_place (place_of (Sub s) sofar) (λ slot. delivered_note slot s a)) (one_delivered s known) arrivals come

    one_replied : (i : InboxId) → IsInbox names i → (a : ReplyArrival) → R a → AllByRecursion Fits (to_place (place_of (Inbox i) sofar) (λ slot. replied_note slot i a))
    one_replied i known (Ok body) h = placed (place_of (Inbox i) sofar) (place_small (Inbox i) sofar so) (λ slot. q.Reply slot i body) (λ slot low. (low, known, h))
    one_replied i known (Err bytes) h = placed (place_of (Inbox i) sofar) (place_small (Inbox i) sofar so) (λ slot. q.BadReply slot i bytes) (λ slot low. (low, known, h))

    all_replied : (i : InboxId) → IsInbox names i → (arrivals : List ReplyArrival) → AllByRecursion R arrivals → AllByRecursion Fits (replied i sofar arrivals)
    all_replied i known arrivals come =
        all_flat_map R Fits (λ (a : ReplyArrival). to_place (place_of (Inbox i) sofar) (λ slot. replied_note slot i a)) (one_replied i known) arrivals come

    arriving_window : (s : SubId) → AllByRecursion A (arriving (window shape s before))
    arriving_window s = all_arriving A R shape (window shape s before) (all_window A R shape s before (all_sends before heard))

    answering_window : (i : InboxId) → AllByRecursion R (answering (reply_window shape i before))
    answering_window i = all_answering A R shape (reply_window shape i before) (all_reply_window A R shape i before (all_sends before heard))

    all_gone : (o : ObjectId) → IsLinked names o → AllByRecursion Fits (gone o sofar)
    all_gone o known = placed (place_of o sofar) (place_small o sofar so) (λ slot. q.Gone slot o) (λ slot low. (low, known))

    all_passed : (e : BridgeEvent) → Sends A R shape e → (s : SubId) → IsSub names s → AllByRecursion Fits (passed shape before sofar e s)
    all_passed e sends s known =
        let terms : Option SubTerms = first_said (terms_in s) before in
        all_delivered s known (passed_on cut_arrival (faults_of terms) (arriving (window shape s before)) (arriving (sent_with shape s terms e)))
        (all_passed_on A cut_arrival A_cut (faults_of terms) (arriving (window shape s before)) (arriving (sent_with shape s terms e))
        (arriving_window s) (all_arriving A R shape (sent_with shape s terms e) (all_sent A R shape s terms e sends)))

    all_passed_reply : (e : BridgeEvent) → Sends A R shape e → (i : InboxId) → IsInbox names i → AllByRecursion Fits (passed_reply shape before sofar e i)
    all_passed_reply e sends i known =
        let faults = inbox_faults_of (first_said (inbox_terms_in i) before) in
        all_replied i known (passed_on cut_reply faults (answering (reply_window shape i before)) (answering (replied_to i e)))
        (all_passed_on R cut_reply R_cut faults (answering (reply_window shape i before)) (answering (replied_to i e))
        (answering_window i) (all_answering A R shape (replied_to i e) (all_replied_to A R shape i e sends)))

    all_ended : (s : SubId) → IsSub names s → AllByRecursion Fits (ended shape before sofar s)
    all_ended s known =
        let faults = faults_of (first_said (terms_in s) before) in
        let arrivals : List Arrival = rest faults (arriving (window shape s before)) in
        all_append Fits (delivered s sofar arrivals) (gone (Sub s) sofar)
        (all_delivered s known arrivals (all_rest A cut_arrival A_cut faults (arriving (window shape s before)) (arriving_window s)))
        (all_gone (Sub s) known)

    all_ended_inbox : (i : InboxId) → IsInbox names i → AllByRecursion Fits (ended_inbox shape before sofar i)
    all_ended_inbox i known =
        let faults = inbox_faults_of (first_said (inbox_terms_in i) before) in
        let arrivals : List ReplyArrival = rest faults (answering (reply_window shape i before)) in
        all_append Fits (replied i sofar arrivals) (gone (Inbox i) sofar)
        (all_replied i known arrivals (all_rest R cut_reply R_cut faults (answering (reply_window shape i before)) (answering_window i)))
        (all_gone (Inbox i) known)

    all_answered : (e : BridgeEvent) → Heard e → AllByRecursion Fits (answer shape before sofar e)
    all_answered (joins s terms tag) h =
        all_if Fits (list_any (joins_sub s) before) []
        (to_queue terms.queue (q.Create (free_slot shape before sofar terms.queue) (Sub s) (make.Sub terms.kind terms.cache shape.strategy) tag) ∷ wants_image shape s terms.kind terms.topic)
        tt ((small before sofar terms.queue all, h.0.0, made_so s terms h.0.1, h.0.2), all_wanted s terms.kind terms.topic h.0.0)
    all_answered (leaves s) h = all_where Fits (is_live shape s before) (ended shape before sofar s) (λ live. all_ended s (live_known s before all live))
    all_answered (opens i terms tag) h =
        all_if Fits (list_any (opens_inbox i) before) []
        (to_queue terms.queue (q.Create (free_slot shape before sofar terms.queue) (Inbox i) make.Inbox tag) ∷ [])
        tt ((small before sofar terms.queue all, h.0.0, opened_so i terms h.0.1, h.0.2), tt)
    all_answered (closes i) h = all_where Fits (is_open shape i before) (ended_inbox shape before sofar i) (λ live. all_ended_inbox i (open_known i before all live))
    all_answered (asks i topic fids) h =
        all_if Fits (is_open shape i before && not (is_settling shape before)) (to_first shape topic (p.Ask i fids)) [] (all_first topic (p.Ask i fids) h.0) tt
    all_answered (publishes n msg) h =
        all_flat_map (IsSub names) Fits (passed shape before sofar (publishes n msg)) (all_passed (publishes n msg) h.1)
        (live_subs shape before) (live_subs_known before all)
    all_answered (images s msg) h =
        all_where Fits (is_live shape s before) (passed shape before sofar (images s msg) s) (λ live. all_passed (images s msg) h.1 s (live_known s before all live))
    all_answered (replies i body) h =
        all_where Fits (is_open shape i before) (passed_reply shape before sofar (replies i body) i)
        (λ live. all_passed_reply (replies i body) h.1 i (open_known i before all live))
    all_answered (wishes s sender) h =
        all_where Fits (is_live shape s before && may_wish shape before sofar s sender (first_said (terms_in s) before)) (to_publisher (sender - 1) (p.Want s Recap) ∷ [])
        (λ may. ((live_known s before all (and_parts (is_live shape s before) (may_wish shape before sofar s sender (first_said (terms_in s) before)) may).0, tt), tt))
    all_answered _ h = tt

    all_reaction : (e : BridgeEvent) → Heard e → AllByRecursion Fits (bridge_reaction shape before sofar e)
    all_reaction e h =
        reactions.all_reaction Fits (record { settle = λ n. tt; publisher = λ n. tt; queue = λ k. tt; timers = tt }) shape before sofar e
        (all_flat_map (IsSub names) Fits (ended shape before sofar) all_ended (live_subs shape before) (live_subs_known before all))
        (all_flat_map (IsInbox names) Fits (ended_inbox shape before sofar) all_ended_inbox (open_inboxes shape before) (open_inboxes_known before all))
        (all_answered e h)

  -- all that the bridge puts
  pub bridge_fits : (es : List BridgeEvent) → AllByRecursion Heard es → AllByRecursion Fits (all_puts (bridge_reaction shape) es)
  bridge_fits es all = all_puts_so_far Heard Fits (bridge_reaction shape) (λ before sofar e so puts h. all_reaction before sofar so puts e h) [] [] es tt tt all
