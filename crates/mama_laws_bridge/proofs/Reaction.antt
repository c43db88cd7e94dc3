-- A table that is tied to what was heard puts what the rules say.
use Rattle.std.specs.Prelude.{◌-◌}
use Rattle.std.specs.List.{flat_map}
use Rattle.std.proofs.Common.{◌≡◌, ℕ, Bool, true, false, not, ◌&&◌, cond, List, [], ◌∷◌, ◌++◌, map, filter, Option, Some, refl, sym, ◌∙◌, ap, append-nil}
use Rattle.std.proofs.lemmas.List.Concat.{flat_map-append, flat_map_single}
use Rattle.mama_msg.specs.Field.{FieldData}
use Rattle.mama_journal.specs.Journal.{turns, count_of, first_said, numbers_below, least_free}
use Rattle.mama_link.specs.Link.{rest}
use Rattle.mama_event.specs.declared.ids.SubId.{SubId}
use Rattle.mama_event.specs.declared.ids.InboxId.{InboxId}
use Rattle.mama_event.specs.declared.ids.ObjectId.{ObjectId}
use Rattle.mama_event.specs.declared.ids.ObjectId.TheVariants.{Sub, Inbox}
use Rattle.mama_event.specs.declared.market.MarketMsg.{MarketMsg}
use Rattle.mama_event.specs.declared.market.MsgKind.TheVariants.{Recap}
use Rattle.mama_event.specs.declared.to_bridge.SubTerms.{SubTerms}
use Rattle.mama_event.specs.declared.to_bridge.InboxTerms.{InboxTerms}
use Rattle.mama_event.specs.declared.shape.Shape.{Shape}
use Rattle.mama_event.specs.declared.to_publisher.PublisherNote.TheVariants as p
use Rattle.mama_event.specs.declared.to_timers.TimersNote.TheVariants as t
use Rattle.mama_event.specs.declared.to_queue.QueueNote.TheVariants as q
use Rattle.mama_event.specs.Ports.{publishers_of, queues_of}
use Rattle.mama_event.specs.Object.{same_sub, same_inbox}
use Rattle.mama_event.specs.Arrival.{Arrival, ReplyArrival, arriving, answering, cut_arrival, cut_reply}
use Rattle.mama_event.specs.Noted.{delivered_note, replied_note}
use Rattle.mama_rules_services.specs.Bridge.{BridgeEvent, joins, leaves, opens, closes, asks, publishes, images, replies, wishes, client_done, sends_done, settled, bye, no_event, terms_in, joins_sub, opens_inbox, leaves_sub, closes_inbox, is_settling, has_ending, is_live, is_open, newly_joined, newly_opened, live_subs, open_inboxes, window, reply_window, sent_with, sent_to, replied_to, faults_of, inbox_faults_of, BridgePut, to_publisher, to_queue, to_timers, place_of, to_place, slot_on, live_objects, free_slot, delivered, replied, passed, passed_reply, passed_on, ended, ended_inbox, gone, is_recap_want, may_wish, answer, settle_begins, ending_comes, bridge_reaction}
use Rattle.mama_laws_bridge.specs.Table.{SubRow, InboxRow, Table, table_next, of_sub, of_inbox, settling_now, ended_now, begins_settling, begins_ending, sub_slots, inbox_slots, slot_for, is_on_topic_of, sub_delivered, inbox_replied, sub_emits, inbox_emits, sub_ends, inbox_ends, sub_wishes, settles_all, ends_all, closing, table_puts}
use Rattle.mama_laws_bridge.proofs.Lists.{Each, each_weaker, flat_map_each, flat_map-map}
use Rattle.mama_laws_bridge.proofs.Live.{counted_next, settling_is, ended_is}
use Rattle.mama_laws_bridge.proofs.OneKind.{Apart, living_apart, one_of}
use Rattle.mama_laws_bridge.proofs.Ties.{SubTells, InboxTells, Ties, sub_made, inbox_made, subs_kind, inboxes_kind, joined_is, opened_is, live_is, open_is}

-- ---- what is put for one row

delivered_at : (s : SubId) (arrivals : List Arrival) (place : Option (ℕ × ℕ)) (queue slot : ℕ) → place ≡ Some (queue, slot)
    → flat_map (λ a. to_place place (λ n. delivered_note n s a)) arrivals ≡ map (λ a. to_queue queue (delivered_note slot s a)) arrivals
delivered_at s arrivals place queue slot h =
    ap (λ (pl : Option (ℕ × ℕ)). flat_map (λ a. to_place pl (λ n. delivered_note n s a)) arrivals) h
    ∙ flat_map_single (λ a. to_queue queue (delivered_note slot s a)) arrivals

replied_at : (i : InboxId) (arrivals : List ReplyArrival) (place : Option (ℕ × ℕ)) (queue slot : ℕ) → place ≡ Some (queue, slot)
    → flat_map (λ a. to_place place (λ n. replied_note n i a)) arrivals ≡ map (λ a. to_queue queue (replied_note slot i a)) arrivals
replied_at i arrivals place queue slot h =
    ap (λ (pl : Option (ℕ × ℕ)). flat_map (λ a. to_place pl (λ n. replied_note n i a)) arrivals) h
    ∙ flat_map_single (λ a. to_queue queue (replied_note slot i a)) arrivals

gone_at : (o : ObjectId) (place : Option (ℕ × ℕ)) (queue slot : ℕ) → place ≡ Some (queue, slot) → to_place place (λ n. q.Gone n o) ≡ to_queue queue (q.Gone slot o) ∷ []
gone_at o place queue slot h = rw h refl

sub_ended : (shape : Shape) (es : List BridgeEvent) (sofar : List BridgePut) (row : SubRow) → SubTells shape es sofar row → sub_ends row ≡ ended shape es sofar row.sub
sub_ended shape es sofar row h = sym (
    ap (λ (o : Option SubTerms). delivered row.sub sofar (rest (faults_of o) (arriving (window shape row.sub es))) ++ gone (Sub row.sub) sofar) h.terms
    ∙ ap (λ (x : List MarketMsg). delivered row.sub sofar (rest row.terms.faults (arriving x)) ++ gone (Sub row.sub) sofar) h.sent
    ∙ ap (λ (ys : List BridgePut). ys ++ gone (Sub row.sub) sofar) (delivered_at row.sub (rest row.terms.faults (arriving row.sent)) (place_of (Sub row.sub) sofar) row.terms.queue row.slot h.place)
    ∙ ap (λ (ys : List BridgePut). sub_delivered row (rest row.terms.faults (arriving row.sent)) ++ ys) (gone_at (Sub row.sub) (place_of (Sub row.sub) sofar) row.terms.queue row.slot h.place))

inbox_ended : (shape : Shape) (es : List BridgeEvent) (sofar : List BridgePut) (row : InboxRow) → InboxTells shape es sofar row → inbox_ends row ≡ ended_inbox shape es sofar row.inbox
inbox_ended shape es sofar row h = sym (
    ap (λ (o : Option InboxTerms). replied row.inbox sofar (rest (inbox_faults_of o) (answering (reply_window shape row.inbox es))) ++ gone (Inbox row.inbox) sofar) h.terms
    ∙ ap (λ (x : List (List FieldData)). replied row.inbox sofar (rest row.terms.faults (answering x)) ++ gone (Inbox row.inbox) sofar) h.sent
    ∙ ap (λ (ys : List BridgePut). ys ++ gone (Inbox row.inbox) sofar) (replied_at row.inbox (rest row.terms.faults (answering row.sent)) (place_of (Inbox row.inbox) sofar) row.terms.queue row.slot h.place)
    ∙ ap (λ (ys : List BridgePut). inbox_replied row (rest row.terms.faults (answering row.sent)) ++ ys) (gone_at (Inbox row.inbox) (place_of (Inbox row.inbox) sofar) row.terms.queue row.slot h.place))

-- what goes into a row's link
sub_sent : (shape : Shape) (es : List BridgeEvent) (sofar : List BridgePut) (row : SubRow) (e : BridgeEvent) → SubTells shape es sofar row
    → passed shape es sofar e row.sub ≡ sub_delivered row (passed_on cut_arrival row.terms.faults (arriving row.sent) (arriving (sent_to shape row.sub row.terms.topic e)))
sub_sent shape es sofar row e h =
    ap (λ (o : Option SubTerms). delivered row.sub sofar (passed_on cut_arrival (faults_of o) (arriving (window shape row.sub es)) (arriving (sent_with shape row.sub o e)))) h.terms
    ∙ ap (λ (x : List MarketMsg). delivered row.sub sofar (passed_on cut_arrival row.terms.faults (arriving x) (arriving (sent_to shape row.sub row.terms.topic e)))) h.sent
    ∙ delivered_at row.sub (passed_on cut_arrival row.terms.faults (arriving row.sent) (arriving (sent_to shape row.sub row.terms.topic e))) (place_of (Sub row.sub) sofar) row.terms.queue row.slot h.place

inbox_sent : (shape : Shape) (es : List BridgeEvent) (sofar : List BridgePut) (row : InboxRow) (e : BridgeEvent) → InboxTells shape es sofar row
    → passed_reply shape es sofar e row.inbox ≡ inbox_replied row (passed_on cut_reply row.terms.faults (answering row.sent) (answering (replied_to row.inbox e)))
inbox_sent shape es sofar row e h =
    ap (λ (o : Option InboxTerms). replied row.inbox sofar (passed_on cut_reply (inbox_faults_of o) (answering (reply_window shape row.inbox es)) (answering (replied_to row.inbox e)))) h.terms
    ∙ ap (λ (x : List (List FieldData)). replied row.inbox sofar (passed_on cut_reply row.terms.faults (answering x) (answering (replied_to row.inbox e)))) h.sent
    ∙ replied_at row.inbox (passed_on cut_reply row.terms.faults (answering row.sent) (answering (replied_to row.inbox e))) (place_of (Inbox row.inbox) sofar) row.terms.queue row.slot h.place

-- ---- lists of rows

-- what passes a test puts, and nothing else does
chosen : {R P : Type 0} (test : R → Bool) (f g : R → List P) (rows : List R) → Each (λ row. g row ≡ cond (test row) (f row) []) rows → flat_map g rows ≡ flat_map f (filter test rows)
chosen test f g [] h = refl
chosen test f g (row ∷ rows) h = at (test row) h.0 (chosen test f g rows h.1)
  where
    at : (b : Bool) → g row ≡ cond b (f row) [] → flat_map g rows ≡ flat_map f (filter test rows) → g row ++ flat_map g rows ≡ flat_map f (cond b (row ∷ filter test rows) (filter test rows))
    at true e ih = rw (e, ih) refl
    at false e ih = rw (e, ih) refl

module _ (shape : Shape) (es : List BridgeEvent) (sofar : List BridgePut) (table : Table) (ties : Ties shape es sofar table) where
  pub subs_apart : Apart same_sub newly_joined joins_sub leaves_sub sub_made subs_kind (map (λ (row : SubRow). row.sub) table.subs)
  subs_apart = rw ties.subs (living_apart same_sub newly_joined joins_sub leaves_sub sub_made subs_kind es (has_ending shape es))

  pub inboxes_apart : Apart same_inbox newly_opened opens_inbox closes_inbox inbox_made inboxes_kind (map (λ (row : InboxRow). row.inbox) table.inboxes)
  inboxes_apart = rw ties.inboxes (living_apart same_inbox newly_opened opens_inbox closes_inbox inbox_made inboxes_kind es (has_ending shape es))

  -- what is put for a subscription, if it is live
  for_sub : (s : SubId) (f : SubRow → List BridgePut) (g : SubId → List BridgePut) → Each (λ row. f row ≡ g row.sub) table.subs
      → cond (is_live shape s es) (g s) [] ≡ flat_map f (filter (of_sub s) table.subs)
  for_sub s f g h =
      ap (λ b. cond b (g s) []) (live_is shape es sofar table ties s)
      ∙ sym (one_of same_sub newly_joined joins_sub leaves_sub sub_made subs_kind (λ (row : SubRow). row.sub) f g s table.subs subs_apart h)

  for_inbox : (i : InboxId) (f : InboxRow → List BridgePut) (g : InboxId → List BridgePut) → Each (λ row. f row ≡ g row.inbox) table.inboxes
      → cond (is_open shape i es) (g i) [] ≡ flat_map f (filter (of_inbox i) table.inboxes)
  for_inbox i f g h =
      ap (λ b. cond b (g i) []) (open_is shape es sofar table ties i)
      ∙ sym (one_of same_inbox newly_opened opens_inbox closes_inbox inbox_made inboxes_kind (λ (row : InboxRow). row.inbox) f g i table.inboxes inboxes_apart h)

  all_subs : (f : SubRow → List BridgePut) (g : SubId → List BridgePut) → Each (λ row. f row ≡ g row.sub) table.subs → flat_map g (live_subs shape es) ≡ flat_map f table.subs
  all_subs f g h = sym (ap (flat_map g) ties.subs) ∙ flat_map-map g (λ (row : SubRow). row.sub) table.subs ∙ sym (flat_map_each f (λ row. g row.sub) table.subs h)

  all_inboxes : (f : InboxRow → List BridgePut) (g : InboxId → List BridgePut) → Each (λ row. f row ≡ g row.inbox) table.inboxes → flat_map g (open_inboxes shape es) ≡ flat_map f table.inboxes
  all_inboxes f g h = sym (ap (flat_map g) ties.inboxes) ∙ flat_map-map g (λ (row : InboxRow). row.inbox) table.inboxes ∙ sym (flat_map_each f (λ row. g row.inbox) table.inboxes h)

  -- ---- slots

  slots_same : (queue : ℕ) → flat_map (λ (o : ObjectId). slot_on queue (place_of o sofar)) (live_objects shape es) ≡ sub_slots queue table.subs ++ inbox_slots queue table.inboxes
  slots_same queue =
      let on : ObjectId → List ℕ = λ (o : ObjectId). slot_on queue (place_of o sofar) in
      let subs : flat_map on (map (λ s. Sub s) (live_subs shape es)) ≡ sub_slots queue table.subs =
      flat_map-map on (λ s. Sub s) (live_subs shape es)
      ∙ sym (ap (flat_map (λ (s : SubId). on (Sub s))) ties.subs)
      ∙ flat_map-map (λ (s : SubId). on (Sub s)) (λ (row : SubRow). row.sub) table.subs
      ∙ flat_map_each (λ (row : SubRow). on (Sub row.sub)) (λ (row : SubRow). slot_on queue (Some (row.terms.queue, row.slot))) table.subs
      (each_weaker (SubTells shape es sofar) (λ (row : SubRow). on (Sub row.sub) ≡ slot_on queue (Some (row.terms.queue, row.slot))) table.subs (λ row h. ap (λ (pl : Option (ℕ × ℕ)). slot_on queue pl) h.place) ties.sub_rows) in
      let inboxes : flat_map on (map (λ i. Inbox i) (open_inboxes shape es)) ≡ inbox_slots queue table.inboxes =
      flat_map-map on (λ i. Inbox i) (open_inboxes shape es)
      ∙ sym (ap (flat_map (λ (i : InboxId). on (Inbox i))) ties.inboxes)
      ∙ flat_map-map (λ (i : InboxId). on (Inbox i)) (λ (row : InboxRow). row.inbox) table.inboxes
      ∙ flat_map_each (λ (row : InboxRow). on (Inbox row.inbox)) (λ (row : InboxRow). slot_on queue (Some (row.terms.queue, row.slot))) table.inboxes
      (each_weaker (InboxTells shape es sofar) (λ (row : InboxRow). on (Inbox row.inbox) ≡ slot_on queue (Some (row.terms.queue, row.slot))) table.inboxes (λ row h. ap (λ (pl : Option (ℕ × ℕ)). slot_on queue pl) h.place) ties.inbox_rows) in
      flat_map-append on (map (λ s. Sub s) (live_subs shape es)) (map (λ i. Inbox i) (open_inboxes shape es)) ∙ rw (subs, inboxes) refl

  pub slot_same : (queue : ℕ) → free_slot shape es sofar queue ≡ slot_for queue table
  slot_same queue = ap least_free (slots_same queue)

  -- ---- when settling begins and when the ending comes

  pub settling_turns : (e : BridgeEvent) → turns (is_settling shape) es e ≡ begins_settling table e
  settling_turns e =
      let after = settling_is shape (es ++ e ∷ []) (table_next shape table e) (counted_next shape es table e ties.counted) in
      let before = settling_is shape es table ties.counted in
      rw (after, before) refl

  pub ending_turns : (e : BridgeEvent) → turns (has_ending shape) es e ≡ begins_ending table e
  ending_turns e =
      let after = ended_is shape (es ++ e ∷ []) (table_next shape table e) (counted_next shape es table e ties.counted) in
      let before = ended_is shape es table ties.counted in
      rw (after, before) refl

  ends_same : flat_map (ended shape es sofar) (live_subs shape es) ++ flat_map (ended_inbox shape es sofar) (open_inboxes shape es)
      ++ to_timers t.Fin ∷ [] ++ map (λ k. to_queue k q.Fin) (numbers_below (queues_of shape)) ++ map (λ r. to_publisher r p.Fin) (numbers_below (publishers_of shape)) ≡ ends_all shape table
  ends_same =
      let subs : flat_map (ended shape es sofar) (live_subs shape es) ≡ flat_map sub_ends table.subs =
      all_subs sub_ends (ended shape es sofar) (each_weaker (SubTells shape es sofar) (λ (row : SubRow). sub_ends row ≡ ended shape es sofar row.sub) table.subs (sub_ended shape es sofar) ties.sub_rows) in
      let inboxes : flat_map (ended_inbox shape es sofar) (open_inboxes shape es) ≡ flat_map inbox_ends table.inboxes =
      all_inboxes inbox_ends (ended_inbox shape es sofar) (each_weaker (InboxTells shape es sofar) (λ (row : InboxRow). inbox_ends row ≡ ended_inbox shape es sofar row.inbox) table.inboxes (inbox_ended shape es sofar) ties.inbox_rows) in
      rw (subs, inboxes) refl

  closes_same : (e : BridgeEvent) → settle_begins shape es e ++ ending_comes shape es sofar e ≡ closing shape table e
  closes_same e =
      let ends : List BridgePut = flat_map (ended shape es sofar) (live_subs shape es) ++ flat_map (ended_inbox shape es sofar) (open_inboxes shape es)
      ++ to_timers t.Fin ∷ [] ++ map (λ k. to_queue k q.Fin) (numbers_below (queues_of shape)) ++ map (λ r. to_publisher r p.Fin) (numbers_below (publishers_of shape)) in
      ap (λ b. cond b (settles_all shape) [] ++ ending_comes shape es sofar e) (settling_turns e)
      ∙ ap (λ b. cond (begins_settling table e) (settles_all shape) [] ++ cond b ends []) (ending_turns e)
      ∙ ap (λ (ys : List BridgePut). cond (begins_settling table e) (settles_all shape) [] ++ cond (begins_ending table e) ys []) ends_same

  and_not : (b : Bool) → (b && not b) ≡ false
  and_not true = refl
  and_not false = refl

  -- an event that says no one done neither settles nor ends
  pub quietly : (e : BridgeEvent) → begins_settling table e ≡ (settling_now table && not (settling_now table)) → begins_ending table e ≡ (ended_now table && not (ended_now table))
      → bridge_reaction shape es sofar e ≡ answer shape es sofar e
  quietly e s n =
      let no_settling : settle_begins shape es e ≡ [] = ap (λ b. cond b (settles_all shape) []) (settling_turns e ∙ s ∙ and_not (settling_now table)) in
      let no_ending : ending_comes shape es sofar e ≡ [] = rw (ending_turns e ∙ n ∙ and_not (ended_now table)) refl in
      rw (no_settling, no_ending) (append-nil (answer shape es sofar e ++ []) ∙ append-nil (answer shape es sofar e))

  -- ---- the reaction

  each_sub : (f : SubRow → List BridgePut) (g : SubId → List BridgePut) → ((row : SubRow) → SubTells shape es sofar row → f row ≡ g row.sub) → Each (λ row. f row ≡ g row.sub) table.subs
  each_sub f g h = each_weaker (SubTells shape es sofar) (λ (row : SubRow). f row ≡ g row.sub) table.subs h ties.sub_rows

  each_inbox : (f : InboxRow → List BridgePut) (g : InboxId → List BridgePut) → ((row : InboxRow) → InboxTells shape es sofar row → f row ≡ g row.inbox) → Each (λ row. f row ≡ g row.inbox) table.inboxes
  each_inbox f g h = each_weaker (InboxTells shape es sofar) (λ (row : InboxRow). f row ≡ g row.inbox) table.inboxes h ties.inbox_rows

  emits_by : (row : SubRow) (m : MarketMsg) (b : Bool) → sub_delivered row (passed_on cut_arrival row.terms.faults (arriving row.sent) (arriving (cond b (m ∷ []) []))) ≡ cond b (sub_emits m row) []
  emits_by row m true = refl
  emits_by row m false = refl

  publish_same : (r : ℕ) (m : MarketMsg) → flat_map (passed shape es sofar (publishes r m)) (live_subs shape es) ≡ flat_map (sub_emits m) (filter (is_on_topic_of shape r) table.subs)
  publish_same r m =
      let each : SubRow → List BridgePut = λ (row : SubRow). passed shape es sofar (publishes r m) row.sub in
      all_subs each (passed shape es sofar (publishes r m)) (each_sub each (passed shape es sofar (publishes r m)) (λ row h. refl))
      ∙ chosen (is_on_topic_of shape r) (sub_emits m) each table.subs
      (each_weaker (SubTells shape es sofar) (λ (row : SubRow). each row ≡ cond (is_on_topic_of shape r row) (sub_emits m row) []) table.subs
      (λ row h. sub_sent shape es sofar row (publishes r m) h ∙ emits_by row m (is_on_topic_of shape r row)) ties.sub_rows)

  itself : (s : SubId) → same_sub s s ≡ true
  itself s = subs_kind.itself s

  itself_inbox : (i : InboxId) → same_inbox i i ≡ true
  itself_inbox i = inboxes_kind.itself i

  -- an image for a row's own subscription
  image_same : (s : SubId) (m : MarketMsg) → cond (is_live shape s es) (passed shape es sofar (images s m) s) [] ≡ flat_map (sub_emits m) (filter (of_sub s) table.subs)
  image_same s m =
      for_sub s (sub_emits m) (λ r. passed shape es sofar (images r m) r)
      (each_sub (sub_emits m) (λ r. passed shape es sofar (images r m) r)
      (λ row h. sym (sub_sent shape es sofar row (images row.sub m) h ∙ emits_by row m (same_sub row.sub row.sub) ∙ rw (itself row.sub) refl)))

  reply_same : (i : InboxId) (body : List FieldData) → cond (is_open shape i es) (passed_reply shape es sofar (replies i body) i) [] ≡ flat_map (inbox_emits body) (filter (of_inbox i) table.inboxes)
  reply_same i body =
      for_inbox i (inbox_emits body) (λ r. passed_reply shape es sofar (replies r body) r)
      (each_inbox (inbox_emits body) (λ r. passed_reply shape es sofar (replies r body) r)
      (λ row h. sym (inbox_sent shape es sofar row (replies row.inbox body) h ∙ rw (itself_inbox row.inbox) refl)))

  wish_one : (settling : Bool) (sender : ℕ) (row : SubRow) (terms : Option SubTerms) (count : ℕ) → is_settling shape es ≡ settling → terms ≡ Some row.terms → count_of (is_recap_want row.sub) sofar ≡ row.wished
      → sub_wishes shape settling sender row ≡ cond (may_wish shape es sofar row.sub sender terms) (to_publisher (sender - 1) (p.Want row.sub Recap) ∷ []) []
  wish_one settling sender row terms count a b c = rw (b, a, c) refl

  wish_cond : (a b : Bool) (x : List BridgePut) → cond (a && b) x [] ≡ cond a (cond b x []) []
  wish_cond true b x = refl
  wish_cond false b x = refl

  wish_same : (s : SubId) (sender : ℕ) → answer shape es sofar (wishes s sender) ≡ flat_map (sub_wishes shape (settling_now table) sender) (filter (of_sub s) table.subs)
  wish_same s sender =
      let say : SubId → List BridgePut = λ (r : SubId). cond (may_wish shape es sofar r sender (first_said (terms_in r) es)) (to_publisher (sender - 1) (p.Want r Recap) ∷ []) [] in
      wish_cond (is_live shape s es) (may_wish shape es sofar s sender (first_said (terms_in s) es)) (to_publisher (sender - 1) (p.Want s Recap) ∷ [])
      ∙ for_sub s (sub_wishes shape (settling_now table) sender) say
      (each_sub (sub_wishes shape (settling_now table) sender) say
      (λ row h. wish_one (settling_now table) sender row (first_said (terms_in row.sub) es) 0 (settling_is shape es table ties.counted) h.terms h.wished))

  ask_same : (i : InboxId) (topic : ℕ) (fids : List ℕ) → answer shape es sofar (asks i topic fids) ≡ table_puts shape table (asks i topic fids)
  ask_same i topic fids =
      let open_now = open_is shape es sofar table ties i in
      let settling = settling_is shape es table ties.counted in
      rw (open_now, settling) refl

  pub reaction : (e : BridgeEvent) → bridge_reaction shape es sofar e ≡ table_puts shape table e
  reaction (joins s terms tag) = quietly (joins s terms tag) refl refl ∙ rw (joined_is shape es sofar table ties s, slot_same terms.queue) refl
  reaction (leaves s) = quietly (leaves s) refl refl ∙ for_sub s sub_ends (ended shape es sofar) (each_sub sub_ends (ended shape es sofar) (sub_ended shape es sofar))
  reaction (opens i terms tag) = quietly (opens i terms tag) refl refl ∙ rw (opened_is shape es sofar table ties i, slot_same terms.queue) refl
  reaction (closes i) = quietly (closes i) refl refl ∙ for_inbox i inbox_ends (ended_inbox shape es sofar) (each_inbox inbox_ends (ended_inbox shape es sofar) (inbox_ended shape es sofar))
  reaction (asks i topic fids) = quietly (asks i topic fids) refl refl ∙ ask_same i topic fids
  reaction (publishes r m) = quietly (publishes r m) refl refl ∙ publish_same r m
  reaction (images s m) = quietly (images s m) refl refl ∙ image_same s m
  reaction (replies i body) = quietly (replies i body) refl refl ∙ reply_same i body
  reaction (wishes s sender) = quietly (wishes s sender) refl refl ∙ wish_same s sender
  reaction (client_done c) = closes_same (client_done c)
  reaction (sends_done r) = closes_same (sends_done r)
  reaction (settled r) = closes_same (settled r)
  reaction (bye k) = quietly (bye k) refl refl
  reaction no_event = quietly no_event refl refl
