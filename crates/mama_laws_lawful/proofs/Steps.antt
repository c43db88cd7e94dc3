-- What an event before the ending puts to one queue goes on with the stream there, and the ending ends it.
use Rattle.std.specs.Prelude.{Ok, Err}
use Rattle.std.specs.List.{list_any, flat_map}
use Rattle.std.proofs.Common.{◌≡◌, ℕ, zero, suc, ◌≤◌, ◌==◌, Bool, true, false, not, ◌&&◌, ◌||◌, cond, List, [], ◌∷◌, ◌++◌, map, filter, refl, sym, ◌∙◌, ap, subst, arith, append-nil, append_assoc, eq-eqb, ne_eqb, inl, inr, ⊎_elim, ◌⊎◌}
use Rattle.std.proofs.lemmas.Bool.{or_left, or_right, cases_Bool, eqb-true, cases_eq}
use Rattle.std.proofs.lemmas.List.{map-append}
use Rattle.std.proofs.lemmas.List.Concat.{flat_map-append}
use Rattle.std.proofs.lemmas.List.Folds.{list_any-append}
use Rattle.mama_msg.specs.Field.{FieldData}
use Rattle.mama_journal.specs.Journal.{numbers_below, least_free}
use Rattle.mama_link.specs.Link.{rest}
use Rattle.mama_event.specs.Arrival.{Arrival, ReplyArrival, arriving, answering, cut_arrival, cut_reply}
use Rattle.mama_event.specs.declared.ids.SubId.{SubId}
use Rattle.mama_event.specs.declared.ids.InboxId.{InboxId}
use Rattle.mama_event.specs.declared.ids.ObjectId.{ObjectId}
use Rattle.mama_event.specs.declared.ids.ObjectId.TheVariants.{Sub, Timer, Inbox}
use Rattle.mama_event.specs.declared.market.MarketMsg.{MarketMsg}
use Rattle.mama_event.specs.declared.shape.Shape.{Shape}
use Rattle.mama_event.specs.declared.to_bridge.SubTerms.{SubTerms}
use Rattle.mama_event.specs.declared.to_bridge.InboxTerms.{InboxTerms}
use Rattle.mama_event.specs.declared.to_publisher.PublisherNote.TheVariants as p
use Rattle.mama_event.specs.declared.to_timers.TimersNote.TheVariants as t
use Rattle.mama_event.specs.declared.to_queue.Make.{Make}
use Rattle.mama_event.specs.declared.to_queue.Make.TheVariants as make
use Rattle.mama_event.specs.declared.to_queue.QueueNote.{QueueNote}
use Rattle.mama_event.specs.declared.to_queue.QueueNote.TheVariants as q
use Rattle.mama_event.specs.Lawful.{each_fits, IsLawful}
use Rattle.mama_event.specs.Ports.{publishers_of, queues_of}
use Rattle.mama_event.specs.Object.{same_sub, same_inbox, same_object}
use Rattle.mama_event.specs.EqualityLaws.{same_sub-Decides, same_inbox-Decides}
use Rattle.mama_event.specs.ToQueue.{Block, is_last, fits, open_blocks, is_for_port, is_made_as}
use Rattle.mama_event.specs.Noted.{delivered_note, replied_note}
use Rattle.mama_rules_services.specs.Bridge.{BridgeEvent, joins, leaves, opens, closes, asks, publishes, images, replies, wishes, client_done, sends_done, settled, bye, no_event, BridgePut, to_publisher, to_queue, to_timers, to_first, wants_image, passed_on}
use Rattle.mama_laws_bridge.specs.Laws.{Alone}
use Rattle.mama_laws_bridge.specs.Table.{SubRow, InboxRow, Table, table_next, of_sub, of_inbox, has_joined, has_opened, settling_now, ended_now, begins_settling, begins_ending, sub_slots, inbox_slots, slot_for, sub_passed, inbox_passed, is_on_topic_of, may_ask, sub_wished, sub_emits, inbox_emits, sub_ends, inbox_ends, settles_all, ends_all, closing, table_puts, kept, new_sub, new_inbox}
use Rattle.mama_laws_bridge.proofs.Lists.{each_filter, list_any-map}
use Rattle.mama_laws_bridge.proofs.Live.{list_any-push}
use Rattle.mama_laws_lawful.specs.Streams.{queue_part, takes_least}
use Rattle.mama_laws_lawful.proofs.Lists.{split_of}
use Rattle.mama_laws_lawful.proofs.Slots.{least_free-same}
use Rattle.mama_laws_lawful.proofs.Going.{Going, Belongs, going_more, going_create, all_finished, lawful_fin, least_fin, open-push}
use Rattle.mama_laws_lawful.proofs.Rows.{blocks_of, blocks_append, blocks_changed, Held, all_held, going_all_told, going_all_ended, going_left, blocks_slots}
use Rattle.mama_laws_lawful.proofs.Silence.{Silent, silent_part, silent_first, silent_image, silent_if, silent_wishes, silent_settles}

-- ---- the two kinds of rows

abbrev pub sub_place : SubRow → ℕ
sub_place row = row.terms.queue

abbrev pub sub_block : SubRow → Block
sub_block row = record { slot = row.slot; object = Sub row.sub }

abbrev pub sub_says : SubRow → Arrival → QueueNote
sub_says row arrival = delivered_note row.slot row.sub arrival

pub sub_belongs : (row : SubRow) (arrival : Arrival) → Belongs (sub_block row) (sub_says row arrival)
sub_belongs row (Ok m) = record { fit = λ before. refl; least = λ before. refl; last = refl; still = λ blocks. refl; makes = λ o. refl }
sub_belongs row (Err piece) = record { fit = λ before. refl; least = λ before. refl; last = refl; still = λ blocks. refl; makes = λ o. refl }

abbrev pub inbox_place : InboxRow → ℕ
inbox_place row = row.terms.queue

abbrev pub inbox_block : InboxRow → Block
inbox_block row = record { slot = row.slot; object = Inbox row.inbox }

abbrev pub inbox_says : InboxRow → ReplyArrival → QueueNote
inbox_says row arrival = replied_note row.slot row.inbox arrival

pub inbox_belongs : (row : InboxRow) (arrival : ReplyArrival) → Belongs (inbox_block row) (inbox_says row arrival)
inbox_belongs row (Ok body) = record { fit = λ before. refl; least = λ before. refl; last = refl; still = λ blocks. refl; makes = λ o. refl }
inbox_belongs row (Err bytes) = record { fit = λ before. refl; least = λ before. refl; last = refl; still = λ blocks. refl; makes = λ o. refl }

-- the objects that ever were
abbrev pub known : List SubId → List InboxId → ObjectId → Bool
known joined opened (Sub s) = list_any (λ (r : SubId). same_sub r s) joined
known joined opened (Timer timer) = false
known joined opened (Inbox i) = list_any (λ (r : InboxId). same_inbox r i) opened

joined_more : (joined : List SubId) (opened : List InboxId) (s : SubId) (o : ObjectId) → (known joined opened o || same_object (Sub s) o) ≡ true → known (joined ++ s ∷ []) opened o ≡ true
joined_more joined opened s (Sub r) h = list_any-push (λ (x : SubId). same_sub x r) joined s ∙ h
joined_more joined opened s (Timer timer) h = h
joined_more joined opened s (Inbox i) h = sym (or_none (list_any (λ (r : InboxId). same_inbox r i) opened)) ∙ h
  where
    or_none : (b : Bool) → (b || false) ≡ b
    or_none true = refl
    or_none false = refl

opened_more : (joined : List SubId) (opened : List InboxId) (i : InboxId) (o : ObjectId) → (known joined opened o || same_object (Inbox i) o) ≡ true → known joined (opened ++ i ∷ []) o ≡ true
opened_more joined opened i (Inbox j) h = list_any-push (λ (x : InboxId). same_inbox x j) opened i ∙ h
opened_more joined opened i (Timer timer) h = h
opened_more joined opened i (Sub s) h = sym (or_none (list_any (λ (r : SubId). same_sub r s) joined)) ∙ h
  where
    or_none : (b : Bool) → (b || false) ≡ b
    or_none true = refl
    or_none false = refl

-- a Create that goes to the queue, or elsewhere
create_here : (here : Bool) (xs ys : List Block) (b : Block) (was more : ObjectId → Bool) (notes : List QueueNote) (make : Make) (tag : ObjectId)
    → is_for_port 0 b.object ≡ true → is_made_as make b.object ≡ true → (here ≡ true → b.slot ≡ least_free (map (λ (c : Block). c.slot) (xs ++ ys))) → was b.object ≡ false
    → ((o : ObjectId) → (was o || same_object b.object o) ≡ true → more o ≡ true)
    → Going (xs ++ ys) was notes → Going (xs ++ (cond here (b ∷ []) [] ++ ys)) more (notes ++ cond here (q.Create b.slot b.object make tag ∷ []) [])
create_here true xs ys b was more notes make tag port kind least new grows g = going_create xs ys b was more notes make tag port kind (least refl) new grows g
create_here false xs ys b was more notes make tag port kind least new grows g =
    subst (Going (xs ++ ys) more) (sym (append-nil notes)) (going_more (xs ++ ys) was more notes (λ o h. grows o (or_left (was o) (same_object b.object o) h)) g)

-- the Fin that goes to one queue
fins_to : (queue n : ℕ) → (n ≤ queue → flat_map (queue_part queue) (map (λ (k : ℕ). to_queue k q.Fin) (numbers_below n)) ≡ [])
    × ((flat_map (queue_part queue) (map (λ (k : ℕ). to_queue k q.Fin) (numbers_below n)) ≡ []) ⊎ (flat_map (queue_part queue) (map (λ (k : ℕ). to_queue k q.Fin) (numbers_below n)) ≡ q.Fin ∷ []))
fins_to queue zero = (λ h. refl, inl refl)
fins_to queue (suc n) =
    let ih = fins_to queue n in
    let split : flat_map (queue_part queue) (map (λ (k : ℕ). to_queue k q.Fin) (numbers_below (suc n))) ≡ flat_map (queue_part queue) (map (λ (k : ℕ). to_queue k q.Fin) (numbers_below n)) ++ cond (n == queue) (q.Fin ∷ []) [] =
    ap (flat_map (queue_part queue)) (map-append (λ (k : ℕ). to_queue k q.Fin) (numbers_below n) (n ∷ []))
    ∙ flat_map-append (queue_part queue) (map (λ (k : ℕ). to_queue k q.Fin) (numbers_below n)) (to_queue n q.Fin ∷ [])
    ∙ ap (λ (ns : List QueueNote). flat_map (queue_part queue) (map (λ (k : ℕ). to_queue k q.Fin) (numbers_below n)) ++ ns) (append-nil (cond (n == queue) (q.Fin ∷ []) [])) in
    let add : List QueueNote → List QueueNote = λ xs. xs ++ cond (n == queue) (q.Fin ∷ []) [] in
    let last : Bool → List QueueNote = λ b. cond b (q.Fin ∷ []) [] in (
      λ less. split ∙ ap add (ih.0 (omega (arith, less))) ∙ ap last (ne_eqb n queue (λ same. omega (arith, less, same))),
      ⊎_elim
          (λ (same : n ≡ queue). inr (split ∙ ap add (ih.0 (omega (arith, same))) ∙ ap last (eq-eqb n queue same)))
          (λ (apart : n ≡ queue → ⊥). ⊎_elim
          (λ none. inl (split ∙ ap add none ∙ ap last (ne_eqb n queue apart)))
          (λ one. inr (split ∙ ap add one ∙ ap (λ (b : Bool). q.Fin ∷ cond b (q.Fin ∷ []) []) (ne_eqb n queue apart))) ih.1)
          (cases_eq n queue),
    )

-- a stream that the ending ended
pub record Ended (notes : List QueueNote) : Type 0 where
  pub lawful : IsLawful is_last (fits 0) notes
  pub least : each_fits takes_least [] notes ≡ true
  pub finished : open_blocks notes ≡ []

module _ (queue : ℕ) (shape : Shape) where
  abbrev pub sub_blocks : List SubRow → List Block
  sub_blocks rows = blocks_of queue sub_place sub_block sub_says sub_belongs rows

  abbrev pub inbox_blocks : List InboxRow → List Block
  inbox_blocks rows = blocks_of queue inbox_place inbox_block inbox_says inbox_belongs rows

  abbrev pub part : List BridgePut → List QueueNote
  part puts = flat_map (queue_part queue) puts

  abbrev pub Goes : Table → List QueueNote → Type 0
  Goes table notes = Going (sub_blocks table.subs ++ inbox_blocks table.inboxes) (known table.joined table.opened) notes

  silently : (blocks : List Block) (was : ObjectId → Bool) (notes : List QueueNote) (puts : List BridgePut) → Silent puts → Going blocks was notes → Going blocks was (notes ++ part puts)
  silently blocks was notes puts h g = subst (λ (ns : List QueueNote). Going blocks was (notes ++ ns)) (sym (silent_part queue puts h)) (subst (Going blocks was) (sym (append-nil notes)) g)

  module _ (table : Table) (notes : List QueueNote) (g : Goes table notes) where
    was : ObjectId → Bool
    was o = known table.joined table.opened o

    -- the slot that is given next on a queue is the least one that is free there
    slot_is_least : (k : ℕ) → (k == queue) ≡ true → slot_for k table ≡ least_free (map (λ (c : Block). c.slot) (sub_blocks table.subs ++ inbox_blocks table.inboxes))
    slot_is_least k here =
        let blocks : List Block = sub_blocks table.subs ++ inbox_blocks table.inboxes in
        let used : List ℕ = sub_slots queue table.subs ++ inbox_slots queue table.inboxes in
        ap (λ (n : ℕ). slot_for n table) (eqb-true k queue here)
        ∙ least_free-same used (map (λ (c : Block). c.slot) blocks) (λ p.
        list_any-append p (sub_slots queue table.subs) (inbox_slots queue table.inboxes)
        ∙ ap (λ (b : Bool). b || list_any p (inbox_slots queue table.inboxes)) (sym (blocks_slots queue sub_place sub_block sub_says sub_belongs p table.subs))
        ∙ ap (λ (b : Bool). list_any (λ (c : Block). p c.slot) (sub_blocks table.subs) || b) (sym (blocks_slots queue inbox_place inbox_block inbox_says inbox_belongs p table.inboxes))
        ∙ sym (list_any-append (λ (c : Block). p c.slot) (sub_blocks table.subs) (inbox_blocks table.inboxes))
        ∙ sym (list_any-map p (λ (c : Block). c.slot) blocks))

    sub_joins : (s : SubId) (terms : SubTerms) (tag : ObjectId) (had ended : Bool) → has_joined s table ≡ had → ended ≡ false
        → Going (sub_blocks (cond had table.subs (table.subs ++ kept ended (new_sub table s terms ∷ []))) ++ inbox_blocks table.inboxes)
        (known (cond had table.joined (table.joined ++ s ∷ [])) table.opened)
        (notes ++ part (cond had [] (to_queue terms.queue (q.Create (slot_for terms.queue table) (Sub s) (make.Sub terms.kind terms.cache shape.strategy) tag) ∷ wants_image shape s terms.kind terms.topic)))
    sub_joins s terms tag true ended h yet = subst (Going (sub_blocks table.subs ++ inbox_blocks table.inboxes) (known table.joined table.opened)) (sym (append-nil notes)) g
    sub_joins s terms tag false true h yet = cc
    sub_joins s terms tag false false h yet =
        let row : SubRow = new_sub table s terms in
        let one : List Block = cond (terms.queue == queue) (sub_block row ∷ []) [] in
        let create : List QueueNote = cond (terms.queue == queue) (q.Create row.slot (Sub s) (make.Sub terms.kind terms.cache shape.strategy) tag ∷ []) [] in
        let more : ObjectId → Bool = known (table.joined ++ s ∷ []) table.opened in
        let blocks : sub_blocks table.subs ++ (one ++ inbox_blocks table.inboxes) ≡ sub_blocks (table.subs ++ row ∷ []) ++ inbox_blocks table.inboxes =
        sym (append_assoc (sub_blocks table.subs) one (inbox_blocks table.inboxes))
        ∙ ap (λ (bs : List Block). (sub_blocks table.subs ++ bs) ++ inbox_blocks table.inboxes) (sym (append-nil one))
        ∙ ap (λ (bs : List Block). bs ++ inbox_blocks table.inboxes) (sym (blocks_append queue sub_place sub_block sub_says sub_belongs table.subs (row ∷ []))) in
        let put : create ≡ create ++ part (wants_image shape s terms.kind terms.topic) =
        sym (ap (λ (ns : List QueueNote). create ++ ns) (silent_part queue (wants_image shape s terms.kind terms.topic) (silent_image shape s terms.kind terms.topic)) ∙ append-nil create) in
        subst (λ (bs : List Block). Going bs more (notes ++ (create ++ part (wants_image shape s terms.kind terms.topic)))) blocks
        (subst (λ (ns : List QueueNote). Going (sub_blocks table.subs ++ (one ++ inbox_blocks table.inboxes)) more (notes ++ ns)) put
        (create_here (terms.queue == queue) (sub_blocks table.subs) (inbox_blocks table.inboxes) (sub_block row) (known table.joined table.opened) more notes (make.Sub terms.kind terms.cache shape.strategy) tag
        refl refl (slot_is_least terms.queue) h (joined_more table.joined table.opened s) g))

    inbox_opens : (i : InboxId) (terms : InboxTerms) (tag : ObjectId) (had ended : Bool) → has_opened i table ≡ had → ended ≡ false
        → Going (sub_blocks table.subs ++ inbox_blocks (cond had table.inboxes (table.inboxes ++ kept ended (new_inbox table i terms ∷ []))))
        (known table.joined (cond had table.opened (table.opened ++ i ∷ [])))
        (notes ++ part (cond had [] (to_queue terms.queue (q.Create (slot_for terms.queue table) (Inbox i) make.Inbox tag) ∷ [])))
    inbox_opens i terms tag true ended h yet = subst (Going (sub_blocks table.subs ++ inbox_blocks table.inboxes) (known table.joined table.opened)) (sym (append-nil notes)) g
    inbox_opens i terms tag false true h yet = cc
    inbox_opens i terms tag false false h yet =
        let row : InboxRow = new_inbox table i terms in
        let one : List Block = cond (terms.queue == queue) (inbox_block row ∷ []) [] in
        let create : List QueueNote = cond (terms.queue == queue) (q.Create row.slot (Inbox i) make.Inbox tag ∷ []) [] in
        let more : ObjectId → Bool = known table.joined (table.opened ++ i ∷ []) in
        let all : List Block = sub_blocks table.subs ++ inbox_blocks table.inboxes in
        let blocks : all ++ (one ++ []) ≡ sub_blocks table.subs ++ inbox_blocks (table.inboxes ++ row ∷ []) =
        append_assoc (sub_blocks table.subs) (inbox_blocks table.inboxes) (one ++ [])
        ∙ ap (λ (bs : List Block). sub_blocks table.subs ++ bs) (sym (blocks_append queue inbox_place inbox_block inbox_says inbox_belongs table.inboxes (row ∷ []))) in
        subst (λ (bs : List Block). Going bs more (notes ++ (create ++ []))) blocks
        (subst (λ (ns : List QueueNote). Going (all ++ (one ++ [])) more (notes ++ ns)) (sym (append-nil create))
        (create_here (terms.queue == queue) all [] (inbox_block row) (known table.joined table.opened) more notes make.Inbox tag
        refl refl (λ here. slot_is_least terms.queue here ∙ ap (λ (bs : List Block). least_free (map (λ (c : Block). c.slot) bs)) (sym (append-nil all))) h (opened_more table.joined table.opened i)
        (subst (λ (bs : List Block). Going bs (known table.joined table.opened) notes) (sym (append-nil all)) g)))

    subs_told : (m : MarketMsg) (test : SubRow → Bool) → Going (sub_blocks table.subs ++ inbox_blocks table.inboxes) (known table.joined table.opened) (notes ++ part (flat_map (sub_emits m) (filter test table.subs)))
    subs_told m test =
        let all : List Block = sub_blocks table.subs ++ inbox_blocks table.inboxes in
        going_all_told queue sub_place sub_block sub_says sub_belongs all (known table.joined table.opened) notes
        (λ (row : SubRow). passed_on cut_arrival row.terms.faults (arriving row.sent) (arriving (m ∷ []))) (filter test table.subs)
        (each_filter (Held queue sub_place sub_block sub_says sub_belongs all) test table.subs
        (all_held queue sub_place sub_block sub_says sub_belongs all table.subs
        (λ p h. list_any-append p (sub_blocks table.subs) (inbox_blocks table.inboxes) ∙ or_left (list_any p (sub_blocks table.subs)) (list_any p (inbox_blocks table.inboxes)) h))) g

    inboxes_told : (body : List FieldData) (test : InboxRow → Bool) → Going (sub_blocks table.subs ++ inbox_blocks table.inboxes) (known table.joined table.opened) (notes ++ part (flat_map (inbox_emits body) (filter test table.inboxes)))
    inboxes_told body test =
        let all : List Block = sub_blocks table.subs ++ inbox_blocks table.inboxes in
        going_all_told queue inbox_place inbox_block inbox_says inbox_belongs all (known table.joined table.opened) notes
        (λ (row : InboxRow). passed_on cut_reply row.terms.faults (answering row.sent) (answering (body ∷ []))) (filter test table.inboxes)
        (each_filter (Held queue inbox_place inbox_block inbox_says inbox_belongs all) test table.inboxes
        (all_held queue inbox_place inbox_block inbox_says inbox_belongs all table.inboxes
        (λ p h. list_any-append p (sub_blocks table.subs) (inbox_blocks table.inboxes) ∙ or_right (list_any p (sub_blocks table.subs)) (list_any p (inbox_blocks table.inboxes)) h))) g

    -- rows that change, but neither their place nor their block
    subs_changed : (puts : List BridgePut) (test : SubRow → Bool) (change : SubRow → SubRow) → ((row : SubRow) → sub_place (change row) ≡ sub_place row) → ((row : SubRow) → sub_block (change row) ≡ sub_block row)
        → Going (sub_blocks table.subs ++ inbox_blocks table.inboxes) (known table.joined table.opened) (notes ++ part puts)
        → Going (sub_blocks (map (λ (row : SubRow). cond (test row) (change row) row) table.subs) ++ inbox_blocks table.inboxes) (known table.joined table.opened) (notes ++ part puts)
    subs_changed puts test change a b h =
        subst (λ (bs : List Block). Going (bs ++ inbox_blocks table.inboxes) (known table.joined table.opened) (notes ++ part puts))
        (sym (blocks_changed queue sub_place sub_block sub_says sub_belongs test change a b table.subs)) h

    inboxes_changed : (puts : List BridgePut) (test : InboxRow → Bool) (change : InboxRow → InboxRow) → ((row : InboxRow) → inbox_place (change row) ≡ inbox_place row) → ((row : InboxRow) → inbox_block (change row) ≡ inbox_block row)
        → Going (sub_blocks table.subs ++ inbox_blocks table.inboxes) (known table.joined table.opened) (notes ++ part puts)
        → Going (sub_blocks table.subs ++ inbox_blocks (map (λ (row : InboxRow). cond (test row) (change row) row) table.inboxes)) (known table.joined table.opened) (notes ++ part puts)
    inboxes_changed puts test change a b h =
        subst (λ (bs : List Block). Going (sub_blocks table.subs ++ bs) (known table.joined table.opened) (notes ++ part puts))
        (sym (blocks_changed queue inbox_place inbox_block inbox_says inbox_belongs test change a b table.inboxes)) h

    -- an event that says someone done, where it does not end
    not_yet : (e : BridgeEvent) → begins_ending table e ≡ false
        → Going (sub_blocks (kept (begins_ending table e) table.subs) ++ inbox_blocks (kept (begins_ending table e) table.inboxes)) (known table.joined table.opened) (notes ++ part (closing shape table e))
    not_yet e h =
        let settles : List BridgePut = cond (begins_settling table e) (settles_all shape) [] in
        subst (λ (b : Bool). Going (sub_blocks (kept b table.subs) ++ inbox_blocks (kept b table.inboxes)) (known table.joined table.opened) (notes ++ part (settles ++ cond b (ends_all shape table) []))) (sym h)
        (subst (λ (xs : List BridgePut). Going (sub_blocks table.subs ++ inbox_blocks table.inboxes) (known table.joined table.opened) (notes ++ part xs)) (sym (append-nil settles))
        (silently (sub_blocks table.subs ++ inbox_blocks table.inboxes) (known table.joined table.opened) notes settles (silent_if (begins_settling table e) (settles_all shape) (silent_settles shape)) g))

    subs_left : (s : SubId) → Alone same_sub (λ (row : SubRow). row.sub) table.subs
        → Going (sub_blocks (filter (λ row. not (of_sub s row)) table.subs) ++ inbox_blocks table.inboxes) (known table.joined table.opened) (notes ++ part (flat_map sub_ends (filter (of_sub s) table.subs)))
    subs_left s alone =
        going_left queue sub_place sub_block sub_says sub_belongs [] (inbox_blocks table.inboxes) (known table.joined table.opened) notes
        (λ (row : SubRow). rest row.terms.faults (arriving row.sent)) (of_sub s) table.subs
        (⊎_elim (λ h. inl (split_of same_sub (λ a b. (same_sub-Decides a b).0) (λ (row : SubRow). row.sub) s table.subs alone h)) (λ h. inr h) (cases_Bool (list_any (of_sub s) table.subs))) g

    inboxes_left : (i : InboxId) → Alone same_inbox (λ (row : InboxRow). row.inbox) table.inboxes
        → Going (sub_blocks table.subs ++ inbox_blocks (filter (λ row. not (of_inbox i row)) table.inboxes)) (known table.joined table.opened) (notes ++ part (flat_map inbox_ends (filter (of_inbox i) table.inboxes)))
    inboxes_left i alone =
        let puts : List QueueNote = part (flat_map inbox_ends (filter (of_inbox i) table.inboxes)) in
        subst (λ (bs : List Block). Going (sub_blocks table.subs ++ bs) (known table.joined table.opened) (notes ++ puts)) (append-nil (inbox_blocks (filter (λ row. not (of_inbox i row)) table.inboxes)))
        (going_left queue inbox_place inbox_block inbox_says inbox_belongs (sub_blocks table.subs) [] (known table.joined table.opened) notes
        (λ (row : InboxRow). rest row.terms.faults (answering row.sent)) (of_inbox i) table.inboxes
        (⊎_elim (λ h. inl (split_of same_inbox (λ a b. (same_inbox-Decides a b).0) (λ (row : InboxRow). row.inbox) i table.inboxes alone h)) (λ h. inr h) (cases_Bool (list_any (of_inbox i) table.inboxes)))
        (subst (λ (bs : List Block). Going (sub_blocks table.subs ++ bs) (known table.joined table.opened) notes) (sym (append-nil (inbox_blocks table.inboxes))) g))

    -- an event before the ending that does not bring it
    pub goes_on : (e : BridgeEvent) → Alone same_sub (λ (row : SubRow). row.sub) table.subs → Alone same_inbox (λ (row : InboxRow). row.inbox) table.inboxes
        → ended_now table ≡ false → begins_ending table e ≡ false → Goes (table_next shape table e) (notes ++ part (table_puts shape table e))
    goes_on (joins s terms tag) a b yet h = sub_joins s terms tag (has_joined s table) (ended_now table) refl yet
    goes_on (leaves s) a b yet h = subs_left s a
    goes_on (opens i terms tag) a b yet h = inbox_opens i terms tag (has_opened i table) (ended_now table) refl yet
    goes_on (closes i) a b yet h = inboxes_left i b
    goes_on (asks i topic fids) a b yet h =
        silently (sub_blocks table.subs ++ inbox_blocks table.inboxes) (known table.joined table.opened) notes (table_puts shape table (asks i topic fids))
        (silent_if (list_any (of_inbox i) table.inboxes && not (settling_now table)) (to_first shape topic (p.Ask i fids)) (silent_first shape topic (p.Ask i fids) (λ r. refl))) g
    goes_on (publishes r m) a b yet h = subs_changed (table_puts shape table (publishes r m)) (is_on_topic_of shape r) (sub_passed m) (λ row. refl) (λ row. refl) (subs_told m (is_on_topic_of shape r))
    goes_on (images s m) a b yet h = subs_changed (table_puts shape table (images s m)) (of_sub s) (sub_passed m) (λ row. refl) (λ row. refl) (subs_told m (of_sub s))
    goes_on (replies i body) a b yet h = inboxes_changed (table_puts shape table (replies i body)) (of_inbox i) (inbox_passed body) (λ row. refl) (λ row. refl) (inboxes_told body (of_inbox i))
    goes_on (wishes s sender) a b yet h =
        let puts : List BridgePut = table_puts shape table (wishes s sender) in
        subs_changed puts (λ (row : SubRow). of_sub s row && may_ask shape (settling_now table) sender row) sub_wished (λ row. refl) (λ row. refl)
        (silently (sub_blocks table.subs ++ inbox_blocks table.inboxes) (known table.joined table.opened) notes puts (silent_wishes shape (settling_now table) sender (filter (of_sub s) table.subs)) g)
    goes_on (client_done c) a b yet h = not_yet (client_done c) h
    goes_on (sends_done c) a b yet h = not_yet (sends_done c) h
    goes_on (settled c) a b yet h = not_yet (settled c) h
    goes_on (bye k) a b yet h = silently (sub_blocks table.subs ++ inbox_blocks table.inboxes) (known table.joined table.opened) notes [] tt g
    goes_on no_event a b yet h = silently (sub_blocks table.subs ++ inbox_blocks table.inboxes) (known table.joined table.opened) notes [] tt g

    publishers_none : (ns : List ℕ) → part (map (λ (r : ℕ). to_publisher r p.Fin) ns) ≡ []
    publishers_none [] = refl
    publishers_none (n ∷ ns) = publishers_none ns

    -- what the ending puts to the queue
    ends_part : part (ends_all shape table) ≡ (part (flat_map sub_ends table.subs) ++ part (flat_map inbox_ends table.inboxes)) ++ part (map (λ (k : ℕ). to_queue k q.Fin) (numbers_below (queues_of shape)))
    ends_part =
        let subs : List BridgePut = flat_map sub_ends table.subs in
        let inboxes : List BridgePut = flat_map inbox_ends table.inboxes in
        let fins : List BridgePut = map (λ (k : ℕ). to_queue k q.Fin) (numbers_below (queues_of shape)) in
        let others : List BridgePut = map (λ (r : ℕ). to_publisher r p.Fin) (numbers_below (publishers_of shape)) in
        flat_map-append (queue_part queue) (((subs ++ inboxes) ++ to_timers t.Fin ∷ []) ++ fins) others
        ∙ ap (λ (ns : List QueueNote). part (((subs ++ inboxes) ++ to_timers t.Fin ∷ []) ++ fins) ++ ns) (publishers_none (numbers_below (publishers_of shape)))
        ∙ append-nil (part (((subs ++ inboxes) ++ to_timers t.Fin ∷ []) ++ fins))
        ∙ flat_map-append (queue_part queue) ((subs ++ inboxes) ++ to_timers t.Fin ∷ []) fins
        ∙ ap (λ (ns : List QueueNote). ns ++ part fins) (flat_map-append (queue_part queue) (subs ++ inboxes) (to_timers t.Fin ∷ []) ∙ append-nil (part (subs ++ inboxes)) ∙ flat_map-append (queue_part queue) subs inboxes)

    -- the event that brings the ending
    pub comes_to_end : (e : BridgeEvent) → begins_ending table e ≡ true
        → Ended (notes ++ part (closing shape table e))
    comes_to_end e h =
        let settles : List BridgePut = cond (begins_settling table e) (settles_all shape) [] in
        let mine : ObjectId → Bool = known table.joined table.opened in
        let subs : List QueueNote = part (flat_map sub_ends table.subs) in
        let inboxes : List QueueNote = part (flat_map inbox_ends table.inboxes) in
        let fins : List QueueNote = part (map (λ (k : ℕ). to_queue k q.Fin) (numbers_below (queues_of shape))) in
        let without_subs : Going (inbox_blocks table.inboxes) mine (notes ++ subs) =
        going_all_ended queue sub_place sub_block sub_says sub_belongs (inbox_blocks table.inboxes) mine notes (λ (row : SubRow). rest row.terms.faults (arriving row.sent)) table.subs g in
        let without_all : Going [] mine ((notes ++ subs) ++ inboxes) =
        going_all_ended queue inbox_place inbox_block inbox_says inbox_belongs [] mine (notes ++ subs) (λ (row : InboxRow). rest row.terms.faults (answering row.sent)) table.inboxes
        (subst (λ (bs : List Block). Going bs mine (notes ++ subs)) (sym (append-nil (inbox_blocks table.inboxes))) without_subs) in
        let finished : Ended ((notes ++ subs) ++ inboxes) = record {
          lawful = without_all.lawful;
          least = without_all.least;
          finished = all_finished mine ((notes ++ subs) ++ inboxes) without_all;
        } in
        let fin : Ended (((notes ++ subs) ++ inboxes) ++ q.Fin ∷ []) =
        record {
          lawful = lawful_fin mine ((notes ++ subs) ++ inboxes) without_all;
          least = least_fin mine ((notes ++ subs) ++ inboxes) without_all;
          finished = open-push ((notes ++ subs) ++ inboxes) q.Fin ∙ all_finished mine ((notes ++ subs) ++ inboxes) without_all;
        } in
        let put : part (closing shape table e) ≡ (subs ++ inboxes) ++ fins =
        ap (λ (b : Bool). part (settles ++ cond b (ends_all shape table) [])) h
        ∙ flat_map-append (queue_part queue) settles (ends_all shape table)
        ∙ ap (λ (ns : List QueueNote). ns ++ part (ends_all shape table)) (silent_part queue settles (silent_if (begins_settling table e) (settles_all shape) (silent_settles shape)))
        ∙ ends_part in
        let sorted : ((notes ++ subs) ++ inboxes) ++ fins ≡ notes ++ part (closing shape table e) =
        ap (λ (ns : List QueueNote). ns ++ fins) (append_assoc notes subs inboxes) ∙ append_assoc notes (subs ++ inboxes) fins ∙ ap (λ (ns : List QueueNote). notes ++ ns) (sym put) in
        subst Ended sorted (⊎_elim
        (λ none. subst (λ (ns : List QueueNote). Ended (((notes ++ subs) ++ inboxes) ++ ns)) (sym none) (subst Ended (sym (append-nil ((notes ++ subs) ++ inboxes))) finished))
        (λ one. subst (λ (ns : List QueueNote). Ended (((notes ++ subs) ++ inboxes) ++ ns)) (sym one) fin)
        (fins_to queue (queues_of shape)).1)
