-- The ties hold of a bridge that heard nothing, and stay with each event more.
use Rattle.std.specs.Prelude.{is_some, ◌-◌, nat_lt, nat_le}
use Rattle.std.specs.List.{list_any}
use Rattle.std.specs.Option.{option_or}
use Rattle.std.proofs.Common.{◌≡◌, ℕ, zero, suc, ◌+◌, Bool, true, false, not, ◌&&◌, ◌||◌, cond, List, [], ◌∷◌, ◌++◌, map, filter, set, Option, None, Some, refl, sym, ◌∙◌, ap, subst, arith, append-nil, add-zero, zero-add}
use Rattle.std.proofs.lemmas.Bool.{or_left, or_right, and_parts, and_from}
use Rattle.std.proofs.lemmas.List.{map-append}
use Rattle.mama_msg.specs.Field.{FieldData}
use Rattle.mama_journal.specs.Journal.{puts, count_of, first_said, all_puts}
use Rattle.mama_event.specs.declared.ids.SubId.{SubId}
use Rattle.mama_event.specs.declared.ids.InboxId.{InboxId}
use Rattle.mama_event.specs.declared.ids.ObjectId.{ObjectId}
use Rattle.mama_event.specs.declared.ids.ObjectId.TheVariants.{Sub, Inbox}
use Rattle.mama_event.specs.declared.market.MarketMsg.{MarketMsg}
use Rattle.mama_event.specs.declared.market.MsgKind.TheVariants.{Recap}
use Rattle.mama_event.specs.declared.to_bridge.SubTerms.{SubTerms}
use Rattle.mama_event.specs.declared.to_bridge.InboxTerms.{InboxTerms}
use Rattle.mama_event.specs.declared.shape.Shape.{Shape}
use Rattle.mama_event.specs.declared.to_queue.Make.TheVariants as make
use Rattle.mama_event.specs.declared.to_publisher.PublisherNote.TheVariants as p
use Rattle.mama_event.specs.declared.to_queue.QueueNote.TheVariants as q
use Rattle.mama_event.specs.Ports.{publishers_of}
use Rattle.mama_event.specs.Object.{same_sub, same_inbox}
use Rattle.mama_rules_services.specs.Bridge.{BridgeEvent, joins, leaves, opens, closes, asks, publishes, images, replies, wishes, client_done, sends_done, settled, bye, no_event, terms_in, inbox_terms_in, joins_sub, opens_inbox, leaves_sub, closes_inbox, lives, has_ending, is_live, is_open, newly_joined, newly_opened, live_subs, open_inboxes, window, reply_window, sent_with, sent_to, replied_to, BridgePut, to_publisher, to_queue, created_in, to_first, wants_image, is_recap_want, may_wish, answer, bridge_reaction}
use Rattle.mama_laws_bridge.specs.Table.{SubRow, InboxRow, Table, empty_table, table_next, table_after, table_of, marked, client_in, sender_in, settler_in, all_set, is_ended_by, of_sub, of_inbox, has_joined, has_opened, settling_now, ended_now, begins_ending, slot_for, sub_passed, inbox_passed, is_on_topic_of, may_ask, sub_wished, table_puts, changed, without, joined_next, opened_next, kept, new_sub, new_inbox, subs_next, inboxes_next}
use Rattle.mama_laws_bridge.proofs.Lists.{Each, each_append, each_weaker, each_both, each_all, each_filter, each_map, filter_each, map-filter, is_some-first_said, none_of_is_some, count_of-append}
use Rattle.mama_journal.specs.EntryLaws.{puts-push, all_puts-push, first_said-append, by_entries}
use Rattle.mama_laws_bridge.proofs.Live.{counted_none, counted_next, settling_is, ended_is, list_any-push, unborn, living}
use Rattle.mama_laws_bridge.proofs.OneKind.{newly_by, same_sym, living_next}
use Rattle.mama_laws_bridge.proofs.Ties.{SubTells, InboxTells, SubFresh, InboxFresh, Ties, sub_made, inbox_made, subs_kind, inboxes_kind, joined_is, opened_is, live_is, open_is}
use Rattle.mama_laws_bridge.proofs.Reaction.{reaction, quietly}
use Rattle.mama_laws_bridge.proofs.Puts.{Plain, plain_places, plain_wishes, plain_sub_emits, plain_inbox_emits, plain_sub_ends, plain_inbox_ends, plain_first, plain_image, plain_if, plain_closing}

-- ---- small ones

or_first : (a b : Bool) → (a || b) ≡ false → a ≡ false
or_first true b h = h
or_first false b h = refl

or_rest : (a b : Bool) → (a || b) ≡ false → b ≡ false
or_rest true b h = cc
or_rest false b h = h

member : {R I : Type 0} (same : I → I → Bool) (itself : (i : I) → same i i ≡ true) (key : R → I) (rows : List R) → Each (λ row. list_any (λ r. same (key r) (key row)) rows ≡ true) rows
member same itself key [] = tt
member {R} same itself key (row ∷ rows) = (
  or_left (same (key row) (key row)) (list_any (λ r. same (key r) (key row)) rows) (itself (key row)),
  each_weaker (λ (x : R). list_any (λ r. same (key r) (key x)) rows ≡ true) (λ (x : R). (same (key row) (key x) || list_any (λ r. same (key r) (key x)) rows) ≡ true) rows
      (λ x h. or_right (same (key row) (key x)) (list_any (λ r. same (key r) (key x)) rows) h) (member same itself key rows),
)

keys_changed : {R I : Type 0} (key : R → I) (test : R → Bool) (change : R → R) → ((row : R) → key (change row) ≡ key row) → (rows : List R) → map key (changed test change rows) ≡ map key rows
keys_changed key test change same [] = refl
keys_changed {R} {I} key test change same (row ∷ rows) = at (test row) (keys_changed key test change same rows)
  where
    at : (b : Bool) → map key (changed test change rows) ≡ map key rows → ◌≡◌ {A = List I} (key (cond b (change row) row) ∷ map key (changed test change rows)) (key row ∷ map key rows)
    at true h = rw (same row, h) refl
    at false h = rw h refl

map_kept : {R I : Type 0} (key : R → I) (b : Bool) (rows : List R) → map key (kept b rows) ≡ kept b (map key rows)
map_kept key true rows = refl
map_kept key false rows = refl

filter_all : {I : Type 0} (xs : List I) → filter (λ x. true) xs ≡ xs
filter_all [] = refl
filter_all (x ∷ xs) = ap (λ ys. x ∷ ys) (filter_all xs)

-- of ids that are none once ended, all stay where nothing ends
keys_stay : {I : Type 0} (ended : Bool) (xs none : List I) → none ≡ [] → (ended ≡ true → xs ≡ []) → kept ended (filter (λ x. true) xs) ++ kept ended none ≡ xs
keys_stay true xs none n h = sym (h refl)
keys_stay false xs none n h = rw (n, filter_all xs) (append-nil xs)

keys_end : {I : Type 0} (was is : Bool) (xs none : List I) → none ≡ [] → (was ≡ true → is ≡ true) → (was ≡ true → xs ≡ []) → kept is (filter (λ x. true) xs) ++ kept is none ≡ kept (is && not was) xs
keys_end true true xs none n stays h = sym (h refl)
keys_end true false xs none n stays h = cc (stays refl)
keys_end false true xs none n stays h = refl
keys_end false false xs none n stays h = rw (n, filter_all xs) (append-nil xs)

all_set_set : (flags : List Bool) (n : ℕ) → all_set flags ≡ true → all_set (set flags n true) ≡ true
all_set_set [] n h = refl
all_set_set (x ∷ xs) zero h = (and_parts x (all_set xs) h).1
all_set_set (x ∷ xs) (suc n) h = let parts = and_parts x (all_set xs) h in and_from x (all_set (set xs n true)) parts.0 (all_set_set xs n parts.1)

all_set_marked : (flags : List Bool) (said : Option ℕ) → all_set flags ≡ true → all_set (marked flags said) ≡ true
all_set_marked flags None h = h
all_set_marked flags (Some n) h = all_set_set flags n h

-- once ended, ended
ended_stays : (table : Table) (e : BridgeEvent) → ended_now table ≡ true → is_ended_by (marked table.clients (client_in e)) (marked table.sends (sender_in e)) (marked table.settled (settler_in e)) ≡ true
ended_stays table e h =
    let first = and_parts (all_set table.clients && all_set table.sends) (all_set table.settled) h in
    let second = and_parts (all_set table.clients) (all_set table.sends) first.0 in
    and_from (all_set (marked table.clients (client_in e)) && all_set (marked table.sends (sender_in e))) (all_set (marked table.settled (settler_in e)))
    (and_from (all_set (marked table.clients (client_in e))) (all_set (marked table.sends (sender_in e))) (all_set_marked table.clients (client_in e) second.0) (all_set_marked table.sends (sender_in e) second.1))
    (all_set_marked table.settled (settler_in e) first.1)

none_live : {I : Type 0} (j : I → Bool) (xs : List I) → filter (λ i. j i && not true) xs ≡ []
none_live j [] = refl
none_live j (x ∷ xs) = at (j x) (none_live j xs)
  where
    at : (b : Bool) → filter (λ i. j i && not true) xs ≡ [] → cond (b && false) (x ∷ filter (λ i. j i && not true) xs) (filter (λ i. j i && not true) xs) ≡ []
    at true h = h
    at false h = h

module _ (shape : Shape) (es : List BridgeEvent) (sofar : List BridgePut) (table : Table) (ties : Ties shape es sofar table) where
  ended_same : has_ending shape es ≡ ended_now table
  ended_same = ended_is shape es table ties.counted

  sub_sym : (a b : SubId) → same_sub a b ≡ same_sub b a
  sub_sym a b = same_sym same_sub newly_joined joins_sub leaves_sub sub_made subs_kind a b

  inbox_sym : (a b : InboxId) → same_inbox a b ≡ same_inbox b a
  inbox_sym a b = same_sym same_inbox newly_opened opens_inbox closes_inbox inbox_made inboxes_kind a b

  -- ---- the ids of the rows

  subs_none : ended_now table ≡ true → map (λ (row : SubRow). row.sub) table.subs ≡ []
  subs_none h =
      ties.subs ∙ ap (λ b. filter (λ s. lives (joins_sub s) (leaves_sub s) es && not b) (puts newly_joined es)) (ended_same ∙ h)
      ∙ none_live (λ s. lives (joins_sub s) (leaves_sub s) es) (puts newly_joined es)

  inboxes_none : ended_now table ≡ true → map (λ (row : InboxRow). row.inbox) table.inboxes ≡ []
  inboxes_none h =
      ties.inboxes ∙ ap (λ b. filter (λ i. lives (opens_inbox i) (closes_inbox i) es && not b) (puts newly_opened es)) (ended_same ∙ h)
      ∙ none_live (λ i. lives (opens_inbox i) (closes_inbox i) es) (puts newly_opened es)

  -- the live ones after an event
  subs_then : (e : BridgeEvent) → live_subs shape (es ++ e ∷ [])
      ≡ kept (ended_now (table_next shape table e)) (filter (λ s. not (leaves_sub s e)) (map (λ (row : SubRow). row.sub) table.subs)) ++ kept (ended_now (table_next shape table e)) (newly_by joins_sub es (sub_made e))
  subs_then e =
      let is = ended_now (table_next shape table e) in
      ap (λ b. living newly_joined joins_sub leaves_sub b (es ++ e ∷ [])) (ended_is shape (es ++ e ∷ []) (table_next shape table e) (counted_next shape es table e ties.counted))
      ∙ living_next same_sub newly_joined joins_sub leaves_sub sub_made subs_kind es e (ended_now table) is (ended_stays table e)
      ∙ ap (λ b. kept is (filter (λ s. not (leaves_sub s e)) (living newly_joined joins_sub leaves_sub b es)) ++ kept is (newly_by joins_sub es (sub_made e))) (sym ended_same)
      ∙ ap (λ (xs : List SubId). kept is (filter (λ s. not (leaves_sub s e)) xs) ++ kept is (newly_by joins_sub es (sub_made e))) (sym ties.subs)

  inboxes_then : (e : BridgeEvent) → open_inboxes shape (es ++ e ∷ [])
      ≡ kept (ended_now (table_next shape table e)) (filter (λ i. not (closes_inbox i e)) (map (λ (row : InboxRow). row.inbox) table.inboxes)) ++ kept (ended_now (table_next shape table e)) (newly_by opens_inbox es (inbox_made e))
  inboxes_then e =
      let is = ended_now (table_next shape table e) in
      ap (λ b. living newly_opened opens_inbox closes_inbox b (es ++ e ∷ [])) (ended_is shape (es ++ e ∷ []) (table_next shape table e) (counted_next shape es table e ties.counted))
      ∙ living_next same_inbox newly_opened opens_inbox closes_inbox inbox_made inboxes_kind es e (ended_now table) is (ended_stays table e)
      ∙ ap (λ b. kept is (filter (λ i. not (closes_inbox i e)) (living newly_opened opens_inbox closes_inbox b es)) ++ kept is (newly_by opens_inbox es (inbox_made e))) (sym ended_same)
      ∙ ap (λ (xs : List InboxId). kept is (filter (λ i. not (closes_inbox i e)) xs) ++ kept is (newly_by opens_inbox es (inbox_made e))) (sym ties.inboxes)

  subs_stay : kept (ended_now table) (filter (λ x. true) (map (λ (row : SubRow). row.sub) table.subs)) ++ kept (ended_now table) [] ≡ map (λ (row : SubRow). row.sub) table.subs
  subs_stay = keys_stay (ended_now table) (map (λ (row : SubRow). row.sub) table.subs) [] refl subs_none

  inboxes_stay : kept (ended_now table) (filter (λ x. true) (map (λ (row : InboxRow). row.inbox) table.inboxes)) ++ kept (ended_now table) [] ≡ map (λ (row : InboxRow). row.inbox) table.inboxes
  inboxes_stay = keys_stay (ended_now table) (map (λ (row : InboxRow). row.inbox) table.inboxes) [] refl inboxes_none

  subs_end : (is : Bool) → (ended_now table ≡ true → is ≡ true)
      → kept is (filter (λ x. true) (map (λ (row : SubRow). row.sub) table.subs)) ++ kept is [] ≡ map (λ (row : SubRow). row.sub) (kept (is && not (ended_now table)) table.subs)
  subs_end is stays = keys_end (ended_now table) is (map (λ (row : SubRow). row.sub) table.subs) [] refl stays subs_none ∙ sym (map_kept (λ (row : SubRow). row.sub) (is && not (ended_now table)) table.subs)

  inboxes_end : (is : Bool) → (ended_now table ≡ true → is ≡ true)
      → kept is (filter (λ x. true) (map (λ (row : InboxRow). row.inbox) table.inboxes)) ++ kept is [] ≡ map (λ (row : InboxRow). row.inbox) (kept (is && not (ended_now table)) table.inboxes)
  inboxes_end is stays = keys_end (ended_now table) is (map (λ (row : InboxRow). row.inbox) table.inboxes) [] refl stays inboxes_none ∙ sym (map_kept (λ (row : InboxRow). row.inbox) (is && not (ended_now table)) table.inboxes)

  -- one id more, where it is new
  keys_new : {R I : Type 0} (key : R → I) (ended had : Bool) (rows : List R) (new : R) (keys : List I) → (ended ≡ true → keys ≡ []) → map key rows ≡ keys
      → map key (cond had rows (rows ++ kept ended (new ∷ []))) ≡ kept ended (filter (λ x. true) keys) ++ kept ended (cond had [] (key new ∷ []))
  keys_new key true true rows new keys none same = same ∙ none refl
  keys_new key true false rows new keys none same = ap (map key) (append-nil rows) ∙ same ∙ none refl
  keys_new key false true rows new keys none same = same ∙ sym (append-nil (filter (λ x. true) keys) ∙ filter_all keys)
  keys_new key false false rows new keys none same = map-append key rows (new ∷ []) ∙ rw (same, filter_all keys) refl

  subs_next_is : (e : BridgeEvent) → map (λ (row : SubRow). row.sub) (subs_next shape table e) ≡ live_subs shape (es ++ e ∷ [])
  subs_next_is (joins s terms tag) =
      keys_new (λ (row : SubRow). row.sub) (ended_now table) (has_joined s table) table.subs (new_sub table s terms) (map (λ (row : SubRow). row.sub) table.subs) subs_none refl
      ∙ ap (λ b. kept (ended_now table) (filter (λ x. true) (map (λ (row : SubRow). row.sub) table.subs)) ++ kept (ended_now table) (cond b [] (s ∷ []))) (sym (joined_is shape es sofar table ties s))
      ∙ sym (subs_then (joins s terms tag))
  subs_next_is (leaves s) = left ∙ sym (subs_then (leaves s))
    where
      stays : (b : Bool) (xs : List SubId) → (b ≡ true → xs ≡ []) → filter (λ (r : SubId). not (same_sub r s)) xs ≡ kept b (filter (λ (r : SubId). not (same_sub s r)) xs) ++ kept b []
      stays true xs h = ap (filter (λ (r : SubId). not (same_sub r s))) (h refl)
      stays false xs h =
          filter_each (λ (r : SubId). not (same_sub r s)) (λ (r : SubId). not (same_sub s r)) xs (each_all (λ (r : SubId). not (same_sub r s) ≡ not (same_sub s r)) xs (λ r. ap not (sub_sym r s)))
          ∙ sym (append-nil (filter (λ (r : SubId). not (same_sub s r)) xs))

      left : map (λ (row : SubRow). row.sub) (without (of_sub s) table.subs) ≡ kept (ended_now table) (filter (λ r. not (leaves_sub r (leaves s))) (map (λ (row : SubRow). row.sub) table.subs)) ++ kept (ended_now table) []
      left = map-filter (λ (row : SubRow). row.sub) (λ (r : SubId). not (same_sub r s)) table.subs ∙ stays (ended_now table) (map (λ (row : SubRow). row.sub) table.subs) subs_none
  subs_next_is (publishes r m) = keys_changed (λ (row : SubRow). row.sub) (is_on_topic_of shape r) (sub_passed m) (λ row. refl) table.subs ∙ sym subs_stay ∙ sym (subs_then (publishes r m))
  subs_next_is (images s m) = keys_changed (λ (row : SubRow). row.sub) (of_sub s) (sub_passed m) (λ row. refl) table.subs ∙ sym subs_stay ∙ sym (subs_then (images s m))
  subs_next_is (wishes s sender) = keys_changed (λ (row : SubRow). row.sub) (λ row. of_sub s row && may_ask shape (settling_now table) sender row) sub_wished (λ row. refl) table.subs ∙ sym subs_stay ∙ sym (subs_then (wishes s sender))
  subs_next_is (client_done c) = sym (subs_then (client_done c) ∙ subs_end (ended_now (table_next shape table (client_done c))) (ended_stays table (client_done c)))
  subs_next_is (sends_done r) = sym (subs_then (sends_done r) ∙ subs_end (ended_now (table_next shape table (sends_done r))) (ended_stays table (sends_done r)))
  subs_next_is (settled r) = sym (subs_then (settled r) ∙ subs_end (ended_now (table_next shape table (settled r))) (ended_stays table (settled r)))
  subs_next_is (opens i terms tag) = sym (subs_then (opens i terms tag) ∙ subs_stay)
  subs_next_is (closes i) = sym (subs_then (closes i) ∙ subs_stay)
  subs_next_is (asks i topic fids) = sym (subs_then (asks i topic fids) ∙ subs_stay)
  subs_next_is (replies i body) = sym (subs_then (replies i body) ∙ subs_stay)
  subs_next_is (bye k) = sym (subs_then (bye k) ∙ subs_stay)
  subs_next_is no_event = sym (subs_then no_event ∙ subs_stay)

  inboxes_next_is : (e : BridgeEvent) → map (λ (row : InboxRow). row.inbox) (inboxes_next table e) ≡ open_inboxes shape (es ++ e ∷ [])
  inboxes_next_is (opens i terms tag) =
      keys_new (λ (row : InboxRow). row.inbox) (ended_now table) (has_opened i table) table.inboxes (new_inbox table i terms) (map (λ (row : InboxRow). row.inbox) table.inboxes) inboxes_none refl
      ∙ ap (λ b. kept (ended_now table) (filter (λ x. true) (map (λ (row : InboxRow). row.inbox) table.inboxes)) ++ kept (ended_now table) (cond b [] (i ∷ []))) (sym (opened_is shape es sofar table ties i))
      ∙ sym (inboxes_then (opens i terms tag))
  inboxes_next_is (closes i) = left ∙ sym (inboxes_then (closes i))
    where
      stays : (b : Bool) (xs : List InboxId) → (b ≡ true → xs ≡ []) → filter (λ (r : InboxId). not (same_inbox r i)) xs ≡ kept b (filter (λ (r : InboxId). not (same_inbox i r)) xs) ++ kept b []
      stays true xs h = ap (filter (λ (r : InboxId). not (same_inbox r i))) (h refl)
      stays false xs h =
          filter_each (λ (r : InboxId). not (same_inbox r i)) (λ (r : InboxId). not (same_inbox i r)) xs (each_all (λ (r : InboxId). not (same_inbox r i) ≡ not (same_inbox i r)) xs (λ r. ap not (inbox_sym r i)))
          ∙ sym (append-nil (filter (λ (r : InboxId). not (same_inbox i r)) xs))

      left : map (λ (row : InboxRow). row.inbox) (without (of_inbox i) table.inboxes) ≡ kept (ended_now table) (filter (λ r. not (closes_inbox r (closes i))) (map (λ (row : InboxRow). row.inbox) table.inboxes)) ++ kept (ended_now table) []
      left = map-filter (λ (row : InboxRow). row.inbox) (λ (r : InboxId). not (same_inbox r i)) table.inboxes ∙ stays (ended_now table) (map (λ (row : InboxRow). row.inbox) table.inboxes) inboxes_none
  inboxes_next_is (replies i body) = keys_changed (λ (row : InboxRow). row.inbox) (of_inbox i) (inbox_passed body) (λ row. refl) table.inboxes ∙ sym inboxes_stay ∙ sym (inboxes_then (replies i body))
  inboxes_next_is (client_done c) = sym (inboxes_then (client_done c) ∙ inboxes_end (ended_now (table_next shape table (client_done c))) (ended_stays table (client_done c)))
  inboxes_next_is (sends_done r) = sym (inboxes_then (sends_done r) ∙ inboxes_end (ended_now (table_next shape table (sends_done r))) (ended_stays table (sends_done r)))
  inboxes_next_is (settled r) = sym (inboxes_then (settled r) ∙ inboxes_end (ended_now (table_next shape table (settled r))) (ended_stays table (settled r)))
  inboxes_next_is (joins s terms tag) = sym (inboxes_then (joins s terms tag) ∙ inboxes_stay)
  inboxes_next_is (leaves s) = sym (inboxes_then (leaves s) ∙ inboxes_stay)
  inboxes_next_is (asks i topic fids) = sym (inboxes_then (asks i topic fids) ∙ inboxes_stay)
  inboxes_next_is (publishes r m) = sym (inboxes_then (publishes r m) ∙ inboxes_stay)
  inboxes_next_is (images s m) = sym (inboxes_then (images s m) ∙ inboxes_stay)
  inboxes_next_is (wishes s sender) = sym (inboxes_then (wishes s sender) ∙ inboxes_stay)
  inboxes_next_is (bye k) = sym (inboxes_then (bye k) ∙ inboxes_stay)
  inboxes_next_is no_event = sym (inboxes_then no_event ∙ inboxes_stay)

  -- ---- the ids that ever joined

  joined_next_is : (e : BridgeEvent) → joined_next table e ≡ puts newly_joined (es ++ e ∷ [])
  joined_next_is e = at e ∙ sym (puts-push newly_joined es e)
    where
      more : (b : Bool) (s : SubId) → cond b table.joined (table.joined ++ s ∷ []) ≡ puts newly_joined es ++ cond b [] (s ∷ [])
      more true s = ties.joined ∙ sym (append-nil (puts newly_joined es))
      more false s = ap (λ (xs : List SubId). xs ++ s ∷ []) ties.joined

      at : (f : BridgeEvent) → joined_next table f ≡ puts newly_joined es ++ newly_joined es f
      at (joins s terms tag) = ap (λ b. cond b table.joined (table.joined ++ s ∷ [])) (sym (joined_is shape es sofar table ties s)) ∙ more (list_any (joins_sub s) es) s
      at _ = ties.joined ∙ sym (append-nil (puts newly_joined es))

  opened_next_is : (e : BridgeEvent) → opened_next table e ≡ puts newly_opened (es ++ e ∷ [])
  opened_next_is e = at e ∙ sym (puts-push newly_opened es e)
    where
      more : (b : Bool) (i : InboxId) → cond b table.opened (table.opened ++ i ∷ []) ≡ puts newly_opened es ++ cond b [] (i ∷ [])
      more true i = ties.opened ∙ sym (append-nil (puts newly_opened es))
      more false i = ap (λ (xs : List InboxId). xs ++ i ∷ []) ties.opened

      at : (f : BridgeEvent) → opened_next table f ≡ puts newly_opened es ++ newly_opened es f
      at (opens i terms tag) = ap (λ b. cond b table.opened (table.opened ++ i ∷ [])) (sym (opened_is shape es sofar table ties i)) ∙ more (list_any (opens_inbox i) es) i
      at _ = ties.opened ∙ sym (append-nil (puts newly_opened es))

  -- ---- the rows that stay

  live_here : Each (λ (row : SubRow). is_live shape row.sub es ≡ true) table.subs
  live_here =
      each_weaker (λ (row : SubRow). list_any (λ (r : SubRow). same_sub r.sub row.sub) table.subs ≡ true) (λ (row : SubRow). is_live shape row.sub es ≡ true) table.subs
      (λ row h. live_is shape es sofar table ties row.sub ∙ h)
      (member same_sub subs_kind.itself (λ (row : SubRow). row.sub) table.subs)

  open_here : Each (λ (row : InboxRow). is_open shape row.inbox es ≡ true) table.inboxes
  open_here =
      each_weaker (λ (row : InboxRow). list_any (λ (r : InboxRow). same_inbox r.inbox row.inbox) table.inboxes ≡ true) (λ (row : InboxRow). is_open shape row.inbox es ≡ true) table.inboxes
      (λ row h. open_is shape es sofar table ties row.inbox ∙ h)
      (member same_inbox inboxes_kind.itself (λ (row : InboxRow). row.inbox) table.inboxes)

  -- a row after an event that put more
  abbrev sub_then : BridgeEvent → List BridgePut → SubRow → SubRow
  sub_then e more row = record row { wished = row.wished + count_of (is_recap_want row.sub) more; sent = row.sent ++ sent_to shape row.sub row.terms.topic e }

  abbrev inbox_then : BridgeEvent → InboxRow → InboxRow
  inbox_then e row = record row { sent = row.sent ++ replied_to row.inbox e }

  window-push : (s : SubId) (e : BridgeEvent) → window shape s (es ++ e ∷ []) ≡ window shape s es ++ cond (is_live shape s es) (sent_with shape s (first_said (terms_in s) es) e) []
  window-push s e = puts-push (λ before f. cond (is_live shape s before) (sent_with shape s (first_said (terms_in s) before) f) []) es e

  reply_window-push : (i : InboxId) (e : BridgeEvent) → reply_window shape i (es ++ e ∷ []) ≡ reply_window shape i es ++ cond (is_open shape i es) (replied_to i e) []
  reply_window-push i e = puts-push (λ before f. cond (is_open shape i before) (replied_to i f) []) es e

  sub_tells : (e : BridgeEvent) (more : List BridgePut) (row : SubRow) → is_live shape row.sub es ≡ true → SubTells shape es sofar row → SubTells shape (es ++ e ∷ []) (sofar ++ more) (sub_then e more row)
  sub_tells e more row live h = record {
    terms = first_said-append (terms_in row.sub) es (e ∷ []) ∙ ap (λ o. option_or o (first_said (terms_in row.sub) (e ∷ []))) h.terms;
    place = first_said-append (created_in (Sub row.sub)) sofar more ∙ ap (λ o. option_or o (first_said (created_in (Sub row.sub)) more)) h.place;
    sent = window-push row.sub e
        ∙ ap (λ b. window shape row.sub es ++ cond b (sent_with shape row.sub (first_said (terms_in row.sub) es) e) []) live
        ∙ ap (λ o. window shape row.sub es ++ sent_with shape row.sub o e) h.terms
        ∙ ap (λ (x : List MarketMsg). x ++ sent_to shape row.sub row.terms.topic e) h.sent;
    wished = count_of-append (is_recap_want row.sub) sofar more ∙ ap (λ n. n + count_of (is_recap_want row.sub) more) h.wished;
  }

  inbox_tells : (e : BridgeEvent) (more : List BridgePut) (row : InboxRow) → is_open shape row.inbox es ≡ true → InboxTells shape es sofar row → InboxTells shape (es ++ e ∷ []) (sofar ++ more) (inbox_then e row)
  inbox_tells e more row live h = record {
    terms = first_said-append (inbox_terms_in row.inbox) es (e ∷ []) ∙ ap (λ o. option_or o (first_said (inbox_terms_in row.inbox) (e ∷ []))) h.terms;
    place = first_said-append (created_in (Inbox row.inbox)) sofar more ∙ ap (λ o. option_or o (first_said (created_in (Inbox row.inbox)) more)) h.place;
    sent = reply_window-push row.inbox e
        ∙ ap (λ b. reply_window shape row.inbox es ++ cond b (replied_to row.inbox e) []) live
        ∙ ap (λ (x : List (List FieldData)). x ++ replied_to row.inbox e) h.sent;
  }

  subs_tell : (e : BridgeEvent) (more : List BridgePut) → Each (λ (row : SubRow). SubTells shape (es ++ e ∷ []) (sofar ++ more) (sub_then e more row)) table.subs
  subs_tell e more =
      each_weaker (λ (row : SubRow). (is_live shape row.sub es ≡ true) × SubTells shape es sofar row) (λ (row : SubRow). SubTells shape (es ++ e ∷ []) (sofar ++ more) (sub_then e more row)) table.subs
      (λ row h. sub_tells e more row h.0 h.1)
      (each_both (λ (row : SubRow). is_live shape row.sub es ≡ true) (SubTells shape es sofar) table.subs live_here ties.sub_rows)

  inboxes_tell : (e : BridgeEvent) (more : List BridgePut) → Each (λ (row : InboxRow). InboxTells shape (es ++ e ∷ []) (sofar ++ more) (inbox_then e row)) table.inboxes
  inboxes_tell e more =
      each_weaker (λ (row : InboxRow). (is_open shape row.inbox es ≡ true) × InboxTells shape es sofar row) (λ (row : InboxRow). InboxTells shape (es ++ e ∷ []) (sofar ++ more) (inbox_then e row)) table.inboxes
      (λ row h. inbox_tells e more row h.0 h.1)
      (each_both (λ (row : InboxRow). is_open shape row.inbox es ≡ true) (InboxTells shape es sofar) table.inboxes open_here ties.inbox_rows)

  -- ---- what is put

  -- no wish is counted but a forwarded one
  joins_put : (s : SubId) (terms : SubTerms) (tag : ObjectId) (r : SubId) → count_of (is_recap_want r) (table_puts shape table (joins s terms tag)) ≡ 0
  joins_put s terms tag r = at (has_joined s table)
    where
      at : (b : Bool) → count_of (is_recap_want r) (cond b [] (to_queue terms.queue (q.Create (slot_for terms.queue table) (Sub s) (make.Sub terms.kind terms.cache shape.strategy) tag) ∷ wants_image shape s terms.kind terms.topic)) ≡ 0
      at true = refl
      at false = plain_wishes r (wants_image shape s terms.kind terms.topic) (plain_image shape s terms.kind terms.topic)

  opens_put : (i : InboxId) (terms : InboxTerms) (tag : ObjectId) (r : SubId) → count_of (is_recap_want r) (table_puts shape table (opens i terms tag)) ≡ 0
  opens_put i terms tag r = at (has_opened i table)
    where
      at : (b : Bool) → count_of (is_recap_want r) (cond b [] (to_queue terms.queue (q.Create (slot_for terms.queue table) (Inbox i) make.Inbox tag) ∷ [])) ≡ 0
      at true = refl
      at false = refl

  asks_plain : (i : InboxId) (topic : ℕ) (fids : List ℕ) → Plain (table_puts shape table (asks i topic fids))
  asks_plain i topic fids = plain_if (list_any (of_inbox i) table.inboxes && not (settling_now table)) (to_first shape topic (p.Ask i fids)) (plain_first shape topic (p.Ask i fids) (λ r. refl))

  -- whether a wish is forwarded
  abbrev forwards : SubId → ℕ → Bool
  forwards s sender = is_live shape s es && may_wish shape es sofar s sender (first_said (terms_in s) es)

  wishes_are : (s : SubId) (sender : ℕ) → table_puts shape table (wishes s sender) ≡ cond (forwards s sender) (to_publisher (sender - 1) (p.Want s Recap) ∷ []) []
  wishes_are s sender = sym (reaction shape es sofar table ties (wishes s sender)) ∙ quiet
    where
      quiet : bridge_reaction shape es sofar (wishes s sender) ≡ answer shape es sofar (wishes s sender)
      quiet = quietly shape es sofar table ties (wishes s sender) refl refl

  wishes_count : (s : SubId) (sender : ℕ) (r : SubId) → count_of (is_recap_want r) (table_puts shape table (wishes s sender)) ≡ cond (forwards s sender) (cond (same_sub s r) 1 0) 0
  wishes_count s sender r = ap (count_of (is_recap_want r)) (wishes_are s sender) ∙ at (forwards s sender)
    where
      at : (b : Bool) → count_of (is_recap_want r) (cond b (to_publisher (sender - 1) (p.Want s Recap) ∷ []) []) ≡ cond b (cond (same_sub s r) 1 0) 0
      at true = refl
      at false = refl

  -- ---- each row after an event

  as_it_was : (row : SubRow) (x : List MarketMsg) (n : ℕ) → x ≡ [] → n ≡ 0 → ◌≡◌ {A = SubRow} (record row { wished = row.wished + n; sent = row.sent ++ x }) row
  as_it_was row x n a b = rw (a, b, append-nil row.sent, add-zero row.wished) refl

  with_sent : (row : SubRow) (x : List MarketMsg) (n : ℕ) → n ≡ 0 → ◌≡◌ {A = SubRow} (record row { wished = row.wished + n; sent = row.sent ++ x }) (record row { sent = row.sent ++ x })
  with_sent row x n b = rw (b, add-zero row.wished) refl

  changed_tells : (e : BridgeEvent) (more : List BridgePut) (test : SubRow → Bool) (change : SubRow → SubRow)
      → ((row : SubRow) → SubTells shape es sofar row → is_live shape row.sub es ≡ true → sub_then e more row ≡ cond (test row) (change row) row) → Each (SubTells shape (es ++ e ∷ []) (sofar ++ more)) (changed test change table.subs)
  changed_tells e more test change same =
      let P : SubRow → Type 0 = SubTells shape (es ++ e ∷ []) (sofar ++ more) in
      each_map P (λ (row : SubRow). cond (test row) (change row) row) table.subs
      (each_weaker (λ (row : SubRow). ((is_live shape row.sub es ≡ true) × SubTells shape es sofar row) × P (sub_then e more row)) (λ (row : SubRow). P (cond (test row) (change row) row)) table.subs
      (λ row h. subst P (same row h.0.1 h.0.0) h.1)
      (each_both (λ (row : SubRow). (is_live shape row.sub es ≡ true) × SubTells shape es sofar row) (λ (row : SubRow). P (sub_then e more row)) table.subs
      (each_both (λ (row : SubRow). is_live shape row.sub es ≡ true) (SubTells shape es sofar) table.subs live_here ties.sub_rows) (subs_tell e more)))

  quiet_tells : (e : BridgeEvent) (more : List BridgePut) → ((row : SubRow) → sent_to shape row.sub row.terms.topic e ≡ []) → ((r : SubId) → count_of (is_recap_want r) more ≡ 0)
      → Each (SubTells shape (es ++ e ∷ []) (sofar ++ more)) table.subs
  quiet_tells e more nothing none =
      let P : SubRow → Type 0 = SubTells shape (es ++ e ∷ []) (sofar ++ more) in
      each_weaker (λ (row : SubRow). P (sub_then e more row)) P table.subs
      (λ row h. subst P (as_it_was row (sent_to shape row.sub row.terms.topic e) (count_of (is_recap_want row.sub) more) (nothing row) (none row.sub)) h)
      (subs_tell e more)

  kept_tells : (P : SubRow → Type 0) (b : Bool) (rows : List SubRow) → Each P rows → Each P (kept b rows)
  kept_tells P true rows h = tt
  kept_tells P false rows h = h

  closing_tells : (e : BridgeEvent) → ((row : SubRow) → sent_to shape row.sub row.terms.topic e ≡ []) → (b : Bool) (more : List BridgePut) → ((r : SubId) → count_of (is_recap_want r) more ≡ 0)
      → Each (SubTells shape (es ++ e ∷ []) (sofar ++ more)) (kept b table.subs)
  closing_tells e nothing b more none = kept_tells (SubTells shape (es ++ e ∷ []) (sofar ++ more)) b table.subs (quiet_tells e more nothing none)

  passed_by : (row : SubRow) (m : MarketMsg) (b : Bool) (n : ℕ) → n ≡ 0 → ◌≡◌ {A = SubRow} (record row { wished = row.wished + n; sent = row.sent ++ cond b (m ∷ []) [] }) (cond b (sub_passed m row) row)
  passed_by row m true n z = with_sent row (m ∷ []) n z
  passed_by row m false n z = as_it_was row [] n refl z

  wished_by : (row : SubRow) (b : Bool) (n : ℕ) → n ≡ cond b 1 0 → ◌≡◌ {A = SubRow} (record row { wished = row.wished + n; sent = row.sent ++ [] }) (cond b (sub_wished row) row)
  wished_by row true n z = let one : row.wished + 1 ≡ suc row.wished = omega arith in rw (z, append-nil row.sent, one) refl
  wished_by row false n z = as_it_was row [] n refl z

  -- a row's own wish
  own_wish : (s : SubId) (sender : ℕ) (row : SubRow) → SubTells shape es sofar row → is_live shape row.sub es ≡ true
      → ◌≡◌ {A = ℕ} (cond (forwards s sender) (cond (same_sub s row.sub) 1 0) 0) (cond (of_sub s row && may_ask shape (settling_now table) sender row) 1 0)
  own_wish s sender row h live = at (of_sub s row) refl
    where
      zero_both : (b : Bool) → ◌≡◌ {A = ℕ} (cond b 0 0) 0
      zero_both true = refl
      zero_both false = refl

      at : (b : Bool) → same_sub row.sub s ≡ b → ◌≡◌ {A = ℕ} (cond (forwards s sender) (cond (same_sub s row.sub) 1 0) 0) (cond (b && may_ask shape (settling_now table) sender row) 1 0)
      at true e =
          let it : row.sub ≡ s = subs_kind.decides row.sub s e in
          let turned : ◌≡◌ {A = ℕ} (cond (forwards s sender) (cond (same_sub s row.sub) 1 0) 0) (cond (forwards row.sub sender) (cond (same_sub row.sub row.sub) 1 0) 0) =
          ap {B = ℕ} (λ (r : SubId). cond (forwards r sender) (cond (same_sub r row.sub) 1 0) 0) (sym it) in
          turned
          ∙ ap {B = ℕ} (λ b. cond (forwards row.sub sender) (cond b 1 0) 0) (subs_kind.itself row.sub)
          ∙ ap {B = ℕ} (λ b. cond (b && may_wish shape es sofar row.sub sender (first_said (terms_in row.sub) es)) 1 0) live
          ∙ ap {B = ℕ} (λ o. cond (may_wish shape es sofar row.sub sender o) 1 0) h.terms
          ∙ ap {B = ℕ} (λ b. cond (not b && (nat_lt 0 sender && (nat_le sender (publishers_of shape) && nat_lt (count_of (is_recap_want row.sub) sofar) row.terms.recaps))) 1 0) (settling_is shape es table ties.counted)
          ∙ ap {B = ℕ} (λ n. cond (not (settling_now table) && (nat_lt 0 sender && (nat_le sender (publishers_of shape) && nat_lt n row.terms.recaps))) 1 0) h.wished
      at false e = ap {B = ℕ} (λ b. cond (forwards s sender) (cond b 1 0) 0) (sub_sym s row.sub ∙ e) ∙ zero_both (forwards s sender)

  none_joined : (s : SubId) (b : Bool) → has_joined s table ≡ b → b ≡ false → list_any (joins_sub s) es ≡ false
  none_joined s b h e = joined_is shape es sofar table ties s ∙ h ∙ e

  none_opened : (i : InboxId) (b : Bool) → has_opened i table ≡ b → b ≡ false → list_any (opens_inbox i) es ≡ false
  none_opened i b h e = opened_is shape es sofar table ties i ∙ h ∙ e

  not_live : (s : SubId) → list_any (joins_sub s) es ≡ false → is_live shape s es ≡ false
  not_live s h = ap (λ b. b && not (has_ending shape es)) (unborn (joins_sub s) (leaves_sub s) es h)

  not_open : (i : InboxId) → list_any (opens_inbox i) es ≡ false → is_open shape i es ≡ false
  not_open i h = ap (λ b. b && not (has_ending shape es)) (unborn (opens_inbox i) (closes_inbox i) es h)

  no_terms : (s : SubId) → list_any (joins_sub s) es ≡ false → first_said (terms_in s) es ≡ None
  no_terms s h = none_of_is_some (first_said (terms_in s) es) (is_some-first_said (terms_in s) es ∙ h)

  no_inbox_terms : (i : InboxId) → list_any (opens_inbox i) es ≡ false → first_said (inbox_terms_in i) es ≡ None
  no_inbox_terms i h = none_of_is_some (first_said (inbox_terms_in i) es) (is_some-first_said (inbox_terms_in i) es ∙ h)

  new_tells : (s : SubId) (terms : SubTerms) (tag : ObjectId) → list_any (joins_sub s) es ≡ false
      → SubTells shape (es ++ joins s terms tag ∷ []) (sofar ++ to_queue terms.queue (q.Create (slot_for terms.queue table) (Sub s) (make.Sub terms.kind terms.cache shape.strategy) tag) ∷ wants_image shape s terms.kind terms.topic) (new_sub table s terms)
  new_tells s terms tag h =
      let fresh = ties.fresh_subs s h in
      let it = subs_kind.itself s in
      let more : List BridgePut = to_queue terms.queue (q.Create (slot_for terms.queue table) (Sub s) (make.Sub terms.kind terms.cache shape.strategy) tag) ∷ wants_image shape s terms.kind terms.topic in
      record {
        terms = first_said-append (terms_in s) es (joins s terms tag ∷ []) ∙ ap (λ o. option_or o (first_said (terms_in s) (joins s terms tag ∷ []))) (no_terms s h) ∙ rw it refl;
        place = first_said-append (created_in (Sub s)) sofar more ∙ ap (λ o. option_or o (first_said (created_in (Sub s)) more)) fresh.place ∙ rw it refl;
        sent = window-push s (joins s terms tag) ∙ ap (λ b. window shape s es ++ cond b (sent_with shape s (first_said (terms_in s) es) (joins s terms tag)) []) (not_live s h) ∙ append-nil (window shape s es) ∙ fresh.sent;
        wished = count_of-append (is_recap_want s) sofar more ∙ ap (λ n. n + count_of (is_recap_want s) more) fresh.wished ∙ zero-add (count_of (is_recap_want s) (wants_image shape s terms.kind terms.topic)) ∙ plain_wishes s (wants_image shape s terms.kind terms.topic) (plain_image shape s terms.kind terms.topic);
      }

  new_inbox_tells : (i : InboxId) (terms : InboxTerms) (tag : ObjectId) → list_any (opens_inbox i) es ≡ false
      → InboxTells shape (es ++ opens i terms tag ∷ []) (sofar ++ to_queue terms.queue (q.Create (slot_for terms.queue table) (Inbox i) make.Inbox tag) ∷ []) (new_inbox table i terms)
  new_inbox_tells i terms tag h =
      let fresh = ties.fresh_inboxes i h in
      let it = inboxes_kind.itself i in
      let more : List BridgePut = to_queue terms.queue (q.Create (slot_for terms.queue table) (Inbox i) make.Inbox tag) ∷ [] in
      record {
        terms = first_said-append (inbox_terms_in i) es (opens i terms tag ∷ []) ∙ ap (λ o. option_or o (first_said (inbox_terms_in i) (opens i terms tag ∷ []))) (no_inbox_terms i h) ∙ rw it refl;
        place = first_said-append (created_in (Inbox i)) sofar more ∙ ap (λ o. option_or o (first_said (created_in (Inbox i)) more)) fresh.place ∙ rw it refl;
        sent = reply_window-push i (opens i terms tag) ∙ ap (λ b. reply_window shape i es ++ cond b (replied_to i (opens i terms tag)) []) (not_open i h) ∙ append-nil (reply_window shape i es) ∙ fresh.sent;
      }

  nothing_of : (e : BridgeEvent) → ((row : SubRow) → sent_to shape row.sub row.terms.topic e ≡ []) → (more : List BridgePut) → Plain more → Each (SubTells shape (es ++ e ∷ []) (sofar ++ more)) table.subs
  nothing_of e nothing more h = quiet_tells e more nothing (λ r. plain_wishes r more h)

  sub_rows_next : (e : BridgeEvent) → Each (SubTells shape (es ++ e ∷ []) (sofar ++ table_puts shape table e)) (subs_next shape table e)
  sub_rows_next (joins s terms tag) = at (has_joined s table) refl
    where
      more : List BridgePut
      more = to_queue terms.queue (q.Create (slot_for terms.queue table) (Sub s) (make.Sub terms.kind terms.cache shape.strategy) tag) ∷ wants_image shape s terms.kind terms.topic

      at : (b : Bool) → has_joined s table ≡ b
          → Each (SubTells shape (es ++ joins s terms tag ∷ []) (sofar ++ cond b [] (to_queue terms.queue (q.Create (slot_for terms.queue table) (Sub s) (make.Sub terms.kind terms.cache shape.strategy) tag) ∷ wants_image shape s terms.kind terms.topic)))
          (cond b table.subs (table.subs ++ kept (ended_now table) (new_sub table s terms ∷ [])))
      at true h = quiet_tells (joins s terms tag) [] (λ row. refl) (λ r. refl)
      at false h =
          let puts' : List BridgePut = to_queue terms.queue (q.Create (slot_for terms.queue table) (Sub s) (make.Sub terms.kind terms.cache shape.strategy) tag) ∷ wants_image shape s terms.kind terms.topic in
          let P : SubRow → Type 0 = SubTells shape (es ++ joins s terms tag ∷ []) (sofar ++ puts') in
          each_append P table.subs (kept (ended_now table) (new_sub table s terms ∷ []))
          (quiet_tells (joins s terms tag) puts' (λ row. refl) (λ r. plain_wishes r (wants_image shape s terms.kind terms.topic) (plain_image shape s terms.kind terms.topic)))
          (kept_tells P (ended_now table) (new_sub table s terms ∷ []) (new_tells s terms tag (none_joined s false h refl), tt))
  sub_rows_next (leaves s) =
      each_filter (SubTells shape (es ++ leaves s ∷ []) (sofar ++ table_puts shape table (leaves s))) (λ row. not (of_sub s row)) table.subs
      (nothing_of (leaves s) (λ row. refl) (table_puts shape table (leaves s)) (plain_sub_ends (filter (of_sub s) table.subs)))
  sub_rows_next (opens i terms tag) = quiet_tells (opens i terms tag) (table_puts shape table (opens i terms tag)) (λ row. refl) (opens_put i terms tag)
  sub_rows_next (closes i) = nothing_of (closes i) (λ row. refl) (table_puts shape table (closes i)) (plain_inbox_ends (filter (of_inbox i) table.inboxes))
  sub_rows_next (asks i topic fids) = nothing_of (asks i topic fids) (λ row. refl) (table_puts shape table (asks i topic fids)) (asks_plain i topic fids)
  sub_rows_next (publishes r m) =
      changed_tells (publishes r m) (table_puts shape table (publishes r m)) (is_on_topic_of shape r) (sub_passed m)
      (λ row h live. passed_by row m (is_on_topic_of shape r row) (count_of (is_recap_want row.sub) (table_puts shape table (publishes r m))) (plain_wishes row.sub (table_puts shape table (publishes r m)) (plain_sub_emits m (filter (is_on_topic_of shape r) table.subs))))
  sub_rows_next (images s m) =
      changed_tells (images s m) (table_puts shape table (images s m)) (of_sub s) (sub_passed m)
      (λ row h live.
      ap (λ b. record row { wished = row.wished + count_of (is_recap_want row.sub) (table_puts shape table (images s m)); sent = row.sent ++ cond b (m ∷ []) [] }) (sub_sym s row.sub)
      ∙ passed_by row m (of_sub s row) (count_of (is_recap_want row.sub) (table_puts shape table (images s m))) (plain_wishes row.sub (table_puts shape table (images s m)) (plain_sub_emits m (filter (of_sub s) table.subs))))
  sub_rows_next (replies i body) = nothing_of (replies i body) (λ row. refl) (table_puts shape table (replies i body)) (plain_inbox_emits body (filter (of_inbox i) table.inboxes))
  sub_rows_next (wishes s sender) =
      changed_tells (wishes s sender) (table_puts shape table (wishes s sender)) (λ row. of_sub s row && may_ask shape (settling_now table) sender row) sub_wished
      (λ row h live. wished_by row (of_sub s row && may_ask shape (settling_now table) sender row) (count_of (is_recap_want row.sub) (table_puts shape table (wishes s sender)))
      (wishes_count s sender row.sub ∙ own_wish s sender row h live))
  sub_rows_next (client_done c) = closing_tells (client_done c) (λ row. refl) (begins_ending table (client_done c)) (table_puts shape table (client_done c)) (λ r. plain_wishes r (table_puts shape table (client_done c)) (plain_closing shape table (client_done c)))
  sub_rows_next (sends_done c) = closing_tells (sends_done c) (λ row. refl) (begins_ending table (sends_done c)) (table_puts shape table (sends_done c)) (λ r. plain_wishes r (table_puts shape table (sends_done c)) (plain_closing shape table (sends_done c)))
  sub_rows_next (settled c) = closing_tells (settled c) (λ row. refl) (begins_ending table (settled c)) (table_puts shape table (settled c)) (λ r. plain_wishes r (table_puts shape table (settled c)) (plain_closing shape table (settled c)))
  sub_rows_next (bye k) = quiet_tells (bye k) [] (λ row. refl) (λ r. refl)
  sub_rows_next no_event = quiet_tells no_event [] (λ row. refl) (λ r. refl)

  -- ---- the inboxes' rows

  unsent : (row : InboxRow) (x : List (List FieldData)) → x ≡ [] → ◌≡◌ {A = InboxRow} (record row { sent = row.sent ++ x }) row
  unsent row x a = rw (a, append-nil row.sent) refl

  inboxes_quiet : (e : BridgeEvent) (more : List BridgePut) → ((row : InboxRow) → replied_to row.inbox e ≡ []) → Each (InboxTells shape (es ++ e ∷ []) (sofar ++ more)) table.inboxes
  inboxes_quiet e more nothing =
      let P : InboxRow → Type 0 = InboxTells shape (es ++ e ∷ []) (sofar ++ more) in
      each_weaker (λ (row : InboxRow). P (inbox_then e row)) P table.inboxes (λ row h. subst P (unsent row (replied_to row.inbox e) (nothing row)) h) (inboxes_tell e more)

  kept_inboxes : (P : InboxRow → Type 0) (b : Bool) (rows : List InboxRow) → Each P rows → Each P (kept b rows)
  kept_inboxes P true rows h = tt
  kept_inboxes P false rows h = h

  replied_by : (row : InboxRow) (body : List FieldData) (b : Bool) → ◌≡◌ {A = InboxRow} (record row { sent = row.sent ++ cond b (body ∷ []) [] }) (cond b (inbox_passed body row) row)
  replied_by row body true = refl
  replied_by row body false = unsent row [] refl

  inbox_rows_next : (e : BridgeEvent) → Each (InboxTells shape (es ++ e ∷ []) (sofar ++ table_puts shape table e)) (inboxes_next table e)
  inbox_rows_next (opens i terms tag) = at (has_opened i table) refl
    where
      at : (b : Bool) → has_opened i table ≡ b
          → Each (InboxTells shape (es ++ opens i terms tag ∷ []) (sofar ++ cond b [] (to_queue terms.queue (q.Create (slot_for terms.queue table) (Inbox i) make.Inbox tag) ∷ [])))
          (cond b table.inboxes (table.inboxes ++ kept (ended_now table) (new_inbox table i terms ∷ [])))
      at true h = inboxes_quiet (opens i terms tag) [] (λ row. refl)
      at false h =
          let puts' : List BridgePut = to_queue terms.queue (q.Create (slot_for terms.queue table) (Inbox i) make.Inbox tag) ∷ [] in
          let P : InboxRow → Type 0 = InboxTells shape (es ++ opens i terms tag ∷ []) (sofar ++ puts') in
          each_append P table.inboxes (kept (ended_now table) (new_inbox table i terms ∷ []))
          (inboxes_quiet (opens i terms tag) puts' (λ row. refl))
          (kept_inboxes P (ended_now table) (new_inbox table i terms ∷ []) (new_inbox_tells i terms tag (none_opened i false h refl), tt))
  inbox_rows_next (closes i) =
      each_filter (InboxTells shape (es ++ closes i ∷ []) (sofar ++ table_puts shape table (closes i))) (λ row. not (of_inbox i row)) table.inboxes
      (inboxes_quiet (closes i) (table_puts shape table (closes i)) (λ row. refl))
  inbox_rows_next (replies i body) =
      let P : InboxRow → Type 0 = InboxTells shape (es ++ replies i body ∷ []) (sofar ++ table_puts shape table (replies i body)) in
      each_map P (λ (row : InboxRow). cond (of_inbox i row) (inbox_passed body row) row) table.inboxes
      (each_weaker (λ (row : InboxRow). P (inbox_then (replies i body) row)) (λ (row : InboxRow). P (cond (of_inbox i row) (inbox_passed body row) row)) table.inboxes
      (λ row h. subst P (ap (λ b. record row { sent = row.sent ++ cond b (body ∷ []) [] }) (inbox_sym i row.inbox) ∙ replied_by row body (of_inbox i row)) h)
      (inboxes_tell (replies i body) (table_puts shape table (replies i body))))
  inbox_rows_next (client_done c) = kept_inboxes (InboxTells shape (es ++ client_done c ∷ []) (sofar ++ table_puts shape table (client_done c))) (begins_ending table (client_done c)) table.inboxes (inboxes_quiet (client_done c) (table_puts shape table (client_done c)) (λ row. refl))
  inbox_rows_next (sends_done c) = kept_inboxes (InboxTells shape (es ++ sends_done c ∷ []) (sofar ++ table_puts shape table (sends_done c))) (begins_ending table (sends_done c)) table.inboxes (inboxes_quiet (sends_done c) (table_puts shape table (sends_done c)) (λ row. refl))
  inbox_rows_next (settled c) = kept_inboxes (InboxTells shape (es ++ settled c ∷ []) (sofar ++ table_puts shape table (settled c))) (begins_ending table (settled c)) table.inboxes (inboxes_quiet (settled c) (table_puts shape table (settled c)) (λ row. refl))
  inbox_rows_next (joins s terms tag) = inboxes_quiet (joins s terms tag) (table_puts shape table (joins s terms tag)) (λ row. refl)
  inbox_rows_next (leaves s) = inboxes_quiet (leaves s) (table_puts shape table (leaves s)) (λ row. refl)
  inbox_rows_next (asks i topic fids) = inboxes_quiet (asks i topic fids) (table_puts shape table (asks i topic fids)) (λ row. refl)
  inbox_rows_next (publishes r m) = inboxes_quiet (publishes r m) (table_puts shape table (publishes r m)) (λ row. refl)
  inbox_rows_next (images s m) = inboxes_quiet (images s m) (table_puts shape table (images s m)) (λ row. refl)
  inbox_rows_next (wishes s sender) = inboxes_quiet (wishes s sender) (table_puts shape table (wishes s sender)) (λ row. refl)
  inbox_rows_next (bye k) = inboxes_quiet (bye k) [] (λ row. refl)
  inbox_rows_next no_event = inboxes_quiet no_event [] (λ row. refl)

  -- ---- what did not join

  is_some_by : {A : Type 0} (b : Bool) (x : A) → is_some (cond b (Some x) None) ≡ false → b ≡ false
  is_some_by true x h = cc
  is_some_by false x h = refl

  no_sub_place : (s : SubId) (e : BridgeEvent) → joins_sub s e ≡ false → first_said (created_in (Sub s)) (table_puts shape table e) ≡ None
  no_sub_place s (joins r terms tag) h = at (has_joined r table)
    where
      other : same_sub r s ≡ false
      other = is_some_by (same_sub r s) terms h

      at : (b : Bool) → first_said (created_in (Sub s)) (cond b [] (to_queue terms.queue (q.Create (slot_for terms.queue table) (Sub r) (make.Sub terms.kind terms.cache shape.strategy) tag) ∷ wants_image shape r terms.kind terms.topic)) ≡ None
      at true = refl
      at false = rw (is_some_by (same_sub r s) terms h) (plain_places (Sub s) (wants_image shape r terms.kind terms.topic) (plain_image shape r terms.kind terms.topic))
  no_sub_place s (leaves r) h = plain_places (Sub s) (table_puts shape table (leaves r)) (plain_sub_ends (filter (of_sub r) table.subs))
  no_sub_place s (opens i terms tag) h = at (has_opened i table)
    where
      at : (b : Bool) → first_said (created_in (Sub s)) (cond b [] (to_queue terms.queue (q.Create (slot_for terms.queue table) (Inbox i) make.Inbox tag) ∷ [])) ≡ None
      at true = refl
      at false = refl
  no_sub_place s (closes i) h = plain_places (Sub s) (table_puts shape table (closes i)) (plain_inbox_ends (filter (of_inbox i) table.inboxes))
  no_sub_place s (asks i topic fids) h = plain_places (Sub s) (table_puts shape table (asks i topic fids)) (asks_plain i topic fids)
  no_sub_place s (publishes r m) h = plain_places (Sub s) (table_puts shape table (publishes r m)) (plain_sub_emits m (filter (is_on_topic_of shape r) table.subs))
  no_sub_place s (images r m) h = plain_places (Sub s) (table_puts shape table (images r m)) (plain_sub_emits m (filter (of_sub r) table.subs))
  no_sub_place s (replies i body) h = plain_places (Sub s) (table_puts shape table (replies i body)) (plain_inbox_emits body (filter (of_inbox i) table.inboxes))
  no_sub_place s (wishes r sender) h = ap (first_said (created_in (Sub s))) (wishes_are r sender) ∙ at (forwards r sender)
    where
      at : (b : Bool) → first_said (created_in (Sub s)) (cond b (to_publisher (sender - 1) (p.Want r Recap) ∷ []) []) ≡ None
      at true = refl
      at false = refl
  no_sub_place s (client_done c) h = plain_places (Sub s) (table_puts shape table (client_done c)) (plain_closing shape table (client_done c))
  no_sub_place s (sends_done c) h = plain_places (Sub s) (table_puts shape table (sends_done c)) (plain_closing shape table (sends_done c))
  no_sub_place s (settled c) h = plain_places (Sub s) (table_puts shape table (settled c)) (plain_closing shape table (settled c))
  no_sub_place s (bye k) h = refl
  no_sub_place s no_event h = refl

  no_inbox_place : (i : InboxId) (e : BridgeEvent) → opens_inbox i e ≡ false → first_said (created_in (Inbox i)) (table_puts shape table e) ≡ None
  no_inbox_place i (opens j terms tag) h = at (has_opened j table)
    where
      at : (b : Bool) → first_said (created_in (Inbox i)) (cond b [] (to_queue terms.queue (q.Create (slot_for terms.queue table) (Inbox j) make.Inbox tag) ∷ [])) ≡ None
      at true = refl
      at false = rw (is_some_by (same_inbox j i) terms h) refl
  no_inbox_place i (joins r terms tag) h = at (has_joined r table)
    where
      at : (b : Bool) → first_said (created_in (Inbox i)) (cond b [] (to_queue terms.queue (q.Create (slot_for terms.queue table) (Sub r) (make.Sub terms.kind terms.cache shape.strategy) tag) ∷ wants_image shape r terms.kind terms.topic)) ≡ None
      at true = refl
      at false = plain_places (Inbox i) (wants_image shape r terms.kind terms.topic) (plain_image shape r terms.kind terms.topic)
  no_inbox_place i (leaves r) h = plain_places (Inbox i) (table_puts shape table (leaves r)) (plain_sub_ends (filter (of_sub r) table.subs))
  no_inbox_place i (closes j) h = plain_places (Inbox i) (table_puts shape table (closes j)) (plain_inbox_ends (filter (of_inbox j) table.inboxes))
  no_inbox_place i (asks j topic fids) h = plain_places (Inbox i) (table_puts shape table (asks j topic fids)) (asks_plain j topic fids)
  no_inbox_place i (publishes r m) h = plain_places (Inbox i) (table_puts shape table (publishes r m)) (plain_sub_emits m (filter (is_on_topic_of shape r) table.subs))
  no_inbox_place i (images r m) h = plain_places (Inbox i) (table_puts shape table (images r m)) (plain_sub_emits m (filter (of_sub r) table.subs))
  no_inbox_place i (replies j body) h = plain_places (Inbox i) (table_puts shape table (replies j body)) (plain_inbox_emits body (filter (of_inbox j) table.inboxes))
  no_inbox_place i (wishes r sender) h = ap (first_said (created_in (Inbox i))) (wishes_are r sender) ∙ at (forwards r sender)
    where
      at : (b : Bool) → first_said (created_in (Inbox i)) (cond b (to_publisher (sender - 1) (p.Want r Recap) ∷ []) []) ≡ None
      at true = refl
      at false = refl
  no_inbox_place i (client_done c) h = plain_places (Inbox i) (table_puts shape table (client_done c)) (plain_closing shape table (client_done c))
  no_inbox_place i (sends_done c) h = plain_places (Inbox i) (table_puts shape table (sends_done c)) (plain_closing shape table (sends_done c))
  no_inbox_place i (settled c) h = plain_places (Inbox i) (table_puts shape table (settled c)) (plain_closing shape table (settled c))
  no_inbox_place i (bye k) h = refl
  no_inbox_place i no_event h = refl

  -- only what is live has wishes
  no_sub_wish : (s : SubId) (e : BridgeEvent) → list_any (joins_sub s) es ≡ false → count_of (is_recap_want s) (table_puts shape table e) ≡ 0
  no_sub_wish s (wishes r sender) h = wishes_count r sender s ∙ at (forwards r sender) (same_sub r s) refl refl
    where
      at : (a b : Bool) → forwards r sender ≡ a → same_sub r s ≡ b → ◌≡◌ {A = ℕ} (cond a (cond b 1 0) 0) 0
      at true true f k =
          let it : r ≡ s = subs_kind.decides r s k in
          let live : is_live shape r es ≡ true = (and_parts (is_live shape r es) (may_wish shape es sofar r sender (first_said (terms_in r) es)) f).0 in
          let dead : is_live shape r es ≡ false = not_live r (subst (λ (x : SubId). list_any (joins_sub x) es ≡ false) (sym it) h) in
          cc
      at true false f k = refl
      at false b f k = refl
  no_sub_wish s (joins r terms tag) h = joins_put r terms tag s
  no_sub_wish s (leaves r) h = plain_wishes s (table_puts shape table (leaves r)) (plain_sub_ends (filter (of_sub r) table.subs))
  no_sub_wish s (opens i terms tag) h = opens_put i terms tag s
  no_sub_wish s (closes i) h = plain_wishes s (table_puts shape table (closes i)) (plain_inbox_ends (filter (of_inbox i) table.inboxes))
  no_sub_wish s (asks i topic fids) h = plain_wishes s (table_puts shape table (asks i topic fids)) (asks_plain i topic fids)
  no_sub_wish s (publishes r m) h = plain_wishes s (table_puts shape table (publishes r m)) (plain_sub_emits m (filter (is_on_topic_of shape r) table.subs))
  no_sub_wish s (images r m) h = plain_wishes s (table_puts shape table (images r m)) (plain_sub_emits m (filter (of_sub r) table.subs))
  no_sub_wish s (replies i body) h = plain_wishes s (table_puts shape table (replies i body)) (plain_inbox_emits body (filter (of_inbox i) table.inboxes))
  no_sub_wish s (client_done c) h = plain_wishes s (table_puts shape table (client_done c)) (plain_closing shape table (client_done c))
  no_sub_wish s (sends_done c) h = plain_wishes s (table_puts shape table (sends_done c)) (plain_closing shape table (sends_done c))
  no_sub_wish s (settled c) h = plain_wishes s (table_puts shape table (settled c)) (plain_closing shape table (settled c))
  no_sub_wish s (bye k) h = refl
  no_sub_wish s no_event h = refl

  fresh_subs_next : (e : BridgeEvent) (s : SubId) → list_any (joins_sub s) (es ++ e ∷ []) ≡ false → SubFresh shape (es ++ e ∷ []) (sofar ++ table_puts shape table e) s
  fresh_subs_next e s h =
      let both : (list_any (joins_sub s) es || joins_sub s e) ≡ false = sym (list_any-push (joins_sub s) es e) ∙ h in
      let before = or_first (list_any (joins_sub s) es) (joins_sub s e) both in
      let now = or_rest (list_any (joins_sub s) es) (joins_sub s e) both in
      let fresh = ties.fresh_subs s before in
      record {
        place = first_said-append (created_in (Sub s)) sofar (table_puts shape table e) ∙ ap (λ o. option_or o (first_said (created_in (Sub s)) (table_puts shape table e))) fresh.place ∙ no_sub_place s e now;
        sent = window-push s e ∙ ap (λ b. window shape s es ++ cond b (sent_with shape s (first_said (terms_in s) es) e) []) (not_live s before) ∙ append-nil (window shape s es) ∙ fresh.sent;
        wished = count_of-append (is_recap_want s) sofar (table_puts shape table e) ∙ ap (λ n. n + count_of (is_recap_want s) (table_puts shape table e)) fresh.wished ∙ ap (λ n. 0 + n) (no_sub_wish s e before);
      }

  fresh_inboxes_next : (e : BridgeEvent) (i : InboxId) → list_any (opens_inbox i) (es ++ e ∷ []) ≡ false → InboxFresh shape (es ++ e ∷ []) (sofar ++ table_puts shape table e) i
  fresh_inboxes_next e i h =
      let both : (list_any (opens_inbox i) es || opens_inbox i e) ≡ false = sym (list_any-push (opens_inbox i) es e) ∙ h in
      let before = or_first (list_any (opens_inbox i) es) (opens_inbox i e) both in
      let now = or_rest (list_any (opens_inbox i) es) (opens_inbox i e) both in
      let fresh = ties.fresh_inboxes i before in
      record {
        place = first_said-append (created_in (Inbox i)) sofar (table_puts shape table e) ∙ ap (λ o. option_or o (first_said (created_in (Inbox i)) (table_puts shape table e))) fresh.place ∙ no_inbox_place i e now;
        sent = reply_window-push i e ∙ ap (λ b. reply_window shape i es ++ cond b (replied_to i e) []) (not_open i before) ∙ append-nil (reply_window shape i es) ∙ fresh.sent;
      }

  pub ties_next : (e : BridgeEvent) → Ties shape (es ++ e ∷ []) (sofar ++ bridge_reaction shape es sofar e) (table_next shape table e)
  ties_next e = rw (reaction shape es sofar table ties e) (record {
    counted = counted_next shape es table e ties.counted;
    joined = joined_next_is e;
    opened = opened_next_is e;
    subs = subs_next_is e;
    inboxes = inboxes_next_is e;
    sub_rows = sub_rows_next e;
    inbox_rows = inbox_rows_next e;
    fresh_subs = fresh_subs_next e;
    fresh_inboxes = fresh_inboxes_next e;
  })

pub ties_none : (shape : Shape) → Ties shape [] [] (empty_table shape)
ties_none shape = record {
  counted = counted_none shape;
  joined = refl;
  opened = refl;
  subs = refl;
  inboxes = refl;
  sub_rows = tt;
  inbox_rows = tt;
  fresh_subs = λ s h. record { place = refl; sent = refl; wished = refl };
  fresh_inboxes = λ i h. record { place = refl; sent = refl };
}

table_after-push : (shape : Shape) (table : Table) (es : List BridgeEvent) (e : BridgeEvent) → table_after shape table (es ++ e ∷ []) ≡ table_next shape (table_after shape table es) e
table_after-push shape table [] e = refl
table_after-push shape table (x ∷ es) e = table_after-push shape (table_next shape table x) es e

-- the table after one event more
pub table_of-push : (shape : Shape) (es : List BridgeEvent) (e : BridgeEvent) → table_of shape (es ++ e ∷ []) ≡ table_next shape (table_of shape es) e
table_of-push shape es e = table_after-push shape (empty_table shape) es e

-- the table is tied to what was heard and put
pub tied : (shape : Shape) (es : List BridgeEvent) → Ties shape es (all_puts (bridge_reaction shape) es) (table_of shape es)
tied shape es =
    by_entries (λ (fs : List BridgeEvent). Ties shape fs (all_puts (bridge_reaction shape) fs) (table_of shape fs)) (ties_none shape)
    (λ fs e h. rw (all_puts-push (bridge_reaction shape) fs e, table_of-push shape fs e) (ties_next shape fs (all_puts (bridge_reaction shape) fs) (table_of shape fs) h e))
    es
