-- After the ending: it stays, no rows are left, and nothing is put but for what is joined or opened.
use Rattle.std.specs.List.{list_any, flat_map}
use Rattle.std.proofs.Common.{◌≡◌, ℕ, zero, suc, Bool, true, false, not, ◌&&◌, cond, List, [], ◌∷◌, ◌++◌, map, filter, set, Option, None, Some, refl, ◌∙◌, ap}
use Rattle.std.proofs.lemmas.Bool.{and_parts, and_from, and_right}
use Rattle.mama_journal.specs.Journal.{puts}
use Rattle.mama_event.specs.declared.shape.Shape.{Shape}
use Rattle.mama_event.specs.declared.to_publisher.PublisherNote.TheVariants as p
use Rattle.mama_rules_services.specs.Bridge.{BridgeEvent, joins, leaves, opens, closes, asks, publishes, images, replies, wishes, client_done, sends_done, settled, bye, no_event, to_first, joins_sub, leaves_sub, opens_inbox, closes_inbox, lives, newly_joined, newly_opened}
use Rattle.mama_laws_bridge.specs.Table.{SubRow, InboxRow, Table, table_next, table_of, marked, client_in, sender_in, settler_in, all_set, is_settling_by, is_ended_by, of_sub, of_inbox, settling_now, ended_now, begins_settling, begins_ending, is_on_topic_of, sub_emits, inbox_emits, sub_ends, inbox_ends, sub_wishes, settles_all, ends_all, closing, table_puts}
use Rattle.mama_laws_bridge.proofs.TableLaws.{rows_are_live, flags_tell}
use Rattle.mama_laws_lawful.specs.Streams.{is_beginning}

-- ---- the ending stays

all_set_set : (flags : List Bool) (n : ℕ) → all_set flags ≡ true → all_set (set flags n true) ≡ true
all_set_set [] n h = refl
all_set_set (x ∷ xs) zero h = (and_parts x (all_set xs) h).1
all_set_set (x ∷ xs) (suc n) h = let parts = and_parts x (all_set xs) h in and_from x (all_set (set xs n true)) parts.0 (all_set_set xs n parts.1)

all_set_marked : (flags : List Bool) (said : Option ℕ) → all_set flags ≡ true → all_set (marked flags said) ≡ true
all_set_marked flags None h = h
all_set_marked flags (Some n) h = all_set_set flags n h

-- settling has begun once the ending has come
settling_too : (table : Table) → ended_now table ≡ true → settling_now table ≡ true
settling_too table h = (and_parts (settling_now table) (all_set table.settled) h).0

pub ended_stays : (shape : Shape) (table : Table) (e : BridgeEvent) → ended_now table ≡ true → ended_now (table_next shape table e) ≡ true
ended_stays shape table e h =
    let both = and_parts (all_set table.clients) (all_set table.sends) (settling_too table h) in
    and_from (all_set (marked table.clients (client_in e)) && all_set (marked table.sends (sender_in e))) (all_set (marked table.settled (settler_in e)))
    (and_from (all_set (marked table.clients (client_in e))) (all_set (marked table.sends (sender_in e))) (all_set_marked table.clients (client_in e) both.0) (all_set_marked table.sends (sender_in e) both.1))
    (all_set_marked table.settled (settler_in e) (and_parts (settling_now table) (all_set table.settled) h).1)

-- it comes once
pub ends_once : (table : Table) (e : BridgeEvent) → ended_now table ≡ true → begins_ending table e ≡ false
ends_once table e h = and_right (is_ended_by (marked table.clients (client_in e)) (marked table.sends (sender_in e)) (marked table.settled (settler_in e))) (not (ended_now table)) (ap not h)

settles_once : (table : Table) (e : BridgeEvent) → settling_now table ≡ true → begins_settling table e ≡ false
settles_once table e h = and_right (is_settling_by (marked table.clients (client_in e)) (marked table.sends (sender_in e))) (not (settling_now table)) (ap not h)

-- ---- no rows are left

none_live : {I : Type 0} (j : I → Bool) (xs : List I) → filter (λ i. j i && not true) xs ≡ []
none_live j [] = refl
none_live j (x ∷ xs) = ap (λ b. cond b (x ∷ filter (λ i. j i && not true) xs) (filter (λ i. j i && not true) xs)) (and_right (j x) false refl) ∙ none_live j xs

none_mapped : {X Y : Type 0} (f : X → Y) (xs : List X) → map f xs ≡ [] → xs ≡ []
none_mapped f [] h = refl
none_mapped f (x ∷ xs) h = cc

pub no_subs : (shape : Shape) (es : List BridgeEvent) → ended_now (table_of shape es) ≡ true → (table_of shape es).subs ≡ []
no_subs shape es h =
    none_mapped (λ (row : SubRow). row.sub) (table_of shape es).subs ((rows_are_live shape es).subs
    ∙ ap (λ b. filter (λ s. lives (joins_sub s) (leaves_sub s) es && not b) (puts newly_joined es)) ((flags_tell shape es).ended ∙ h)
    ∙ none_live (λ s. lives (joins_sub s) (leaves_sub s) es) (puts newly_joined es))

pub no_inboxes : (shape : Shape) (es : List BridgeEvent) → ended_now (table_of shape es) ≡ true → (table_of shape es).inboxes ≡ []
no_inboxes shape es h =
    none_mapped (λ (row : InboxRow). row.inbox) (table_of shape es).inboxes ((rows_are_live shape es).inboxes
    ∙ ap (λ b. filter (λ i. lives (opens_inbox i) (closes_inbox i) es && not b) (puts newly_opened es)) ((flags_tell shape es).ended ∙ h)
    ∙ none_live (λ i. lives (opens_inbox i) (closes_inbox i) es) (puts newly_opened es))

-- ---- nothing more is put

none_closing : (shape : Shape) (table : Table) (e : BridgeEvent) → ended_now table ≡ true → closing shape table e ≡ []
none_closing shape table e h =
    ap (λ (b : Bool). cond b (settles_all shape) [] ++ cond (begins_ending table e) (ends_all shape table) []) (settles_once table e (settling_too table h))
    ∙ ap (λ (b : Bool). cond b (ends_all shape table) []) (ends_once table e h)

pub none_late : (shape : Shape) (table : Table) (e : BridgeEvent) → table.subs ≡ [] → table.inboxes ≡ [] → ended_now table ≡ true → is_beginning e ≡ false → table_puts shape table e ≡ []
none_late shape table (joins s terms tag) no_subs no_inboxes h b = cc
none_late shape table (leaves s) no_subs no_inboxes h b = ap (λ (rows : List SubRow). flat_map sub_ends (filter (of_sub s) rows)) no_subs
none_late shape table (opens i terms tag) no_subs no_inboxes h b = cc
none_late shape table (closes i) no_subs no_inboxes h b = ap (λ (rows : List InboxRow). flat_map inbox_ends (filter (of_inbox i) rows)) no_inboxes
none_late shape table (asks i topic fids) no_subs no_inboxes h b =
    ap (λ (rows : List InboxRow). cond (list_any (of_inbox i) rows && not (settling_now table)) (to_first shape topic (p.Ask i fids)) []) no_inboxes
none_late shape table (publishes r m) no_subs no_inboxes h b = ap (λ (rows : List SubRow). flat_map (sub_emits m) (filter (is_on_topic_of shape r) rows)) no_subs
none_late shape table (images s m) no_subs no_inboxes h b = ap (λ (rows : List SubRow). flat_map (sub_emits m) (filter (of_sub s) rows)) no_subs
none_late shape table (replies i body) no_subs no_inboxes h b = ap (λ (rows : List InboxRow). flat_map (inbox_emits body) (filter (of_inbox i) rows)) no_inboxes
none_late shape table (wishes s sender) no_subs no_inboxes h b = ap (λ (rows : List SubRow). flat_map (sub_wishes shape (settling_now table) sender) (filter (of_sub s) rows)) no_subs
none_late shape table (client_done c) no_subs no_inboxes h b = none_closing shape table (client_done c) h
none_late shape table (sends_done c) no_subs no_inboxes h b = none_closing shape table (sends_done c) h
none_late shape table (settled c) no_subs no_inboxes h b = none_closing shape table (settled c) h
none_late shape table (bye k) no_subs no_inboxes h b = refl
none_late shape table no_event no_subs no_inboxes h b = refl
