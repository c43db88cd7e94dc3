-- The slots that the bridge gives are small: few objects are live at once.
use Rattle.std.specs.List.{AllByRecursion, list_any, flat_map}
use Rattle.std.proofs.Common.{◌≡◌, ℕ, ◌+◌, ◌*◌, ◌^◌, ◌≤◌, ◌<◌, ◌==◌, eqb, false, List, [], ◌∷◌, ◌++◌, length, map, Option, None, Some, arith}
use Rattle.std.proofs.lemmas.Bool.{cond_both}
use Rattle.std.proofs.lemmas.Nat.{mul-add-lt}
use Rattle.std.proofs.lemmas.List.{length-map, length-append}
use Rattle.mama_journal.specs.Journal.{puts}
use Rattle.mama_event.specs.declared.ids.SubId.{SubId}
use Rattle.mama_event.specs.declared.ids.InboxId.{InboxId}
use Rattle.mama_event.specs.declared.ids.ObjectId.{ObjectId}
use Rattle.mama_event.specs.declared.ids.ObjectId.TheVariants.{Sub, Inbox}
use Rattle.mama_event.specs.declared.shape.Shape.{Shape}
use Rattle.mama_event.specs.Object.{same_sub, same_inbox}
use Rattle.mama_rules_services.specs.Bridge.{BridgeEvent, joins, opens, joins_sub, opens_inbox, newly_joined, newly_opened, is_live, is_open, live_subs, open_inboxes, live_objects, BridgePut, place_of, slot_on, free_slot}
use Rattle.mama_log_line.specs.Names.{NamesData}
use Rattle.mama_laws_logged.proofs.Fits.{Names}
use Rattle.mama_laws_logged.proofs.Few.{IsFew}
use Rattle.mama_laws_logged.proofs.Once.{at_most_one, of_new, found_none, apart_ids, few_named, filter_few, flat_map_few, least_free_few}

-- ---- subscriptions

abbrev IsSmallSub : SubId → Type 0
IsSmallSub s = (s.client < 64) × (s.number < 10000)

abbrev sub_key : SubId → ℕ
sub_key s = s.client * 10000 + s.number

sub_small : (s : SubId) → IsSmallSub s → sub_key s < 640000
sub_small s small = mul-add-lt s.client 10000 s.number 64 small.0 small.1

one_sub : (before : List BridgeEvent) (e : BridgeEvent) → length (newly_joined before e) ≤ 1
one_sub before (joins s terms tag) = at_most_one (list_any (joins_sub s) before) s
one_sub before _ = omega arith

sound_sub : (names : NamesData) → IsFew names → (before : List BridgeEvent) (e : BridgeEvent) → Names names e → AllByRecursion IsSmallSub (newly_joined before e)
sound_sub names few before (joins s terms tag) h = of_new IsSmallSub (list_any (joins_sub s) before) s (λ none. few.subs s h.0)
sound_sub names few before _ h = tt

fresh_sub : (before : List BridgeEvent) (e : BridgeEvent) → AllByRecursion (λ s. list_any (joins_sub s) before ≡ false) (newly_joined before e)
fresh_sub before (joins s terms tag) = of_new (λ r. list_any (joins_sub r) before ≡ false) (list_any (joins_sub s) before) s (λ none. none)
fresh_sub before _ = tt

apart_sub : (before : List BridgeEvent) (e : BridgeEvent) (r : SubId) → IsSmallSub r → joins_sub r e ≡ false
    → AllByRecursion (λ s. IsSmallSub s → eqb (sub_key s) (sub_key r) ≡ false) (newly_joined before e)
apart_sub before (joins s terms tag) r small apart =
    of_new (λ t. IsSmallSub t → eqb (sub_key t) (sub_key r) ≡ false) (list_any (joins_sub s) before) s
    (λ none less. apart_ids 10000 s.client s.number r.client r.number less.1 small.1 (found_none (same_sub s r) terms apart))
apart_sub before _ r small apart = tt

-- ---- inboxes

abbrev IsSmallInbox : InboxId → Type 0
IsSmallInbox i = (i.client < 64) × (i.number < 1024)

abbrev inbox_key : InboxId → ℕ
inbox_key i = i.client * 1024 + i.number

inbox_small : (i : InboxId) → IsSmallInbox i → inbox_key i < 65536
inbox_small i small = mul-add-lt i.client 1024 i.number 64 small.0 small.1

one_inbox : (before : List BridgeEvent) (e : BridgeEvent) → length (newly_opened before e) ≤ 1
one_inbox before (opens i terms tag) = at_most_one (list_any (opens_inbox i) before) i
one_inbox before _ = omega arith

sound_inbox : (names : NamesData) → IsFew names → (before : List BridgeEvent) (e : BridgeEvent) → Names names e → AllByRecursion IsSmallInbox (newly_opened before e)
sound_inbox names few before (opens i terms tag) h = of_new IsSmallInbox (list_any (opens_inbox i) before) i (λ none. few.inboxes i h.0)
sound_inbox names few before _ h = tt

fresh_inbox : (before : List BridgeEvent) (e : BridgeEvent) → AllByRecursion (λ i. list_any (opens_inbox i) before ≡ false) (newly_opened before e)
fresh_inbox before (opens i terms tag) = of_new (λ j. list_any (opens_inbox j) before ≡ false) (list_any (opens_inbox i) before) i (λ none. none)
fresh_inbox before _ = tt

apart_inbox : (before : List BridgeEvent) (e : BridgeEvent) (j : InboxId) → IsSmallInbox j → opens_inbox j e ≡ false
    → AllByRecursion (λ i. IsSmallInbox i → eqb (inbox_key i) (inbox_key j) ≡ false) (newly_opened before e)
apart_inbox before (opens i terms tag) j small apart =
    of_new (λ k. IsSmallInbox k → eqb (inbox_key k) (inbox_key j) ≡ false) (list_any (opens_inbox i) before) i
    (λ none less. apart_ids 1024 i.client i.number j.client j.number less.1 small.1 (found_none (same_inbox i j) terms apart))
apart_inbox before _ j small apart = tt

-- ---- live objects, and a free slot

few_subs : (names : NamesData) → IsFew names → (es : List BridgeEvent) → AllByRecursion (Names names) es → length (puts newly_joined es) ≤ 640000
few_subs names few es all =
    few_named (Names names) IsSmallSub joins_sub sub_key newly_joined
    (record { one = one_sub; sound = sound_sub names few; fresh = fresh_sub; apart = apart_sub }) 640000 sub_small es all

few_inboxes : (names : NamesData) → IsFew names → (es : List BridgeEvent) → AllByRecursion (Names names) es → length (puts newly_opened es) ≤ 65536
few_inboxes names few es all =
    few_named (Names names) IsSmallInbox opens_inbox inbox_key newly_opened
    (record { one = one_inbox; sound = sound_inbox names few; fresh = fresh_inbox; apart = apart_inbox }) 65536 inbox_small es all

pub objects_few : (names : NamesData) → IsFew names → (shape : Shape) (es : List BridgeEvent) → AllByRecursion (Names names) es
    → length (live_objects shape es) ≤ 1000000
objects_few names few shape es all =
    let subs : List ObjectId = map (λ (s : SubId). Sub s) (live_subs shape es) in
    let inboxes : List ObjectId = map (λ (i : InboxId). Inbox i) (open_inboxes shape es) in
    let joined : length (live_subs shape es) ≤ length (puts newly_joined es) = filter_few (λ s. is_live shape s es) (puts newly_joined es) in
    let opened : length (open_inboxes shape es) ≤ length (puts newly_opened es) = filter_few (λ i. is_open shape i es) (puts newly_opened es) in
    let parts : length (subs ++ inboxes) ≡ length subs + length inboxes = length-append subs inboxes in
    let as_subs : length subs ≡ length (live_subs shape es) = length-map (live_subs shape es) (λ (s : SubId). Sub s) in
    let as_inboxes : length inboxes ≡ length (open_inboxes shape es) = length-map (open_inboxes shape es) (λ (i : InboxId). Inbox i) in
    within (length (live_objects shape es)) (length subs) (length inboxes) (length (live_subs shape es)) (length (open_inboxes shape es))
    (length (puts newly_joined es)) (length (puts newly_opened es)) parts as_subs as_inboxes joined opened
    (few_subs names few es all) (few_inboxes names few es all)
  where
    within : (all subs inboxes live shown joined opened : ℕ) → all ≡ subs + inboxes → subs ≡ live → inboxes ≡ shown → live ≤ joined → shown ≤ opened
        → joined ≤ 640000 → opened ≤ 65536 → all ≤ 1000000
    within all subs inboxes live shown joined opened parts as_subs as_inboxes l o few_joined few_opened = omega arith

slot_at_most_one : (queue : ℕ) (place : Option (ℕ × ℕ)) → length (slot_on queue place) ≤ 1
slot_at_most_one queue None = omega arith
slot_at_most_one queue (Some place) = cond_both (place.0 == queue) (place.1 ∷ []) [] (λ slots. length slots ≤ 1) (λ h. omega arith) (λ h. omega arith)

pub free_slot_small : (names : NamesData) → IsFew names → (shape : Shape) (before : List BridgeEvent) (sofar : List BridgePut) (queue : ℕ)
    → AllByRecursion (Names names) before → free_slot shape before sofar queue < 2 ^ 32
free_slot_small names few shape before sofar queue all =
    let objects : List ObjectId = live_objects shape before in
    let used : List ℕ = flat_map (λ (o : ObjectId). slot_on queue (place_of o sofar)) objects in
    let one : length used ≤ length objects =
    flat_map_few (λ (o : ObjectId). slot_on queue (place_of o sofar)) (λ o. slot_at_most_one queue (place_of o sofar)) objects in
    small (free_slot shape before sofar queue) (length used) (length objects) (least_free_few used) one (objects_few names few shape before all)
  where
    small : (slot used objects : ℕ) → slot ≤ used → used ≤ objects → objects ≤ 1000000 → slot < 2 ^ 32
    small slot used objects a b c = omega arith
