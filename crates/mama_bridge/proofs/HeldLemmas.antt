-- Which slots are in use after objects come and go.
use Rattle.std.specs.Prelude.{option_to_list, Option, None, Some}
use Rattle.std.specs.List.{list_any, flat_map}
use Rattle.std.proofs.Common.{◌≡◌, ℕ, suc, ◌+◌, ◌≤◌, ◌==◌, Bool, true, false, not, ◌&&◌, ◌||◌, cond, List, [], ◌∷◌, ◌++◌, map, filter, get_or, refl, sym, ◌∙◌, ap, arith, append-nil}
use Rattle.std.proofs.lemmas.Bool.{and_parts, eqb-true}
use Rattle.std.proofs.lemmas.Bool.Decides.{nat_tests}
use Rattle.std.proofs.lemmas.List.Concat.{flat_map-append}
use Rattle.std.specs.Result.{OnOk, OnErr}
use Rattle.std.specs.declared.result.Result.{Result}
use Rattle.std.specs.declared.result.Result.TheVariants.{Ok, Err}
use Rattle.mama_msg.specs.Field.{FieldData}
use Rattle.mama_journal.specs.Journal.{count_of}
use Rattle.mama_rules_services.specs.Bridge.{slot_on}
use Rattle.mama_slots.specs.Slots.{SlotData, in_use, IsNext}
use Rattle.mama_laws_bridge.specs.Table.{SubRow, InboxRow, sub_slots, inbox_slots, of_inbox, inbox_passed, changed, without, kept}
use Rattle.mama_bridge.specs.Held.{AreHeld, StayHeld, Frees}
use Rattle.mama_bridge.specs.declared.places.Place.{Place}
use Rattle.mama_bridge.specs.declared.inboxes.InboxLink.{InboxLink}
use Rattle.mama_event.specs.declared.ids.InboxId.{InboxId}
use Rattle.mama_bridge.specs.Links.{inbox_seen, inbox_link_slots, InboxFrees}
use Rattle.mama_bridge.specs.Live.{place_of}
use Rattle.mama_bridge.specs.Opened.{is_link_of}
use Rattle.mama_bridge.specs.Placed.{present, IsOnlyAt}
use Rattle.mama_bridge.proofs.ByTopic.{KeepsPlaces}
use Rattle.mama_bridge.proofs.InboxLemmas.{taken_same, open_same}
use Rattle.mama_bridge.proofs.Joining.{inbox_slots_same}
use Rattle.mama_bridge.proofs.TheOne.{none_taken}

-- ---- counting

count_append : (test : ℕ → Bool) (xs ys : List ℕ) → count_of test (xs ++ ys) ≡ count_of test xs + count_of test ys
count_append test [] ys = omega arith
count_append test (x ∷ xs) ys = at (test x) (count_append test xs ys)
  where
    at : (b : Bool) → count_of test (xs ++ ys) ≡ count_of test xs + count_of test ys → cond b (suc (count_of test (xs ++ ys))) (count_of test (xs ++ ys)) ≡ cond b (suc (count_of test xs)) (count_of test xs) + count_of test ys
    at true h = omega (arith, h)
    at false h = h

count_split : {X : Type 0} (test : ℕ → Bool) (f : X → List ℕ) (p : X → Bool) (xs : List X) → count_of test (flat_map f (filter p xs)) + count_of test (flat_map f (filter (λ x. not (p x)) xs)) ≡ count_of test (flat_map f xs)
count_split test f p [] = refl
count_split {X} test f p (x ∷ xs) = at (p x) (count_split test f p xs)
  where
    ins : List X
    ins = filter p xs

    outs : List X
    outs = filter (λ y. not (p y)) xs

    at : (b : Bool) → count_of test (flat_map f ins) + count_of test (flat_map f outs) ≡ count_of test (flat_map f xs)
        → count_of test (flat_map f (cond b (x ∷ ins) ins)) + count_of test (flat_map f (cond (not b) (x ∷ outs) outs)) ≡ count_of test (flat_map f (x ∷ xs))
    at true h =
        let a : count_of test (f x ++ flat_map f ins) ≡ count_of test (f x) + count_of test (flat_map f ins) = count_append test (f x) (flat_map f ins) in
        let b : count_of test (f x ++ flat_map f xs) ≡ count_of test (f x) + count_of test (flat_map f xs) = count_append test (f x) (flat_map f xs) in
        omega (arith, h, a, b)
    at false h =
        let a : count_of test (f x ++ flat_map f outs) ≡ count_of test (f x) + count_of test (flat_map f outs) = count_append test (f x) (flat_map f outs) in
        let b : count_of test (f x ++ flat_map f xs) ≡ count_of test (f x) + count_of test (flat_map f xs) = count_append test (f x) (flat_map f xs) in
        omega (arith, h, a, b)

some_counted : (test : ℕ → Bool) (xs : List ℕ) → list_any test xs ≡ true → 1 ≤ count_of test xs
some_counted test [] h = cc
some_counted test (x ∷ xs) h = at (test x) h (some_counted test xs)
  where
    at : (b : Bool) → (b || list_any test xs) ≡ true → (list_any test xs ≡ true → 1 ≤ count_of test xs) → 1 ≤ cond b (suc (count_of test xs)) (count_of test xs)
    at true h ih = omega arith
    at false h ih = ih h

none_counted : (test : ℕ → Bool) (xs : List ℕ) → list_any test xs ≡ false → count_of test xs ≡ 0
none_counted test [] h = refl
none_counted test (x ∷ xs) h = at (test x) h (none_counted test xs)
  where
    at : (b : Bool) → (b || list_any test xs) ≡ false → (list_any test xs ≡ false → count_of test xs ≡ 0) → cond b (suc (count_of test xs)) (count_of test xs) ≡ 0
    at true h ih = cc
    at false h ih = ih h

-- ---- one object's slot

flips : (queue slot of k : ℕ) → ((queue == of) && (slot == k)) ≡ (of == queue && k == slot)
flips queue slot of k = grind (arith, nat_tests)

one_counted : (queue slot of k : ℕ) → count_of (λ n. n == k) (cond (queue == of) (slot ∷ []) [] ++ []) ≡ cond (of == queue && k == slot) 1 0
one_counted queue slot of k = at (queue == of) ∙ ap (λ (b : Bool). cond b 1 0) (flips queue slot of k)
  where
    at : (b : Bool) → count_of (λ n. n == k) (cond b (slot ∷ []) [] ++ []) ≡ cond (b && (slot == k)) 1 0
    at true = refl
    at false = refl

-- the slot of one object is among its own alone
pub one_found : (queue slot of k : ℕ) → list_any (λ n. n == k) (cond (queue == of) (slot ∷ []) [] ++ []) ≡ (of == queue && k == slot)
one_found queue slot of k = at (queue == of) ∙ flips queue slot of k
  where
    or_false : (b : Bool) → (b || false) ≡ b
    or_false true = refl
    or_false false = refl

    at : (b : Bool) → list_any (λ n. n == k) (cond b (slot ∷ []) [] ++ []) ≡ (b && (slot == k))
    at true = or_false (slot == k)
    at false = refl

-- a slot that is let go is free, and the others stay
pub one_freed : (queue slot : ℕ) (old new : SlotData) → ((of k : ℕ) → in_use new of k ≡ (in_use old of k && not (of == queue && k == slot))) → Frees (λ of. cond (queue == of) (slot ∷ []) [] ++ []) old new
one_freed queue slot old new h of k = h of k ∙ ap (λ (b : Bool). in_use old of k && not b) (sym (one_found queue slot of k))

and_true : (b : Bool) → b ≡ (b && true)
and_true true = refl
and_true false = refl

pub none_freed : (slots : SlotData) → Frees (λ of. []) slots slots
none_freed slots of k = and_true (in_use slots of k)

heads : {V : Type 0} {v w : V} {vs ws : List V} → v ∷ vs ≡ w ∷ ws → v ≡ w
heads e = cc

-- the slot of the one place that was found is that of the rows there
pub place_freed : (place : Place) (rows : List SubRow) (old new : SlotData) → place ∷ [] ≡ map place_of rows → ((of k : ℕ) → in_use new of k ≡ (in_use old of k && not (of == place.queue && k == place.slot)))
    → Frees (λ of. sub_slots of rows) old new
place_freed place [] old new e h of k = cc
place_freed place (row ∷ []) old new e h of k =
    one_freed place.queue place.slot old new h of k
    ∙ ap (λ (p : Place). in_use old of k && not (list_any (λ n. n == k) (cond (p.queue == of) (p.slot ∷ []) [] ++ []))) (heads e)
place_freed place (row ∷ other ∷ rows) old new e h of k = cc

pub no_place : (rows : List SubRow) (slots : SlotData) → [] ≡ map place_of rows → Frees (λ of. sub_slots of rows) slots slots
no_place [] slots e = none_freed slots
no_place (row ∷ rows) slots e = λ of k. cc

-- ---- all that are held

pub held_same : (subs : List SubRow) (inboxes : List InboxRow) (old new : SlotData) → AreHeld old subs inboxes → StayHeld old new → AreHeld new subs inboxes
held_same subs inboxes old new held same queue slot = held queue slot ∙ ap (λ (b : Bool). cond b 1 0) (sym (same queue slot))

-- the slots in use are those of the rows
pub used_is : (subs : List SubRow) (inboxes : List InboxRow) (slots : SlotData) → AreHeld slots subs inboxes → (queue k : ℕ) → in_use slots queue k ≡ list_any (λ n. n == k) (sub_slots queue subs ++ inbox_slots queue inboxes)
used_is subs inboxes slots held queue k =
    let used : List ℕ = sub_slots queue subs ++ inbox_slots queue inboxes in
    at (in_use slots queue k) (list_any (λ n. n == k) used) (count_of (λ n. n == k) used) (held queue k) (some_counted (λ n. n == k) used) (none_counted (λ n. n == k) used)
  where
    at : (u found : Bool) (n : ℕ) → n ≡ cond u 1 0 → (found ≡ true → 1 ≤ n) → (found ≡ false → n ≡ 0) → u ≡ found
    at true true n h p z = refl
    at true false n h p z = let q : n ≡ 0 = z refl in absurd (omega (arith, h, q))
    at false true n h p z = let q : 1 ≤ n = p refl in absurd (omega (arith, h, q))
    at false false n h p z = refl

fewer : (u found : Bool) (part rest : ℕ) → part + rest ≡ cond u 1 0 → (found ≡ true → 1 ≤ part) → (found ≡ false → part ≡ 0) → rest ≡ cond (u && not found) 1 0
fewer true true part rest h p z = let q : 1 ≤ part = p refl in omega (arith, h, q)
fewer true false part rest h p z = let q : part ≡ 0 = z refl in omega (arith, h, q)
fewer false true part rest h p z = let q : 1 ≤ part = p refl in omega (arith, h, q)
fewer false false part rest h p z = omega (arith, h)

more : (u hit : Bool) (n m one : ℕ) → n ≡ cond u 1 0 → one ≡ cond hit 1 0 → m ≡ n + one → (hit ≡ true → u ≡ false) → m ≡ cond (u || hit) 1 0
more true true n m one h o e f = let bad : true ≡ false = f refl in cc
more true false n m one h o e f = omega (arith, h, o, e)
more false true n m one h o e f = omega (arith, h, o, e)
more false false n m one h o e f = omega (arith, h, o, e)

-- rows are gone, and with them their slots
pub held_without_sub : (test : SubRow → Bool) (subs : List SubRow) (inboxes : List InboxRow) (old new : SlotData) → AreHeld old subs inboxes → Frees (λ of. sub_slots of (filter test subs)) old new → AreHeld new (without test subs) inboxes
held_without_sub test subs inboxes old new held frees queue slot =
    let is : ℕ → Bool = λ n. n == slot in
    let gone : List ℕ = sub_slots queue (filter test subs) in
    let left : List ℕ = sub_slots queue (without test subs) in
    let split : count_of is gone + count_of is left ≡ count_of is (sub_slots queue subs) = count_split is (λ (row : SubRow). slot_on queue (Some (row.terms.queue, row.slot))) test subs in
    let all : count_of is (sub_slots queue subs ++ inbox_slots queue inboxes) ≡ count_of is (sub_slots queue subs) + count_of is (inbox_slots queue inboxes) = count_append is (sub_slots queue subs) (inbox_slots queue inboxes) in
    let less : count_of is (left ++ inbox_slots queue inboxes) ≡ count_of is left + count_of is (inbox_slots queue inboxes) = count_append is left (inbox_slots queue inboxes) in
    let h : count_of is (sub_slots queue subs ++ inbox_slots queue inboxes) ≡ cond (in_use old queue slot) 1 0 = held queue slot in
    fewer (in_use old queue slot) (list_any is gone) (count_of is gone) (count_of is (left ++ inbox_slots queue inboxes)) (omega (arith, split, all, less, h)) (some_counted is gone) (none_counted is gone)
    ∙ ap (λ (b : Bool). cond b 1 0) (sym (frees queue slot))

pub held_without_inbox : (test : InboxRow → Bool) (subs : List SubRow) (inboxes : List InboxRow) (old new : SlotData) → AreHeld old subs inboxes → Frees (λ of. inbox_slots of (filter test inboxes)) old new → AreHeld new subs (without test inboxes)
held_without_inbox test subs inboxes old new held frees queue slot =
    let is : ℕ → Bool = λ n. n == slot in
    let gone : List ℕ = inbox_slots queue (filter test inboxes) in
    let left : List ℕ = inbox_slots queue (without test inboxes) in
    let split : count_of is gone + count_of is left ≡ count_of is (inbox_slots queue inboxes) = count_split is (λ (row : InboxRow). slot_on queue (Some (row.terms.queue, row.slot))) test inboxes in
    let all : count_of is (sub_slots queue subs ++ inbox_slots queue inboxes) ≡ count_of is (sub_slots queue subs) + count_of is (inbox_slots queue inboxes) = count_append is (sub_slots queue subs) (inbox_slots queue inboxes) in
    let less : count_of is (sub_slots queue subs ++ left) ≡ count_of is (sub_slots queue subs) + count_of is left = count_append is (sub_slots queue subs) left in
    let h : count_of is (sub_slots queue subs ++ inbox_slots queue inboxes) ≡ cond (in_use old queue slot) 1 0 = held queue slot in
    fewer (in_use old queue slot) (list_any is gone) (count_of is gone) (count_of is (sub_slots queue subs ++ left)) (omega (arith, split, all, less, h)) (some_counted is gone) (none_counted is gone)
    ∙ ap (λ (b : Bool). cond b 1 0) (sym (frees queue slot))

free_there : (slots : SlotData) (queue slot of k : ℕ) → in_use slots queue slot ≡ false → (of == queue && k == slot) ≡ true → in_use slots of k ≡ false
free_there slots queue slot of k free hit =
    let parts = and_parts (of == queue) (k == slot) hit in
    ap (λ (q : ℕ). in_use slots q k) (eqb-true of queue parts.0) ∙ ap (λ (n : ℕ). in_use slots queue n) (eqb-true k slot parts.1) ∙ free

or_false_is : (b : Bool) → b ≡ (b || false)
or_false_is true = refl
or_false_is false = refl

-- one row more, unless the ending has come, and its slot
pub held_with_sub : (ended : Bool) (subs : List SubRow) (inboxes : List InboxRow) (row : SubRow) (old new : SlotData) → AreHeld old subs inboxes → in_use old row.terms.queue row.slot ≡ false
    → ((of k : ℕ) → in_use new of k ≡ (in_use old of k || (not ended && (of == row.terms.queue && k == row.slot)))) → AreHeld new (subs ++ kept ended (row ∷ [])) inboxes
held_with_sub true subs inboxes row old new held free h queue slot =
    ap (λ (rows : List SubRow). count_of (λ n. n == slot) (sub_slots queue rows ++ inbox_slots queue inboxes)) (append-nil subs) ∙ held queue slot ∙ ap (λ (b : Bool). cond b 1 0) (or_false_is (in_use old queue slot) ∙ sym (h queue slot))
held_with_sub false subs inboxes row old new held free h queue slot =
    let is : ℕ → Bool = λ n. n == slot in
    let mine : List ℕ = sub_slots queue (row ∷ []) in
    let one : count_of is mine ≡ cond (queue == row.terms.queue && slot == row.slot) 1 0 = one_counted row.terms.queue row.slot queue slot in
    let all : count_of is (sub_slots queue subs ++ inbox_slots queue inboxes) ≡ count_of is (sub_slots queue subs) + count_of is (inbox_slots queue inboxes) = count_append is (sub_slots queue subs) (inbox_slots queue inboxes) in
    let front : count_of is (sub_slots queue (subs ++ row ∷ [])) ≡ count_of is (sub_slots queue subs) + count_of is mine =
    ap (count_of is) (flat_map-append (λ (r : SubRow). slot_on queue (Some (r.terms.queue, r.slot))) subs (row ∷ [])) ∙ count_append is (sub_slots queue subs) mine in
    let most : count_of is (sub_slots queue (subs ++ row ∷ []) ++ inbox_slots queue inboxes) ≡ count_of is (sub_slots queue (subs ++ row ∷ [])) + count_of is (inbox_slots queue inboxes) = count_append is (sub_slots queue (subs ++ row ∷ [])) (inbox_slots queue inboxes) in
    more (in_use old queue slot) (queue == row.terms.queue && slot == row.slot) (count_of is (sub_slots queue subs ++ inbox_slots queue inboxes)) (count_of is (sub_slots queue (subs ++ row ∷ []) ++ inbox_slots queue inboxes)) (count_of is mine)
    (held queue slot) one (omega (arith, all, front, most)) (free_there old row.terms.queue row.slot queue slot free)
    ∙ ap (λ (b : Bool). cond b 1 0) (sym (h queue slot))

pub held_with_inbox : (ended : Bool) (subs : List SubRow) (inboxes : List InboxRow) (row : InboxRow) (old new : SlotData) → AreHeld old subs inboxes → in_use old row.terms.queue row.slot ≡ false
    → ((of k : ℕ) → in_use new of k ≡ (in_use old of k || (not ended && (of == row.terms.queue && k == row.slot)))) → AreHeld new subs (inboxes ++ kept ended (row ∷ []))
held_with_inbox true subs inboxes row old new held free h queue slot =
    ap (λ (rows : List InboxRow). count_of (λ n. n == slot) (sub_slots queue subs ++ inbox_slots queue rows)) (append-nil inboxes) ∙ held queue slot ∙ ap (λ (b : Bool). cond b 1 0) (or_false_is (in_use old queue slot) ∙ sym (h queue slot))
held_with_inbox false subs inboxes row old new held free h queue slot =
    let is : ℕ → Bool = λ n. n == slot in
    let mine : List ℕ = inbox_slots queue (row ∷ []) in
    let one : count_of is mine ≡ cond (queue == row.terms.queue && slot == row.slot) 1 0 = one_counted row.terms.queue row.slot queue slot in
    let all : count_of is (sub_slots queue subs ++ inbox_slots queue inboxes) ≡ count_of is (sub_slots queue subs) + count_of is (inbox_slots queue inboxes) = count_append is (sub_slots queue subs) (inbox_slots queue inboxes) in
    let back : count_of is (inbox_slots queue (inboxes ++ row ∷ [])) ≡ count_of is (inbox_slots queue inboxes) + count_of is mine =
    ap (count_of is) (flat_map-append (λ (r : InboxRow). slot_on queue (Some (r.terms.queue, r.slot))) inboxes (row ∷ [])) ∙ count_append is (inbox_slots queue inboxes) mine in
    let most : count_of is (sub_slots queue subs ++ inbox_slots queue (inboxes ++ row ∷ [])) ≡ count_of is (sub_slots queue subs) + count_of is (inbox_slots queue (inboxes ++ row ∷ [])) = count_append is (sub_slots queue subs) (inbox_slots queue (inboxes ++ row ∷ [])) in
    more (in_use old queue slot) (queue == row.terms.queue && slot == row.slot) (count_of is (sub_slots queue subs ++ inbox_slots queue inboxes)) (count_of is (sub_slots queue subs ++ inbox_slots queue (inboxes ++ row ∷ []))) (count_of is mine)
    (held queue slot) one (omega (arith, all, back, most)) (free_there old row.terms.queue row.slot queue slot free)
    ∙ ap (λ (b : Bool). cond b 1 0) (sym (h queue slot))

-- at the ending all slots are free
pub held_kept : (ends : Bool) (subs : List SubRow) (inboxes : List InboxRow) (old new : SlotData) → AreHeld old subs inboxes → ((of k : ℕ) → in_use new of k ≡ cond ends false (in_use old of k)) → AreHeld new (kept ends subs) (kept ends inboxes)
held_kept true subs inboxes old new held h queue slot = ap (λ (b : Bool). cond b 1 0) (sym (h queue slot))
held_kept false subs inboxes old new held h queue slot = held queue slot ∙ ap (λ (b : Bool). cond b 1 0) (sym (h queue slot))

-- what is done to a row leaves its slot
slots_kept : (test : SubRow → Bool) (f : SubRow → SubRow) → KeepsPlaces f → (queue : ℕ) (rows : List SubRow) → sub_slots queue (changed test f rows) ≡ sub_slots queue rows
slots_kept test f k queue [] = refl
slots_kept test f k queue (row ∷ rows) = at (test row) (slots_kept test f k queue rows)
  where
    rest : List ℕ
    rest = sub_slots queue (changed test f rows)

    at : (b : Bool) → rest ≡ sub_slots queue rows → slot_on queue (Some ((cond b (f row) row).terms.queue, (cond b (f row) row).slot)) ++ rest ≡ slot_on queue (Some (row.terms.queue, row.slot)) ++ sub_slots queue rows
    at true h = ap (λ (p : Place). slot_on queue (Some (p.queue, p.slot)) ++ rest) (k row) ∙ ap (λ (xs : List ℕ). slot_on queue (Some (row.terms.queue, row.slot)) ++ xs) h
    at false h = ap (λ (xs : List ℕ). slot_on queue (Some (row.terms.queue, row.slot)) ++ xs) h

pub held_changed : (test : SubRow → Bool) (f : SubRow → SubRow) → KeepsPlaces f → (subs : List SubRow) (inboxes : List InboxRow) (slots : SlotData) → AreHeld slots subs inboxes → AreHeld slots (changed test f subs) inboxes
held_changed test f k subs inboxes slots held queue slot = ap (λ (xs : List ℕ). count_of (λ n. n == slot) (xs ++ inbox_slots queue inboxes)) (slots_kept test f k queue subs) ∙ held queue slot

inbox_slots_kept : (test : InboxRow → Bool) (body : List FieldData) (queue : ℕ) (rows : List InboxRow) → inbox_slots queue (changed test (inbox_passed body) rows) ≡ inbox_slots queue rows
inbox_slots_kept test body queue [] = refl
inbox_slots_kept test body queue (row ∷ rows) = at (test row) (inbox_slots_kept test body queue rows)
  where
    rest : List ℕ
    rest = inbox_slots queue (changed test (inbox_passed body) rows)

    at : (b : Bool) → rest ≡ inbox_slots queue rows → slot_on queue (Some ((cond b (inbox_passed body row) row).terms.queue, (cond b (inbox_passed body row) row).slot)) ++ rest ≡ slot_on queue (Some (row.terms.queue, row.slot)) ++ inbox_slots queue rows
    at true h = ap (λ (xs : List ℕ). slot_on queue (Some (row.terms.queue, row.slot)) ++ xs) h
    at false h = ap (λ (xs : List ℕ). slot_on queue (Some (row.terms.queue, row.slot)) ++ xs) h

pub held_passed : (test : InboxRow → Bool) (body : List FieldData) (subs : List SubRow) (inboxes : List InboxRow) (slots : SlotData) → AreHeld slots subs inboxes → AreHeld slots subs (changed test (inbox_passed body) inboxes)
held_passed test body subs inboxes slots held queue slot = ap (λ (xs : List ℕ). count_of (λ n. n == slot) (sub_slots queue subs ++ xs)) (inbox_slots_kept test body queue inboxes) ∙ held queue slot

-- the next slot is held, unless the ending has come
pub held_next : (old mid new : SlotData) (queue slot slot' : ℕ) (e e' : Bool) → StayHeld old mid → ((of k : ℕ) → in_use new of k ≡ (in_use mid of k || (not e && (of == queue && k == slot)))) → e ≡ e' → slot ≡ slot'
    → (of k : ℕ) → in_use new of k ≡ (in_use old of k || (not e' && (of == queue && k == slot')))
held_next old mid new queue slot slot' e e' stay step ends is of k =
    step of k ∙ ap (λ (b : Bool). b || (not e && (of == queue && k == slot))) (stay of k)
    ∙ ap (λ (b : Bool). in_use old of k || (not b && (of == queue && k == slot))) ends
    ∙ ap (λ (n : ℕ). in_use old of k || (not e' && (of == queue && k == n))) is

-- the slot that is next is free, at the least number that no row has
pub next_free : (old mid : SlotData) (queue slot slot' : ℕ) → StayHeld old mid → IsNext mid queue slot → slot ≡ slot' → in_use old queue slot' ≡ false
next_free old mid queue slot slot' stay next is = ap (in_use old queue) (sym is) ∙ sym (stay queue slot) ∙ next.free

-- two facts of one answer
pub on_ok_both : {T E P Q R : Type 0} (r : Result T E) → (P → Q → R) → OnOk r P → OnOk r Q → OnOk r R
on_ok_both (Ok v) f p q = f p q
on_ok_both (Err e) f p q = tt

pub on_err_both : {T E P Q R : Type 0} (r : Result T E) → (P → Q → R) → OnErr r P → OnErr r Q → OnErr r R
on_err_both (Ok v) f p q = tt
on_err_both (Err e) f p q = f p q

-- ---- inboxes

-- the slot of an entry is that of its row
pub entry_freed : (s : InboxId) (entries : List (Option InboxLink)) (i : ℕ) (e : Option InboxLink) (old new : SlotData) → IsOnlyAt (is_link_of s) entries i → e ≡ get_or entries i None
    → Frees (λ of. inbox_link_slots of (option_to_list e)) old new → InboxFrees s (present entries) old new
entry_freed s entries i e old new at read frees rows h of k =
    let only : filter (is_link_of s) (present entries) ≡ option_to_list e = at.only ∙ sym (ap option_to_list read) in
    frees of k
    ∙ ap (λ (xs : List ℕ). in_use old of k && not (list_any (λ n. n == k) xs))
    (inbox_slots_same of (option_to_list e) (filter (of_inbox s) rows) (sym (ap (map inbox_seen) only) ∙ taken_same s (present entries) rows h))

-- where an inbox is not open, no slot is let go
pub none_there : (s : InboxId) (links : List InboxLink) (slots : SlotData) → list_any (is_link_of s) links ≡ false → InboxFrees s links slots slots
none_there s links slots none rows h of k =
    and_true (in_use slots of k)
    ∙ ap (λ (rs : List InboxRow). in_use slots of k && not (list_any (λ n. n == k) (inbox_slots of rs))) (sym (none_taken (of_inbox s) rows (sym (open_same s links rows h) ∙ none)))
