-- Which slots are in use after one is taken or let go.
use Rattle.std.proofs.Common.{◌≡◌, ℕ, ◌<◌, ◌≤◌, Bool, true, false, not, ◌&&◌, ◌||◌, ◌==◌, nat_lt, cond, List, [], ◌∷◌, refl, sym, subst, ap, ◌∙◌, arith}
use Rattle.std.specs.Ordering.{is_gt, is_eq}
use Rattle.std.specs.declared.ops.Bound.TheVariants.{Included}
use Rattle.std.specs.BTreeSet.{BTreeSet, IsKeyRangeOf, contains}
use Rattle.std.proofs.lemmas.Bool.{and_parts, eqb-true, both_ways, lt-ltb, false_from_ne_true}
use Rattle.std.proofs.lemmas.Bool.Decides.{nat_tests}
use Rattle.mama_slots.specs.Slots.{place_cmp, SlotData, is_freed, top_of, in_use}
use Rattle.mama_slots.specs.Tops.{IsBelowTops}
use Rattle.mama_slots.proofs.Orders.{place_ties}

pub le_queue : (a b c d : ℕ) → is_gt (place_cmp (a, b) (c, d)) ≡ false → a ≤ c
le_queue a b c d h = grind (arith, nat_tests)

pub le_slot : (a b c d : ℕ) → is_gt (place_cmp (a, b) (c, d)) ≡ false → a ≡ c → b ≤ d
le_slot a b c d h e = grind (arith, nat_tests)

pub place_le : (a b c d : ℕ) → a ≡ c → b ≤ d → is_gt (place_cmp (a, b) (c, d)) ≡ false
place_le a b c d e h = grind (arith, nat_tests)

-- a slot below the first that is free again is not free again
pub below_first : (freed : ℕ × ℕ → Bool) (queue most : ℕ) (key : ℕ × ℕ)
    → is_gt (place_cmp (queue, 0) key) ≡ false → is_gt (place_cmp key (queue, most)) ≡ false
    → ((other : ℕ × ℕ) → is_gt (place_cmp (queue, 0) other) ≡ false → is_gt (place_cmp other (queue, most)) ≡ false → freed other ≡ true → is_gt (place_cmp key other) ≡ false)
    → (k : ℕ) → k < key.1 → freed (queue, k) ≡ false
below_first freed queue most key low high first k below = false_from_ne_true (freed (queue, k)) (λ is.
    let from : queue ≤ key.0 = le_queue queue 0 key.0 key.1 low in
    let upto : key.0 ≤ queue = le_queue key.0 key.1 queue most high in
    let same : key.0 ≡ queue = omega arith in
    let within : key.1 ≤ most = le_slot key.0 key.1 queue most high same in
    let after : key.1 ≤ k = le_slot key.0 key.1 queue k (first (queue, k) (place_le queue 0 queue k refl (omega arith)) (place_le queue k queue most refl (omega arith)) is) same in
    omega arith)

-- where nothing in the range is free again, no slot is
pub none_freed : (freed : ℕ × ℕ → Bool) (queue most : ℕ)
    → ((other : ℕ × ℕ) → is_gt (place_cmp (queue, 0) other) ≡ false → is_gt (place_cmp other (queue, most)) ≡ false → freed other ≡ false)
    → (k : ℕ) → k ≤ most → freed (queue, k) ≡ false
none_freed freed queue most none k small = none (queue, k) (place_le queue 0 queue k refl (omega arith)) (place_le queue k queue most refl small)

tie : (queue slot of k : ℕ) → is_eq (place_cmp (queue, slot) (of, k)) ≡ (of == queue && k == slot)
tie queue slot of k = place_ties (queue, slot) (of, k) ∙ (grind (arith, nat_tests))

tied : (queue slot of k : ℕ) → is_eq (place_cmp (queue, slot) (of, k)) ≡ true → (of ≡ queue) × (k ≡ slot)
tied queue slot of k h =
    let parts = and_parts (of == queue) (k == slot) (sym (tie queue slot of k) ∙ h) in
    (eqb-true of queue parts.0, eqb-true k slot parts.1)

taken : (low was new tied same : Bool) → new ≡ cond tied false was → (tied ≡ true → low ≡ true) → tied ≡ same → (low && not new) ≡ ((low && not was) || same)
taken low was new true same e l t = rw (e, l refl, sym t) (or_last (not was))
  where
    or_last : (b : Bool) → true ≡ (b || true)
    or_last true = refl
    or_last false = refl
taken low was new false same e l t = rw (e, sym t) (or_none (low && not was))
  where
    or_none : (b : Bool) → b ≡ (b || false)
    or_none true = refl
    or_none false = refl

let_go : (low was new tied same : Bool) → new ≡ cond tied true was → tied ≡ same → (low && not new) ≡ ((low && not was) && not same)
let_go low was new true same e t = rw (e, sym t) (none low (low && not was))
  where
    none : (a b : Bool) → (a && false) ≡ (b && false)
    none true true = refl
    none true false = refl
    none false true = refl
    none false false = refl
let_go low was new false same e t = rw (e, sym t) (all (low && not was))
  where
    all : (b : Bool) → b ≡ (b && true)
    all true = refl
    all false = refl

-- a slot that is free again is taken
pub taken_again : (slots : SlotData) (freed : ℕ → ℕ → Bool) (queue slot : ℕ) → IsBelowTops slots → is_freed slots queue slot ≡ true
    → ((of k : ℕ) → freed of k ≡ cond (is_eq (place_cmp (queue, slot) (of, k))) false (is_freed slots of k))
    → (of k : ℕ) → (nat_lt k (top_of slots of) && not (freed of k)) ≡ (in_use slots of k || (of == queue && k == slot))
taken_again slots freed queue slot below free step of k =
    taken (nat_lt k (top_of slots of)) (is_freed slots of k) (freed of k) (is_eq (place_cmp (queue, slot) (of, k))) (of == queue && k == slot) (step of k)
    (λ t. let same = tied queue slot of k t in
    let less : k < top_of slots of = rw (same.0, same.1) (below.each queue slot free) in
    lt-ltb k (top_of slots of) less)
    (tie queue slot of k)

-- a slot is let go
pub gone_free : (slots : SlotData) (freed : ℕ → ℕ → Bool) (queue slot : ℕ)
    → ((of k : ℕ) → freed of k ≡ cond (is_eq (place_cmp (queue, slot) (of, k))) true (is_freed slots of k))
    → (of k : ℕ) → (nat_lt k (top_of slots of) && not (freed of k)) ≡ (in_use slots of k && not (of == queue && k == slot))
gone_free slots freed queue slot step of k =
    let_go (nat_lt k (top_of slots of)) (is_freed slots of k) (freed of k) (is_eq (place_cmp (queue, slot) (of, k))) (of == queue && k == slot) (step of k) (tie queue slot of k)

-- the slots that are free again stay below the tops
pub below_still : (b was new : Bool) → new ≡ cond b false was → new ≡ true → was ≡ true
below_still true was new e h = absurd (both_ways new e h)
below_still false was new e h = sym e ∙ h

pub below_with : (slots : SlotData) (queue slot : ℕ) → slot < top_of slots queue → IsBelowTops slots → (new : Bool) (of k : ℕ)
    → new ≡ cond (is_eq (place_cmp (queue, slot) (of, k))) true (is_freed slots of k) → new ≡ true → k < top_of slots of
below_with slots queue slot low below new of k step h = by_case (is_eq (place_cmp (queue, slot) (of, k))) refl
  where
    by_case : (b : Bool) → is_eq (place_cmp (queue, slot) (of, k)) ≡ b → k < top_of slots of
    by_case true t =
        let same = tied queue slot of k t in
        rw (same.0, same.1) low
    by_case false apart = below.each of k (sym (step ∙ ap (λ (b : Bool). cond b true (is_freed slots of k)) apart) ∙ h)

-- below the first slot that is free again all are in use
pub used_below : (slots : SlotData) (queue slot : ℕ) → IsBelowTops slots → is_freed slots queue slot ≡ true → ((k : ℕ) → k < slot → is_freed slots queue k ≡ false)
    → (k : ℕ) → k < slot → in_use slots queue k ≡ true
used_below slots queue slot below freed first k less =
    let top : slot < top_of slots queue = below.each queue slot freed in
    let low : nat_lt k (top_of slots queue) ≡ true = lt-ltb k (top_of slots queue) (omega arith) in
    rw (low, first k less) refl

-- the slots that come before the first of a range of free ones
pub range_first : (set : BTreeSet (ℕ × ℕ)) (queue : ℕ) (all rest : List (ℕ × ℕ)) (key : ℕ × ℕ)
    → IsKeyRangeOf place_cmp (Included (queue, 0)) (Included (queue, 4294967295)) set all → all ≡ key ∷ rest
    → (k : ℕ) → k < key.1 → contains place_cmp set (queue, k) ≡ false
range_first set queue all rest key range split =
    let P : List (ℕ × ℕ) → Type 0 = λ xs. IsKeyRangeOf place_cmp (Included (queue, 0)) (Included (queue, 4294967295)) set xs in
    let r = subst P split range in
    below_first (contains place_cmp set) queue 4294967295 key r.1.0.0 r.1.0.1 (λ other low high is. r.2 other (low, high) is)

pub range_none : (set : BTreeSet (ℕ × ℕ)) (queue : ℕ) (all : List (ℕ × ℕ))
    → IsKeyRangeOf place_cmp (Included (queue, 0)) (Included (queue, 4294967295)) set all → all ≡ []
    → (k : ℕ) → k < 4294967296 → contains place_cmp set (queue, k) ≡ false
range_none set queue all range empty k small =
    none_freed (contains place_cmp set) queue 4294967295 (λ other low high. range.5 empty other (low, high)) k (omega arith)
