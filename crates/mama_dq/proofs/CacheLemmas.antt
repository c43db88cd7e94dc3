-- What the cache's parts do to its list of updates.
use Rattle.std.proofs.Common.{◌≡◌, ◌≢◌, ℕ, suc, ◌<◌, ◌≤◌, Bool, true, false, cond, not, List, [], ◌∷◌, map, length, drop, nat_lt, Some, None, if◌then◌else◌, refl, arith, Less, Ordering, ◌∙◌, ap, sym}
use Rattle.std.proofs.lemmas.Bool.Decides.{nat_tests}
use Rattle.std.specs.Ordering.{nat_cmp, is_gt}
use Rattle.std.specs.List.{All, AllByRecursion, filter, slice_get}
use Rattle.std.proofs.lemmas.List.Elements.{recursion_from_All}
use Rattle.std.specs.List.Sorted.{IsStrictlySortedBy}
use Rattle.std.proofs.lemmas.Map.Keys.{sorted_head, sorted_tail}
use Rattle.std.specs.Map.{remove_entry, keys_of}
use Rattle.std.specs.BTreeMap.{is_at, insert_entry}
use Rattle.std.specs.BTreeMap.Range.{entries_between, IsLeBy}
use Rattle.std.specs.declared.ops.Bound.{Bound}
use Rattle.std.specs.declared.ops.Bound.TheVariants.{Included, Excluded, Unbounded}
use Rattle.std.specs.Range.Bound.{IsForward}
use Rattle.mama_msg.specs.Field.{FieldData}
use Rattle.mama_msg.specs.Message.{apply}
use Rattle.mama_dq.specs.Cache.{has_number, put, above, from_bound, lowest_number, reached, CacheData}
use Rattle.mama_dq.proofs.Comparisons.{lt_true, less_is}

-- an entry that was inserted where there was none with its key is removed again
pub removed_again : (es : List (ℕ × List FieldData)) (n : ℕ) (body : List FieldData)
    → has_number es n ≡ false → remove_entry (is_at (nat_cmp n)) (insert_entry nat_cmp es n body) ≡ es
removed_again [] n body absent = grind (arith, nat_tests)
removed_again (e ∷ es) n body absent = grind (arith, nat_tests, removed_again es n body)

-- taking back what `put` did leaves what was there
pub taken_back : (fresh : Bool) (es : List (ℕ × List FieldData)) (n : ℕ) (body : List FieldData)
    → fresh ≡ not (has_number es n)
    → (if fresh then remove_entry (is_at (nat_cmp n)) (put es n body) else put es n body) ≡ es
taken_back fresh es n body is = grind (arith, removed_again es n body)

-- the updates ascend, from above a number
abbrev pub AscendFrom : ℕ → List (ℕ × List FieldData) → Type 0
AscendFrom n [] = Unit {0}
AscendFrom n (e ∷ es) = (n < e.0) × AscendFrom e.0 es

ascend_filtered : (p : ℕ × List FieldData → Bool) (n : ℕ) (es : List (ℕ × List FieldData))
    → AllByRecursion (λ y. nat_cmp n y ≡ Less) (keys_of es) → IsStrictlySortedBy nat_cmp (keys_of es) → AscendFrom n (filter p es)
ascend_filtered p n [] all sorted = tt
ascend_filtered p n (e ∷ es) all sorted =
    elim (p e) as (λ b. AscendFrom n (cond b (e ∷ filter p es) (filter p es))) [
      | true ↦ (less_is n e.0 all.0, ascend_filtered p e.0 es (sorted_head nat_cmp e.0 (keys_of es) sorted) (sorted_tail nat_cmp e.0 (keys_of es) sorted))
      | false ↦ ascend_filtered p n es all.1 (sorted_tail nat_cmp e.0 (keys_of es) sorted)
    ]

-- what is numbered above n in an ordered map ascends from above n
pub ascend_above : (n : ℕ) (es : List (ℕ × List FieldData)) → IsStrictlySortedBy nat_cmp (keys_of es) → AscendFrom n (above n es)
ascend_above n [] sorted = tt
ascend_above n (e ∷ es) sorted =
    (elim (nat_lt n e.0) as (λ b. nat_lt n e.0 ≡ b → AscendFrom n (cond b (e ∷ above n es) (above n es))) [
      | true ↦ λ is. (lt_true n e.0 is, ascend_filtered _ e.0 es (sorted_head nat_cmp e.0 (keys_of es) sorted) (sorted_tail nat_cmp e.0 (keys_of es) sorted))
      | false ↦ λ is. ascend_above n es (sorted_tail nat_cmp e.0 (keys_of es) sorted)
    ]) refl

-- a range that begins after a number is what is numbered above it
pub between_above : (n : ℕ) (es : List (ℕ × List FieldData)) → entries_between nat_cmp (Excluded n) Unbounded es ≡ above n es
between_above n [] = refl
between_above n (e ∷ es) = grind (arith, nat_tests, between_above n es)

-- so it is with any bound
pub between_bound : (from : Bound ℕ) (es : List (ℕ × List FieldData)) → entries_between nat_cmp from Unbounded es ≡ from_bound from es
between_bound Unbounded [] = refl
between_bound Unbounded (e ∷ es) = ap (λ (xs : List (ℕ × List FieldData)). e ∷ xs) (between_bound Unbounded es)
between_bound (Excluded n) es = between_above n es
between_bound (Included n) [] = refl
between_bound (Included n) (e ∷ es) = grind (arith, nat_tests, between_bound (Included n) es)

-- a range with no end is one
pub forward_from : (P Q : ℕ → ℕ → Type 0) (from : Bound ℕ) → IsForward P Q from Unbounded
forward_from P Q Unbounded = tt
forward_from P Q (Excluded n) = tt
forward_from P Q (Included n) = tt

-- ---- the lowest number

pub lowest_first : (es : List (ℕ × List FieldData)) (k : ℕ) (body : List FieldData) → slice_get es 0 ≡ Some (k, body) → Some k ≡ lowest_number es
lowest_first [] k body is = absurd cc
lowest_first (e ∷ es) k body is = let same : e ≡ (k, body) = cc in ap (λ (x : ℕ × List FieldData). Some x.0) (sym same)

pub lowest_of_none : (es : List (ℕ × List FieldData)) → length es ≡ 0 → None ≡ lowest_number es
lowest_of_none [] is = refl
lowest_of_none (e ∷ es) is = absurd (omega arith)

at_least : (a b : ℕ) → is_gt (nat_cmp a b) ≡ false → a ≤ b
at_least a b is = grind (arith, nat_tests)

above_low : (n k : ℕ) (es : List (ℕ × List FieldData)) → n < k → AllByRecursion (IsLeBy nat_cmp k) (keys_of es) → above n es ≡ es
above_low n k [] low all = refl
above_low n k (e ∷ es) low all =
    let up : k ≤ e.0 = at_least k e.0 all.0 in
    let here : nat_lt n e.0 ≡ true = grind (arith, nat_tests) in
    rw here (ap (λ (xs : List (ℕ × List FieldData)). e ∷ xs) (above_low n k es low all.1))

-- what is all at or above a number is all above a lower one
pub all_above_lowest : (n k : ℕ) (es : List (ℕ × List FieldData)) → n < k → All (IsLeBy nat_cmp k) (keys_of es) → above n es ≡ es
all_above_lowest n k es low all = above_low n k es low (recursion_from_All (IsLeBy nat_cmp k) (keys_of es) all)

-- the lowest number may be dropped, if it is not above
pub above_dropped : (n k : ℕ) (es : List (ℕ × List FieldData)) → lowest_number es ≡ Some k → k ≤ n → above n (drop 1 es) ≡ above n es
above_dropped n k [] is low = refl
above_dropped n k (e ∷ es) is low =
    let same : e.0 ≡ k = cc in
    let here : nat_lt n e.0 ≡ false = grind (arith, nat_tests) in
    rw here refl

pub fewer_dropped : (k : ℕ) (es : List (ℕ × List FieldData)) → lowest_number es ≡ Some k → length (drop 1 es) < length es
fewer_dropped k [] is = absurd cc
fewer_dropped k (e ∷ es) is = omega arith

pub none_above : (n : ℕ) (es : List (ℕ × List FieldData)) → lowest_number es ≡ None → above n es ≡ []
none_above n [] is = refl
none_above n (e ∷ es) is = absurd cc

-- updates up to n play no part in what a record at n or after it reaches
pub reached_above : (n at : ℕ) (es : List (ℕ × List FieldData)) (body : List FieldData) → n ≤ at → reached (above n es) at body ≡ reached es at body
reached_above n at [] body low = refl
reached_above n at (e ∷ es) body low = grind (arith, nat_tests, reached_above n at es body, reached_above n (suc at) es (apply body e.1))

-- nothing is reached past a hole
pub reached_hole : (n at : ℕ) (es : List (ℕ × List FieldData)) (body : List FieldData) → suc at ≤ n → AscendFrom n es → reached es at body ≡ record { number = at; body = body }
reached_hole n at [] body past ascend = refl
reached_hole n at (e ∷ es) body past ascend = grind (arith, nat_tests, reached_hole e.0 at es body)

-- the same of a whole cache
pub cache_taken_back : (fresh : Bool) (old mid : CacheData) (n : ℕ) (body : List FieldData)
    → fresh ≡ not (has_number old.updates n)
    → mid ≡ record old { updates = put old.updates n body }
    → (if fresh then record mid { updates = remove_entry (is_at (nat_cmp n)) mid.updates } else mid) ≡ old
cache_taken_back true old mid n body is was = rw was (ap (λ (es : List (ℕ × List FieldData)). record { size = old.size; updates = es }) (taken_back true old.updates n body is))
cache_taken_back false old mid n body is was = rw was (ap (λ (es : List (ℕ × List FieldData)). record { size = old.size; updates = es }) (taken_back false old.updates n body is))

-- In a walk over what is numbered above a number: what is left reaches what all reach, and ascends from above here.
pub record Follows (rest all : List (ℕ × List FieldData)) (at number : ℕ) (image start : List FieldData) : Type 0 where
  pub reaches : reached rest at image ≡ reached all number start
  pub ascend : AscendFrom at rest

-- a walk begins with what is above the number
pub follows_above : (rest all : List (ℕ × List FieldData)) (number : ℕ) (image : List FieldData)
    → rest ≡ above number all → IsStrictlySortedBy nat_cmp (keys_of all) → Follows rest all number number image image
follows_above rest all number image is sorted = rw is (record {
  reaches = reached_above number number all image (omega arith);
  ascend = ascend_above number all sorted;
})

-- a walk ends at an update that does not follow
pub follows_hole : (rest more all : List (ℕ × List FieldData)) (e : ℕ × List FieldData) (at number : ℕ) (image start : List FieldData)
    → Follows rest all at number image start → rest ≡ e ∷ more → e.0 ≢ suc at → record { number = at; body = image } ≡ reached all number start
follows_hole rest more all e at number image start follows is other =
    let cut : Follows (e ∷ more) all at number image start = rw (← is) follows in
    let past : suc at < e.0 = grind (arith, cut.ascend.0) in
    sym (reached_hole (suc at) at (e ∷ more) image (omega arith) (past, cut.ascend.1)) ∙ cut.reaches

-- in a walk the next update is above what was reached
pub follows_up : (rest more all : List (ℕ × List FieldData)) (e : ℕ × List FieldData) (at number : ℕ) (image start : List FieldData)
    → Follows rest all at number image start → rest ≡ e ∷ more → at < e.0
follows_up rest more all e at number image start follows is =
    let cut : Follows (e ∷ more) all at number image start = rw (← is) follows in cut.ascend.0
