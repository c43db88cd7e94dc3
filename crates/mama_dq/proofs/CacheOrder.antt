-- Cached updates ascend, and which numbers are among them.
use Rattle.std.proofs.Common.{◌≡◌, ◌≢◌, ℕ, ◌<◌, ◌≤◌, Bool, true, false, nat_lt, if◌then◌else◌, cond, List, [], ◌∷◌, length, drop, refl, ◌∙◌, arith, Ordering, Less, Equal, Greater}
use Rattle.std.proofs.lemmas.Bool.Decides.{nat_tests}
use Rattle.std.specs.Ordering.{nat_cmp, match_ordering}
use Rattle.std.specs.List.{filter}
use Rattle.std.specs.BTreeMap.{insert_entry}
use Rattle.mama_msg.specs.Field.{FieldData}
use Rattle.mama_dq.specs.Cache.{CacheData, has_number, put, trimmed, added, above}
use Rattle.mama_dq.specs.Gap.{is_lowest}
use Rattle.mama_dq.proofs.CacheLemmas.{AscendFrom}
use Rattle.mama_dq.proofs.Comparisons.{lt_true, lt_false, less_is, equal_is, greater_is}

-- the updates ascend
abbrev pub Ascend : List (ℕ × List FieldData) → Type 0
Ascend [] = Unit {0}
Ascend (e ∷ es) = AscendFrom e.0 es

pub ascend_lower : (a b : ℕ) (es : List (ℕ × List FieldData)) → a ≤ b → AscendFrom b es → AscendFrom a es
ascend_lower a b [] low ascend = tt
ascend_lower a b (e ∷ es) low ascend = (omega (arith, ascend.0), ascend.1)

pub ascend_from : (a : ℕ) (es : List (ℕ × List FieldData)) → AscendFrom a es → Ascend es
ascend_from a [] ascend = tt
ascend_from a (e ∷ es) ascend = ascend.1

ascend_from_inserted : (a : ℕ) (es : List (ℕ × List FieldData)) (n : ℕ) (body : List FieldData) → a < n → AscendFrom a es → AscendFrom a (insert_entry nat_cmp es n body)
ascend_from_inserted a [] n body below ascend = (below, tt)
ascend_from_inserted a (e ∷ es) n body below ascend =
    (elim (nat_cmp n e.0) as (λ o. nat_cmp n e.0 ≡ o → AscendFrom a (match_ordering o ((n, body) ∷ e ∷ es) ((e.0, body) ∷ es) (e ∷ insert_entry nat_cmp es n body))) [
      | Less ↦ λ less. (below, (less_is n e.0 less, ascend.1))
      | Equal ↦ λ equal. (ascend.0, ascend.1)
      | Greater ↦ λ greater. (ascend.0, ascend_from_inserted e.0 es n body (greater_is n e.0 greater) ascend.1)
    ]) refl

ascend_inserted : (es : List (ℕ × List FieldData)) (n : ℕ) (body : List FieldData) → Ascend es → Ascend (insert_entry nat_cmp es n body)
ascend_inserted [] n body ascend = tt
ascend_inserted (e ∷ es) n body ascend =
    (elim (nat_cmp n e.0) as (λ o. nat_cmp n e.0 ≡ o → Ascend (match_ordering o ((n, body) ∷ e ∷ es) ((e.0, body) ∷ es) (e ∷ insert_entry nat_cmp es n body))) [
      | Less ↦ λ less. (less_is n e.0 less, ascend)
      | Equal ↦ λ equal. ascend
      | Greater ↦ λ greater. ascend_from_inserted e.0 es n body (greater_is n e.0 greater) ascend
    ]) refl

pub ascend_put : (es : List (ℕ × List FieldData)) (n : ℕ) (body : List FieldData) → Ascend es → Ascend (put es n body)
ascend_put es n body ascend = elim (has_number es n) as (λ b. Ascend (if b then es else insert_entry nat_cmp es n body)) [
  | true ↦ ascend
  | false ↦ ascend_inserted es n body ascend
]

-- an update above a number may be put among some that ascend from above it
pub ascend_from_put : (a : ℕ) (es : List (ℕ × List FieldData)) (n : ℕ) (body : List FieldData) → a < n → AscendFrom a es → AscendFrom a (put es n body)
ascend_from_put a es n body below ascend = elim (has_number es n) as (λ b. AscendFrom a (if b then es else insert_entry nat_cmp es n body)) [
  | true ↦ ascend
  | false ↦ ascend_from_inserted a es n body below ascend
]

ascend_dropped : (es : List (ℕ × List FieldData)) → Ascend es → Ascend (drop 1 es)
ascend_dropped [] ascend = tt
ascend_dropped (e ∷ es) ascend = ascend_from e.0 es ascend

ascend_trimmed : (size : ℕ) (es : List (ℕ × List FieldData)) → Ascend es → Ascend (trimmed size es)
ascend_trimmed size es ascend = elim (nat_lt size (length es)) as (λ b. Ascend (if b then drop 1 es else es)) [
  | true ↦ ascend_dropped es ascend
  | false ↦ ascend
]

-- a cache keeps its updates ascending
pub ascend_added : (cache : CacheData) (n : ℕ) (body : List FieldData) → Ascend cache.updates → Ascend (added cache n body).updates
ascend_added cache n body ascend = ascend_trimmed cache.size (put cache.updates n body) (ascend_put cache.updates n body ascend)

ascend_from_filtered : (p : ℕ × List FieldData → Bool) (a : ℕ) (es : List (ℕ × List FieldData)) → AscendFrom a es → AscendFrom a (filter p es)
ascend_from_filtered p a [] ascend = tt
ascend_from_filtered p a (e ∷ es) ascend = elim (p e) as (λ b. AscendFrom a (cond b (e ∷ filter p es) (filter p es))) [
  | true ↦ (ascend.0, ascend_from_filtered p e.0 es ascend.1)
  | false ↦ ascend_lower a e.0 (filter p es) (omega (arith, ascend.0)) (ascend_from_filtered p e.0 es ascend.1)
]

-- what is numbered above a number ascends from above it
pub ascend_above : (n : ℕ) (es : List (ℕ × List FieldData)) → Ascend es → AscendFrom n (above n es)
ascend_above n [] ascend = tt
ascend_above n (e ∷ es) ascend =
    (elim (nat_lt n e.0) as (λ b. nat_lt n e.0 ≡ b → AscendFrom n (cond b (e ∷ above n es) (above n es))) [
      | true ↦ λ up. (lt_true n e.0 up, ascend_from_filtered (λ e. nat_lt n e.0) e.0 es ascend)
      | false ↦ λ down. ascend_above n es (ascend_from e.0 es ascend)
    ]) refl

-- ---- which numbers there are

-- a number that is not among some updates is not the first one's, and not among the others
pub absent_cons : (e : ℕ × List FieldData) (es : List (ℕ × List FieldData)) (n : ℕ) → has_number (e ∷ es) n ≡ false → (n ≢ e.0) × (has_number es n ≡ false)
absent_cons e es n absent = grind (arith, nat_tests)

pub cons_absent : (e : ℕ × List FieldData) (es : List (ℕ × List FieldData)) (n : ℕ) → n ≢ e.0 → has_number es n ≡ false → has_number (e ∷ es) n ≡ false
cons_absent e es n other absent = grind (arith, nat_tests)

absent_inserted : (es : List (ℕ × List FieldData)) (k : ℕ) (body : List FieldData) (n : ℕ) → has_number (insert_entry nat_cmp es k body) n ≡ false → (n ≢ k) × (has_number es n ≡ false)
absent_inserted [] k body n absent = ((absent_cons (k, body) [] n absent).0, refl)
absent_inserted (e ∷ es) k body n absent =
    (elim (nat_cmp k e.0) as (λ o. nat_cmp k e.0 ≡ o → has_number (match_ordering o ((k, body) ∷ e ∷ es) ((e.0, body) ∷ es) (e ∷ insert_entry nat_cmp es k body)) n ≡ false → (n ≢ k) × (has_number (e ∷ es) n ≡ false)) [
      | Less ↦ λ less there. absent_cons (k, body) (e ∷ es) n there
      | Equal ↦ λ equal there. let parts = absent_cons (e.0, body) es n there in (λ same. parts.0 (same ∙ equal_is k e.0 equal), cons_absent e es n parts.0 parts.1)
      | Greater ↦ λ greater there.
          let parts = absent_cons e (insert_entry nat_cmp es k body) n there in
          let later = absent_inserted es k body n parts.1 in
          (later.0, cons_absent e es n parts.0 later.1)
    ]) refl absent

present_differs : (es : List (ℕ × List FieldData)) (k n : ℕ) → has_number es k ≡ true → has_number es n ≡ false → n ≢ k
present_differs es k n present absent = λ same. let clash : has_number es k ≡ false = rw (← same) absent in cc

-- a number that is not there once an update was put in is not the update's, and was not there before
pub absent_put : (es : List (ℕ × List FieldData)) (k : ℕ) (body : List FieldData) (n : ℕ) → has_number (put es k body) n ≡ false → (n ≢ k) × (has_number es n ≡ false)
absent_put es k body n absent =
    (elim (has_number es k) as (λ b. has_number es k ≡ b → has_number (if b then es else insert_entry nat_cmp es k body) n ≡ false → (n ≢ k) × (has_number es n ≡ false)) [
      | true ↦ λ present there. (present_differs es k n present there, there)
      | false ↦ λ fresh there. absent_inserted es k body n there
    ]) refl absent

-- a number that is above another is where all numbers are
pub absent_above : (n k : ℕ) (es : List (ℕ × List FieldData)) → n < k → has_number (above n es) k ≡ false → has_number es k ≡ false
absent_above n k [] up absent = refl
absent_above n k (e ∷ es) up absent =
    (elim (nat_lt n e.0) as (λ b. nat_lt n e.0 ≡ b → has_number (cond b (e ∷ above n es) (above n es)) k ≡ false → has_number (e ∷ es) k ≡ false) [
      | true ↦ λ high there. let parts = absent_cons e (above n es) k there in cons_absent e es k parts.0 (absent_above n k es up parts.1)
      | false ↦ λ low there. let down : e.0 ≤ n = lt_false n e.0 low in cons_absent e es k (λ same. omega arith) (absent_above n k es up there)
    ]) refl absent

-- what ascends from above a number has no lower one
pub absent_below : (a n : ℕ) (es : List (ℕ × List FieldData)) → n ≤ a → AscendFrom a es → has_number es n ≡ false
absent_below a n [] low ascend = refl
absent_below a n (e ∷ es) low ascend = cons_absent e es n (λ same. omega (arith, ascend.0)) (absent_below e.0 n es (omega (arith, ascend.0)) ascend.1)

-- a number that goes with the first update is the first one's
pub lowest_dropped : (es : List (ℕ × List FieldData)) (n : ℕ) → has_number es n ≡ true → has_number (drop 1 es) n ≡ false → is_lowest n es ≡ true
lowest_dropped [] n present absent = grind arith
lowest_dropped (e ∷ es) n present absent = grind (arith, nat_tests)
