-- A field put at the place of the one with its key, and how many keys are new.
use Rattle.std.specs.Prelude.{◌≡◌, ℕ, zero, suc, ◌+◌, ◌<◌, ◌≤◌, Bool, true, false, not, ◌||◌, List, [], ◌∷◌, ◌++◌, length, map, take, count_by, slice_set, refl, if◌then◌else◌}
use Rattle.std.specs.List.{HoldsAt}
use Rattle.std.proofs.Common.{ap, sym, ◌∙◌, subst, get_or, true≢false, arith}
use Rattle.std.proofs.lemmas.Bool.{or_left, or_right}
use Rattle.std.proofs.lemmas.List.Sums.{count_by_more_no, count_by_more_yes}
use Rattle.mama_msg.specs.declared.field.Key.{Key}
use Rattle.mama_msg.specs.Field.{FieldData, key_of, same_key}
use Rattle.mama_msg.specs.Keys.{same_key-Decides}
use Rattle.mama_msg.specs.Message.{AreDistinct, has_key, updated}
use Rattle.mama_msg.specs.Place.{IsPlace}
use Rattle.mama_msg.proofs.KeyedLists.{split, swapped, map_swapped_absent}

-- a field at a place has its key among all
has_key-at : (k : Key) (m : List FieldData) (i : ℕ) → i < length m → HoldsAt (λ g. same_key (key_of g) k ≡ true) m i → has_key k m ≡ true
has_key-at k [] i within h = absurd (omega arith)
has_key-at k (g ∷ gs) zero within h = or_left (same_key (key_of g) k) (has_key k gs) (h g)
has_key-at k (g ∷ gs) (suc i) within h =
    let behind : i < length gs = omega arith in
    or_right (same_key (key_of g) k) (has_key k gs) (has_key-at k gs i behind (λ d. h d))

pub has_key-place : (k : Key) (m : List FieldData) (i : ℕ) → IsPlace k m i → has_key k m ≡ true
has_key-place k m i p = has_key-at k m i p.within p.key

set-at : (m : List FieldData) (f : FieldData) (i : ℕ) → AreDistinct m → i < length m → HoldsAt (λ g. same_key (key_of g) (key_of f) ≡ true) m i → slice_set m i f ≡ updated m f
set-at [] f i d within h = absurd (omega arith)
set-at (g ∷ gs) f zero d within h =
    let sw = swapped key_of same_key same_key-Decides f in
    let own : same_key (key_of g) (key_of f) ≡ true = h g in
    let absent : has_key (key_of f) gs ≡ false = ap (λ (k : Key). has_key k gs) (sym ((same_key-Decides (key_of g) (key_of f)).0 own)) ∙ d.0 in
    ap (λ (r : List FieldData). f ∷ r) (sym (map_swapped_absent key_of same_key same_key-Decides f gs absent))
    ∙ sym (ap (λ c. if c || has_key (key_of f) gs then (if c then f else g) ∷ map sw gs else g ∷ (gs ++ f ∷ [])) own)
set-at (g ∷ gs) f (suc i) d within h =
    let sw = swapped key_of same_key same_key-Decides f in
    let behind : i < length gs = omega arith in
    let there : has_key (key_of f) gs ≡ true = has_key-at (key_of f) gs i behind (λ x. h x) in
    let other : same_key (key_of g) (key_of f) ≡ false =
    split (same_key (key_of g) (key_of f))
    (λ s. absurd (true≢false (sym there ∙ ap (λ (k : Key). has_key k gs) (sym ((same_key-Decides (key_of g) (key_of f)).0 s)) ∙ d.0)))
    (λ s. s) in
    ap (λ (r : List FieldData). g ∷ r) (set-at gs f i d.1 behind (λ x. h x))
    ∙ ap (λ b. g ∷ (if b then map sw gs else gs ++ f ∷ [])) there
    ∙ sym (ap (λ c. if c || has_key (key_of f) gs then (if c then f else g) ∷ map sw gs else g ∷ (gs ++ f ∷ [])) other
    ∙ ap (λ b. if b then g ∷ map sw gs else g ∷ (gs ++ f ∷ [])) there)

-- a field written at the place of its key updates the message
pub set-place : (m : List FieldData) (f : FieldData) (i : ℕ) → AreDistinct m → IsPlace (key_of f) m i → slice_set m i f ≡ updated m f
set-place m f i d p = set-at m f i d p.within p.key

-- the new keys so far, by what was found of the next field
pub counted_found : (m u : List FieldData) (j : ℕ) (f : FieldData) (k : Key) (i n next : ℕ) → j < length u → f ≡ get_or u j f → k ≡ key_of f → IsPlace k m i
    → n ≡ count_by (λ x. not (has_key (key_of x) m)) (take j u) → next ≡ n → next ≡ count_by (λ x. not (has_key (key_of x) m)) (take (j + 1) u)
counted_found m u j f k i n next within is key p was now =
    let test : FieldData → Bool = λ x. not (has_key (key_of x) m) in
    let there : has_key (key_of f) m ≡ true = ap (λ (x : Key). has_key x m) (sym key) ∙ has_key-place k m i p in
    let old : test (get_or u j f) ≡ false = ap test (sym is) ∙ ap not there in
    now ∙ was ∙ sym (count_by_more_no test u j f within old)

pub counted_new : (m u : List FieldData) (j : ℕ) (f : FieldData) (k : Key) (n next : ℕ) → j < length u → f ≡ get_or u j f → k ≡ key_of f → has_key k m ≡ false
    → n ≡ count_by (λ x. not (has_key (key_of x) m)) (take j u) → next ≡ n + 1 → next ≡ count_by (λ x. not (has_key (key_of x) m)) (take (j + 1) u)
counted_new m u j f k n next within is key absent was now =
    let test : FieldData → Bool = λ x. not (has_key (key_of x) m) in
    let new : test (get_or u j f) ≡ true = ap test (sym is) ∙ ap not (ap (λ (x : Key). has_key x m) (sym key) ∙ absent) in
    now ∙ ap (λ (x : ℕ). x + 1) was ∙ sym (count_by_more_yes test u j f within new)

-- a write at the place that was found for the key
pub set_found : (m n : List FieldData) (k : Key) (f : FieldData) (i : ℕ) → AreDistinct m → k ≡ key_of f → n ≡ m → IsPlace k n i → slice_set m i f ≡ updated m f
set_found m n k f i d key own p = set-place m f i d (subst (λ (x : Key). IsPlace x m i) key (subst (λ (xs : List FieldData). IsPlace k xs i) own p))

-- lists of none and of one
pub empty_of : (m : List FieldData) → length m < 1 → m ≡ []
empty_of [] short = refl
empty_of (f ∷ fs) short = absurd (omega arith)

pub one_of : (m : List FieldData) (f : FieldData) → 1 ≤ length m → length m < 2 → f ≡ get_or m 0 f → m ≡ f ∷ []
one_of [] f some short is = absurd (omega arith)
one_of (g ∷ []) f some short is = ap (λ (x : FieldData). x ∷ []) (sym is)
one_of (g ∷ h ∷ hs) f some short is = absurd (omega arith)
