-- A list of fids that is written into an array one by one.
use Rattle.std.proofs.Common.{◌≡◌, ℕ, zero, suc, ◌+◌, ◌-◌, ◌<◌, ◌≤◌, if◌then◌else◌, Bool, true, false, ◌&&◌, ◌||◌, ◌==◌, nat_lt, nat_le, List, ◌∷◌, [], ◌++◌, length, take, drop, replicate, set, get_or, ap, sym, ◌∙◌, refl, arith}
use Rattle.std.proofs.lemmas.List.{take_more, take_more_set, drop-set-lt, drop_more, take_all, take-append-drop}
use Rattle.std.proofs.lemmas.Bool.{lt-ltb, le-leb, and_from, and_parts, ltb-true, ne_eqb}
use Rattle.std.proofs.Math.Seq.{drop-length}
use Rattle.std.specs.List.{list_any}
use Rattle.mama_event.specs.FidList.{is_ascending_above, is_fid_list}
use Rattle.mama_event.specs.Fids.{before_zero, filled}

-- one more fid is kept
pub fid_kept : (kept fids : List ℕ) (i : ℕ) → i < length kept → i < length fids → take i kept ≡ take i fids
    → take (i + 1) (set kept i (get_or fids i 0)) ≡ take (i + 1) fids
fid_kept kept fids i room more so_far =
    take_more_set kept i (get_or fids i 0) room
    ∙ ap (λ (xs : List ℕ). xs ++ get_or fids i 0 ∷ []) so_far
    ∙ sym (take_more fids i 0 more)

-- what lies past the fids so far stays blank
pub blank_left : (kept : List ℕ) (i x : ℕ) → length kept ≡ 8 → i < 8 → drop i kept ≡ replicate (8 - i) 0
    → drop (i + 1) (set kept i x) ≡ replicate (8 - (i + 1)) 0
blank_left kept i x size room blank =
    let split : drop i kept ≡ get_or kept i 0 ∷ drop (i + 1) kept = drop_more kept i 0 (omega arith) in
    let count : 8 - i ≡ suc (8 - (i + 1)) = omega arith in
    let zeros : replicate {A = ℕ} (8 - i) 0 ≡ 0 ∷ replicate (8 - (i + 1)) 0 = ap (λ (k : ℕ). replicate {A = ℕ} k 0) count in
    let tail : drop (i + 1) kept ≡ replicate (8 - (i + 1)) 0 = cc in
    drop-set-lt (i + 1) kept i x (omega arith) ∙ tail

-- where the next fid is above the one before it, the rest decides
pub ascending_rest : (fids : List ℕ) (i before : ℕ) → i < length fids → before < get_or fids i 0
    → is_ascending_above (get_or fids i 0) (drop (i + 1) fids) ≡ is_ascending_above before (drop i fids)
ascending_rest fids i before more above =
    let x : ℕ = get_or fids i 0 in
    let test : nat_lt before x ≡ true = lt-ltb before x above in
    let passes : (nat_lt before x && is_ascending_above x (drop (i + 1) fids)) ≡ is_ascending_above x (drop (i + 1) fids) = ap (λ (b : Bool). b && is_ascending_above x (drop (i + 1) fids)) test in
    sym (ap (λ (xs : List ℕ). is_ascending_above before xs) (drop_more fids i 0 more) ∙ passes)

-- what was kept whole is the list, filled up
pub all_kept : (kept fids : List ℕ) → length kept ≡ 8 → take (length fids) kept ≡ take (length fids) fids → drop (length fids) kept ≡ replicate (8 - length fids) 0 → kept ≡ filled fids
all_kept kept fids size front back =
    let same : take (length fids) kept ≡ fids = front ∙ take_all (length fids) fids (omega arith) in
    sym (take-append-drop (length fids) kept) ∙ ap (λ (xs : List ℕ). xs ++ drop (length fids) kept) same ∙ ap (λ (xs : List ℕ). fids ++ xs) back

-- such a list can be asked for
pub can_be_asked : (fids : List ℕ) (before : ℕ) → 1 ≤ length fids → length fids ≤ 8 → is_ascending_above before (drop (length fids) fids) ≡ is_ascending_above 0 fids → is_fid_list fids ≡ true
can_be_asked fids before some most rest =
    let ascending : is_ascending_above 0 fids ≡ true = sym rest ∙ ap (λ (xs : List ℕ). is_ascending_above before xs) (drop-length fids) in
    and_from (nat_le 1 (length fids) && nat_le (length fids) 8) (is_ascending_above 0 fids)
    (and_from (nat_le 1 (length fids)) (nat_le (length fids) 8) (le-leb 1 (length fids) some) (le-leb (length fids) 8 most)) ascending

zeros_end : (k : ℕ) → before_zero (replicate k 0) ≡ []
zeros_end zero = refl
zeros_end (suc k) = refl

-- an ascending list ends where zeros begin
pub ends_at_zeros : (bound : ℕ) (fids : List ℕ) (k : ℕ) → is_ascending_above bound fids ≡ true → before_zero (fids ++ replicate k 0) ≡ fids
ends_at_zeros bound [] k ascending = zeros_end k
ends_at_zeros bound (f ∷ fs) k ascending =
    let parts = and_parts (nat_lt bound f) (is_ascending_above f fs) ascending in
    let above : bound < f = ltb-true bound f parts.0 in
    let other : (f == 0) ≡ false = ne_eqb f 0 (λ same. omega arith) in
    let rest : List ℕ = before_zero (fs ++ replicate k 0) in
    ap (λ (b : Bool). if b then [] else f ∷ rest) other ∙ ap (λ (xs : List ℕ). f ∷ xs) (ends_at_zeros f fs k parts.1)

-- so the list is found again where it was filled up
pub filled_again : (fids : List ℕ) → is_fid_list fids ≡ true → before_zero (filled fids) ≡ fids
filled_again fids form = ends_at_zeros 0 fids (8 - length fids) (and_parts (nat_le 1 (length fids) && nat_le (length fids) 8) (is_ascending_above 0 fids) form).1

-- the numbers before the first 0, from some place on
pub from_place : (xs : List ℕ) (i : ℕ) → i < length xs → before_zero (drop i xs) ≡ (if get_or xs i 0 == 0 then [] else get_or xs i 0 ∷ before_zero (drop (i + 1) xs))
from_place xs i within = ap before_zero (drop_more xs i 0 within)

-- each fid of an ascending list is above the bound
pub ascending_at : (bound : ℕ) (fids : List ℕ) (i : ℕ) → is_ascending_above bound fids ≡ true → i < length fids → bound < get_or fids i 0
ascending_at bound [] i ascending within = omega arith
ascending_at bound (f ∷ fs) zero ascending within = ltb-true bound f (and_parts (nat_lt bound f) (is_ascending_above f fs) ascending).0
ascending_at bound (f ∷ fs) (suc i) ascending within =
    let parts = and_parts (nat_lt bound f) (is_ascending_above f fs) ascending in
    let first : bound < f = ltb-true bound f parts.0 in
    let later : f < get_or fs i 0 = ascending_at f fs i parts.1 (omega arith) in
    omega arith

-- a fid of an ascending list is none of those before it
pub ascending_fresh : (bound : ℕ) (fids : List ℕ) (i : ℕ) → is_ascending_above bound fids ≡ true → i < length fids
    → list_any (λ fid. fid == get_or fids i 0) (take i fids) ≡ false
ascending_fresh bound fids zero ascending within = refl
ascending_fresh bound [] (suc i) ascending within = refl
ascending_fresh bound (f ∷ fs) (suc i) ascending within =
    let parts = and_parts (nat_lt bound f) (is_ascending_above f fs) ascending in
    let above : f < get_or fs i 0 = ascending_at f fs i parts.1 (omega arith) in
    let other : (f == get_or fs i 0) ≡ false = ne_eqb f (get_or fs i 0) (λ same. omega arith) in
    ap (λ (b : Bool). b || list_any (λ fid. fid == get_or fs i 0) (take i fs)) other ∙ ascending_fresh f fs i parts.1 (omega arith)

-- no fid of an ascending list is 0
pub ascending_above_none : (bound : ℕ) (fids : List ℕ) (i : ℕ) → is_ascending_above bound fids ≡ true
    → list_any (λ fid. fid == 0) (take i fids) ≡ false
ascending_above_none bound fids zero ascending = refl
ascending_above_none bound [] (suc i) ascending = refl
ascending_above_none bound (f ∷ fs) (suc i) ascending =
    let parts = and_parts (nat_lt bound f) (is_ascending_above f fs) ascending in
    let above : bound < f = ltb-true bound f parts.0 in
    let other : (f == 0) ≡ false = ne_eqb f 0 (λ same. omega arith) in
    ap (λ (b : Bool). b || list_any (λ fid. fid == 0) (take i fs)) other ∙ ascending_above_none f fs i parts.1
