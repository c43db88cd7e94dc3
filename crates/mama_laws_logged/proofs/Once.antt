-- A journal names each thing for the first time once, so a bound on the numbers of things bounds how many it names, and
-- the least free number is no greater than how many are in use.
use Rattle.std.specs.Prelude.{is_some, if◌then◌else◌}
use Rattle.std.specs.List.{AllByRecursion, list_any, flat_map, filter, IsDistinct}
use Rattle.std.proofs.Common.{◌≡◌, ℕ, zero, suc, ◌+◌, ◌*◌, ◌≤◌, ◌<◌, ◌==◌, ◌&&◌, eqb, Bool, true, false, None, Some, refl, List, [], ◌∷◌, ◌++◌, length, map, sym, ◌∙◌, arith, ⊎_elim}
use Rattle.std.proofs.lemmas.Bool.{or_cases, or_parts, cond_both, both_ways, and_from, eq-eqb, ne_eqb}
use Rattle.std.proofs.lemmas.Bool.Decides.{Decides-eqb}
use Rattle.std.proofs.lemmas.List.{length-map, length-append}
use Rattle.std.proofs.lemmas.List.Folds.{list_any-append}
use Rattle.std.proofs.lemmas.Nat.{same_from_place}
use Rattle.std.proofs.lemmas.Map.Steps.{length-le_from_distinct_below}
use Rattle.mama_journal.specs.Journal.{puts_after, puts, least_from, least_free}
use Rattle.mama_laws_genuine.proofs.Elements.{all_append, all_weaker, all_map, all_both, all_puts_after}

-- ---- how many

-- no two elements have one number
abbrev AreApart : {X : Type 0} → (X → ℕ) → List X → Type 0
AreApart key [] = Unit {0}
AreApart key (x ∷ xs) = AllByRecursion (λ y. eqb (key x) (key y) ≡ false) xs × AreApart key xs

distinct_keys : {X : Type 0} (key : X → ℕ) (xs : List X) → AreApart key xs → IsDistinct eqb (map key xs)
unfolding IsDistinct
distinct_keys key [] apart = tt
distinct_keys key (x ∷ xs) apart =
    (all_map (λ y. eqb (key x) (key y) ≡ false) (λ k. eqb (key x) k ≡ false) key (λ y h. h) xs apart.0, distinct_keys key xs apart.1)

found_below : (n : ℕ) (ks : List ℕ) → AllByRecursion (λ k. k < n) ks → (q : ℕ) → list_any (eqb q) ks ≡ true → q < n
found_below n [] all q found = absurd cc
found_below n (k ∷ ks) all q found = ⊎_elim
    (λ (here : eqb q k ≡ true). let is : q ≡ k = (Decides-eqb q k).0 here in omega (arith, all.0))
    (λ after. found_below n ks all.1 q after)
    (or_cases (eqb q k) (list_any (eqb q) ks) found)

few_apart : {X : Type 0} (key : X → ℕ) (n : ℕ) (xs : List X) → AreApart key xs → AllByRecursion (λ x. key x < n) xs → length xs ≤ n
few_apart key n xs apart small =
    let few : length (map key xs) ≤ n =
    length-le_from_distinct_below (map key xs) n (distinct_keys key xs apart)
    (found_below n (map key xs) (all_map (λ x. key x < n) (λ k. k < n) key (λ x h. h) xs small)) in
    omega (arith, length-map xs key)

-- ---- what a journal names for the first time

-- an entry names at most one thing, and none that an entry before it names. It has P where the entry has Q, and another
-- thing with P, which the entry does not name, has another number.
pub record NamesFirst {E X : Type 0} (Q : E → Type 0) (P : X → Type 0) (named : X → E → Bool) (key : X → ℕ) (at : List E → E → List X) : Type 0 where
  pub one : (before : List E) (e : E) → length (at before e) ≤ 1
  pub sound : (before : List E) (e : E) → Q e → AllByRecursion P (at before e)
  pub fresh : (before : List E) (e : E) → AllByRecursion (λ x. list_any (named x) before ≡ false) (at before e)
  pub apart : (before : List E) (e : E) (y : X) → P y → named y e ≡ false → AllByRecursion (λ x. P x → eqb (key x) (key y) ≡ false) (at before e)

-- a thing that is named where none was
pub at_most_one : {X : Type 0} (b : Bool) (x : X) → length (if b then [] else x ∷ []) ≤ 1
at_most_one true x = omega arith
at_most_one false x = omega arith

pub of_new : {X : Type 0} (P : X → Type 0) (b : Bool) (x : X) → (b ≡ false → P x) → AllByRecursion P (if b then [] else x ∷ [])
of_new P true x h = tt
of_new P false x h = (h refl, tt)

-- a test that finds nothing, and one that finds something
pub found_none : {A : Type 0} (b : Bool) (a : A) → is_some (if b then Some a else None) ≡ false → b ≡ false
found_none true a h = absurd cc
found_none false a h = refl

pub found_one : {A : Type 0} (b : Bool) (a : A) → is_some (if b then Some a else None) ≡ true → b ≡ true
found_one true a h = refl
found_one false a h = absurd cc

-- ids with small numbers have two numbers if they are two
pub apart_ids : (most c n d m : ℕ) → n < most → m < most → (c == d && n == m) ≡ false → eqb (c * most + n) (d * most + m) ≡ false
apart_ids most c n d m small less apart = ne_eqb (c * most + n) (d * most + m) (λ same.
    let parts = same_from_place c n d m most small less same in
    both_ways (c == d && n == m) apart (and_from (c == d) (n == m) (eq-eqb c d parts.0) (eq-eqb n m parts.1)))

module _ {E X : Type 0} (Q : E → Type 0) (P : X → Type 0) (named : X → E → Bool) (key : X → ℕ) (at : List E → E → List X) (first : NamesFirst Q P named key at) where
  -- what holds of a thing that neither these entries nor one more names
  split : (x : X) (before : List E) (e : E) → list_any (named x) (before ++ e ∷ []) ≡ false → (list_any (named x) before ≡ false) × (named x e ≡ false)
  split x before e none =
      let parts = or_parts (list_any (named x) before) (list_any (named x) (e ∷ [])) (sym (list_any-append (named x) before (e ∷ [])) ∙ none) in
      (parts.0, (or_parts (named x e) false parts.1).0)

  all_fresh : (before es : List E) → AllByRecursion (λ x. list_any (named x) before ≡ false) (puts_after at before es)
  all_fresh before [] = tt
  all_fresh before (e ∷ es) =
      all_append (λ x. list_any (named x) before ≡ false) (at before e) (puts_after at (before ++ e ∷ []) es) (first.fresh before e)
      (all_weaker (λ x. list_any (named x) (before ++ e ∷ []) ≡ false) (λ x. list_any (named x) before ≡ false) (λ x none. (split x before e none).0)
      (puts_after at (before ++ e ∷ []) es) (all_fresh (before ++ e ∷ []) es))

  put_before : (xs ys : List X) → length xs ≤ 1 → AllByRecursion (λ y. AllByRecursion (λ x. eqb (key x) (key y) ≡ false) xs) ys → AreApart key ys → AreApart key (xs ++ ys)
  put_before [] ys one all apart = apart
  put_before (x ∷ []) ys one all apart =
      (all_weaker (λ y. AllByRecursion (λ z. eqb (key z) (key y) ≡ false) (x ∷ [])) (λ y. eqb (key x) (key y) ≡ false) (λ y h. h.0) ys all, apart)
  put_before (x ∷ y ∷ zs) ys one all apart = absurd (omega (arith, one))

  all_apart : (before es : List E) → AllByRecursion Q es → AreApart key (puts_after at before es)
  all_apart before [] all = tt
  all_apart before (e ∷ es) all =
      let rest : List X = puts_after at (before ++ e ∷ []) es in
      let here : List X = at before e in
      let known : AllByRecursion (λ y. P y × (list_any (named y) (before ++ e ∷ []) ≡ false)) rest =
      all_both P (λ y. list_any (named y) (before ++ e ∷ []) ≡ false) rest
      (all_puts_after Q P at first.sound (before ++ e ∷ []) es all.1) (all_fresh (before ++ e ∷ []) es) in
      let each : (y : X) → P y × (list_any (named y) (before ++ e ∷ []) ≡ false) → AllByRecursion (λ x. eqb (key x) (key y) ≡ false) here =
      λ y h. all_weaker (λ x. P x × (P x → eqb (key x) (key y) ≡ false)) (λ x. eqb (key x) (key y) ≡ false) (λ x k. k.1 k.0) here
      (all_both P (λ x. P x → eqb (key x) (key y) ≡ false) here (first.sound before e all.0) (first.apart before e y h.0 (split y before e h.1).1)) in
      put_before here rest (first.one before e)
      (all_weaker (λ y. P y × (list_any (named y) (before ++ e ∷ []) ≡ false)) (λ y. AllByRecursion (λ x. eqb (key x) (key y) ≡ false) here) each rest known)
      (all_apart (before ++ e ∷ []) es all.1)

  pub few_named : (n : ℕ) → ((x : X) → P x → key x < n) → (es : List E) → AllByRecursion Q es → length (puts at es) ≤ n
  few_named n small es all =
      few_apart key n (puts at es) (all_apart [] es all)
      (all_weaker P (λ x. key x < n) small (puts at es) (all_puts_after Q P at first.sound [] es all))

-- ---- fewer things than those of a list

pub filter_few : {X : Type 0} (test : X → Bool) (xs : List X) → length (filter test xs) ≤ length xs
filter_few test [] = omega arith
filter_few test (x ∷ xs) =
    let rest : length (filter test xs) ≤ length xs = filter_few test xs in
    cond_both (test x) (x ∷ filter test xs) (filter test xs) (λ ys. length ys ≤ suc (length xs)) (λ h. omega (arith, rest)) (λ h. omega (arith, rest))

pub flat_map_few : {X Y : Type 0} (f : X → List Y) → ((x : X) → length (f x) ≤ 1) → (xs : List X) → length (flat_map f xs) ≤ length xs
flat_map_few f one [] = omega arith
flat_map_few f one (x ∷ xs) = omega (arith, length-append (f x) (flat_map f xs), one x, flat_map_few f one xs)

-- ---- the least free number

least_from_near : (used : List ℕ) (fuel k : ℕ) → least_from k fuel used ≤ k + fuel
least_from_near used zero k = omega arith
least_from_near used (suc fuel) k =
    let next : least_from (suc k) fuel used ≤ suc k + fuel = least_from_near used fuel (suc k) in
    cond_both (list_any (λ n. n == k) used) (least_from (suc k) fuel used) k (λ n. n ≤ k + suc fuel) (λ h. omega (arith, next)) (λ h. omega arith)

pub least_free_few : (used : List ℕ) → least_free used ≤ length used
least_free_few used = omega (arith, least_from_near used (length used) 0)
