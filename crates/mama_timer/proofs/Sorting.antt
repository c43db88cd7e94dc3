-- Timers in a strict order: which timers a list in order has says which list it is.
use Rattle.std.specs.List.{list_any, AllByRecursion, filter}
use Rattle.std.specs.List.Sorted.{IsStrictlySortedBy}
use Rattle.std.proofs.Common.{◌≡◌, ℕ, nat_lt, ◌==◌, Bool, true, false, ◌&&◌, ◌||◌, cond, List, [], ◌∷◌, ◌++◌, refl, sym, ◌∙◌, ap, subst, arith, Less, ⊎_elim, ◌⊎◌}
use Rattle.std.proofs.lemmas.Bool.{both_ways, or_left, or_right, or_parts, or_from, or_cases, cases_Bool, false_from_ne_true}
use Rattle.std.proofs.lemmas.Bool.Decides.{nat_tests}
use Rattle.std.proofs.lemmas.Map.Keys.{sorted_head, sorted_tail}
use Rattle.mama_event.specs.declared.ids.TimerId.{TimerId}
use Rattle.mama_event.specs.Object.{same_timer}
use Rattle.mama_rules_services.specs.Timers.{comes_first, put_in, in_order}
use Rattle.mama_timer.specs.Order.{timer_cmp}
use Rattle.mama_timer.proofs.Orders.{same_timer-is, same_timer-itself, same_timer-flips}
use Rattle.mama_timer.proofs.Lists.{list_any-push, list_any-filter}

-- a list has a timer
abbrev pub has : TimerId → List TimerId → Bool
has t xs = list_any (λ r. same_timer r t) xs

-- a strict order of timers
pub record IsStrictOrder (first : TimerId → TimerId → Bool) : Type 0 where
  pub never : (x : TimerId) → first x x ≡ false
  pub chain : (x y z : TimerId) → first x y ≡ true → first y z ≡ true → first x z ≡ true
  pub one : (x y : TimerId) → first x y ≡ false → first y x ≡ false → x ≡ y

pub comes_first-order : IsStrictOrder comes_first
comes_first-order = record {
  never = λ x. grind (arith, nat_tests);
  chain = λ x y z h k. grind (arith, nat_tests);
  one = λ x y h k. same_timer-is x y (grind (arith, nat_tests));
}

-- by a number, and then by id
abbrev pub by_number : (TimerId → ℕ) → TimerId → TimerId → Bool
by_number f a c = nat_lt (f a) (f c) || (f a == f c && comes_first a c)

by_number-never : (n : ℕ) (b : Bool) → b ≡ false → (nat_lt n n || (n == n && b)) ≡ false
by_number-never n b h = grind (arith, nat_tests)

by_number-chain : (l m n : ℕ) (b c d : Bool) → (b ≡ true → c ≡ true → d ≡ true) → (nat_lt l m || (l == m && b)) ≡ true → (nat_lt m n || (m == n && c)) ≡ true → (nat_lt l n || (l == n && d)) ≡ true
by_number-chain l m n true true d f h k = let g = f refl refl in grind (arith, nat_tests)
by_number-chain l m n true false d f h k = grind (arith, nat_tests)
by_number-chain l m n false true d f h k = grind (arith, nat_tests)
by_number-chain l m n false false d f h k = grind (arith, nat_tests)

by_number-one : (m n : ℕ) (b c : Bool) → (nat_lt m n || (m == n && b)) ≡ false → (nat_lt n m || (n == m && c)) ≡ false → (b ≡ false) × (c ≡ false)
by_number-one m n b c h k = (grind (arith, nat_tests), grind (arith, nat_tests))

pub by_number-order : (f : TimerId → ℕ) → IsStrictOrder (by_number f)
by_number-order f = record {
  never = λ x. by_number-never (f x) (comes_first x x) (comes_first-order.never x);
  chain = λ x y z h k. by_number-chain (f x) (f y) (f z) (comes_first x y) (comes_first y z) (comes_first x z) (comes_first-order.chain x y z) h k;
  one = λ x y h k. let parts = by_number-one (f x) (f y) (comes_first x y) (comes_first y x) h k in comes_first-order.one x y parts.0 parts.1;
}

-- x comes before each of a list
abbrev pub Precedes : (TimerId → TimerId → Bool) → TimerId → List TimerId → Type 0
Precedes first x [] = Unit {0}
Precedes first x (y ∷ ys) = (first x y ≡ true) × Precedes first x ys

abbrev pub IsAscending : (TimerId → TimerId → Bool) → List TimerId → Type 0
IsAscending first [] = Unit {0}
IsAscending first (x ∷ xs) = Precedes first x xs × IsAscending first xs

-- no timer stands twice in a list
abbrev pub AreApart : List TimerId → Type 0
AreApart [] = Unit {0}
AreApart (x ∷ xs) = (has x xs ≡ false) × AreApart xs

precedes_each : (first : TimerId → TimerId → Bool) (x t : TimerId) (xs : List TimerId) → Precedes first x xs → has t xs ≡ true → first x t ≡ true
precedes_each first x t [] p h = cc
precedes_each first x t (y ∷ ys) p h = ⊎_elim
    (λ s. ap (first x) (sym (same_timer-is y t s)) ∙ p.0)
    (λ k. precedes_each first x t ys p.1 k)
    (or_cases (same_timer y t) (has t ys) h)

not_again : (first : TimerId → TimerId → Bool) → IsStrictOrder first → (x : TimerId) (xs : List TimerId) → Precedes first x xs → has x xs ≡ false
not_again first o x xs p = false_from_ne_true (has x xs) (λ h. both_ways (first x x) (o.never x) (precedes_each first x x xs p h))

heads : (first : TimerId → TimerId → Bool) → IsStrictOrder first → (x y : TimerId) (xs ys : List TimerId)
    → Precedes first x xs → Precedes first y ys → has x (y ∷ ys) ≡ true → has y (x ∷ xs) ≡ true → x ≡ y
heads first o x y xs ys p q h k = ⊎_elim
    (λ s. sym (same_timer-is y x s))
    (λ after. ⊎_elim
    (λ s. same_timer-is x y s)
    (λ before. absurd (both_ways (first x x) (o.never x) (o.chain x y x (precedes_each first x y xs p before) (precedes_each first y x ys q after))))
    (or_cases (same_timer x y) (has y xs) k))
    (or_cases (same_timer y x) (has x ys) h)

tail_has : (first : TimerId → TimerId → Bool) → IsStrictOrder first → (x t : TimerId) (xs ys : List TimerId)
    → Precedes first x xs → Precedes first x ys → (same_timer x t || has t xs) ≡ (same_timer x t || has t ys) → has t xs ≡ has t ys
tail_has first o x t xs ys p q e = by_case (same_timer x t) refl e
  where
    by_case : (b : Bool) → same_timer x t ≡ b → (b || has t xs) ≡ (b || has t ys) → has t xs ≡ has t ys
    by_case true s e =
        let is : x ≡ t = same_timer-is x t s in
        let P : TimerId → Type 0 = λ u. has u xs ≡ has u ys in
        subst P is (not_again first o x xs p ∙ sym (not_again first o x ys q))
    by_case false s e = e

-- one list in order has given timers
pub ascending_one : (first : TimerId → TimerId → Bool) → IsStrictOrder first → (xs ys : List TimerId) → IsAscending first xs → IsAscending first ys
    → ((t : TimerId) → has t xs ≡ has t ys) → xs ≡ ys
ascending_one first o [] [] a b same = refl
ascending_one first o [] (y ∷ ys) a b same = absurd (both_ways (has y (y ∷ ys)) (sym (same y)) (or_left (same_timer y y) (has y ys) (same_timer-itself y)))
ascending_one first o (x ∷ xs) [] a b same = absurd (both_ways (has x (x ∷ xs)) (same x) (or_left (same_timer x x) (has x xs) (same_timer-itself x)))
ascending_one first o (x ∷ xs) (y ∷ ys) a b same =
    let head : x ≡ y = heads first o x y xs ys a.0 b.0
    (sym (same x) ∙ or_left (same_timer x x) (has x xs) (same_timer-itself x))
    (same y ∙ or_left (same_timer y y) (has y ys) (same_timer-itself y)) in
    let P : TimerId → Type 0 = λ u. Precedes first u ys in
    let precedes : Precedes first x ys = subst P (sym head) b.0 in
    let tail : xs ≡ ys = ascending_one first o xs ys a.1 b.1 (λ t.
    tail_has first o x t xs ys a.0 precedes (same t ∙ ap (λ (u : TimerId). same_timer u t || has t ys) (sym head))) in
    λ i. head i ∷ tail i

-- ---- what `in_order` makes

or_swap : (a b c : Bool) → (a || (b || c)) ≡ (b || (a || c))
or_swap true true c = refl
or_swap true false c = refl
or_swap false b c = refl

any-put_in : (first : TimerId → TimerId → Bool) (p : TimerId → Bool) (a : TimerId) (xs : List TimerId) → list_any p (put_in first a xs) ≡ (p a || list_any p xs)
any-put_in first p a [] = refl
any-put_in first p a (x ∷ xs) = by_case (first a x) (any-put_in first p a xs)
  where
    by_case : (b : Bool) → list_any p (put_in first a xs) ≡ (p a || list_any p xs) → list_any p (cond b (a ∷ x ∷ xs) (x ∷ put_in first a xs)) ≡ (p a || (p x || list_any p xs))
    by_case true ih = refl
    by_case false ih = ap (λ b. p x || b) ih ∙ or_swap (p x) (p a) (list_any p xs)

pub any-in_order : (first : TimerId → TimerId → Bool) (p : TimerId → Bool) (xs : List TimerId) → list_any p (in_order first xs) ≡ list_any p xs
any-in_order first p [] = refl
any-in_order first p (x ∷ xs) = any-put_in first p x (in_order first xs) ∙ ap (λ b. p x || b) (any-in_order first p xs)

pub has-in_order : (first : TimerId → TimerId → Bool) (t : TimerId) (xs : List TimerId) → has t (in_order first xs) ≡ has t xs
has-in_order first t xs = any-in_order first (λ r. same_timer r t) xs

-- tests that agree on the timers of a list
pub any_members : (p q : TimerId → Bool) (xs : List TimerId) → ((t : TimerId) → has t xs ≡ true → p t ≡ q t) → list_any p xs ≡ list_any q xs
any_members p q [] h = refl
any_members p q (x ∷ xs) h = rw (h x (or_left (same_timer x x) (has x xs) (same_timer-itself x)), any_members p q xs (λ t k. h t (or_right (same_timer x t) (has t xs) k))) refl

pub any_member : (p : TimerId → Bool) (t : TimerId) (xs : List TimerId) → has t xs ≡ true → p t ≡ true → list_any p xs ≡ true
any_member p t [] h k = cc
any_member p t (x ∷ xs) h k = ⊎_elim
    (λ s. or_left (p x) (list_any p xs) (ap p (same_timer-is x t s) ∙ k))
    (λ after. or_right (p x) (list_any p xs) (any_member p t xs after k))
    (or_cases (same_timer x t) (has t xs) h)

pub any_never : (p : TimerId → Bool) (xs : List TimerId) → ((t : TimerId) → has t xs ≡ true → p t ≡ false) → list_any p xs ≡ false
any_never p xs h = any_members p (λ _. false) xs h ∙ nothing xs
  where
    nothing : (ys : List TimerId) → list_any (λ (_ : TimerId). false) ys ≡ false
    nothing [] = refl
    nothing (y ∷ ys) = nothing ys

precedes_put : (first : TimerId → TimerId → Bool) (x a : TimerId) (xs : List TimerId) → first x a ≡ true → Precedes first x xs → Precedes first x (put_in first a xs)
precedes_put first x a [] h p = (h, tt)
precedes_put first x a (y ∷ ys) h p = by_case (first a y) (precedes_put first x a ys h p.1)
  where
    by_case : (b : Bool) → Precedes first x (put_in first a ys) → Precedes first x (cond b (a ∷ y ∷ ys) (y ∷ put_in first a ys))
    by_case true rest = (h, p)
    by_case false rest = (p.0, rest)

precedes_chain : (first : TimerId → TimerId → Bool) → IsStrictOrder first → (a x : TimerId) (xs : List TimerId) → first a x ≡ true → Precedes first x xs → Precedes first a xs
precedes_chain first o a x [] h p = tt
precedes_chain first o a x (y ∷ ys) h p = (o.chain a x y h p.0, precedes_chain first o a x ys h p.1)

ascending-put_in : (first : TimerId → TimerId → Bool) → IsStrictOrder first → (a : TimerId) (xs : List TimerId) → IsAscending first xs → has a xs ≡ false → IsAscending first (put_in first a xs)
ascending-put_in first o a [] s h = (tt, tt)
ascending-put_in first o a (x ∷ xs) s h =
    let parts = or_parts (same_timer x a) (has a xs) h in
    by_case (first a x) refl (cases_Bool (first x a)) parts.0 (ascending-put_in first o a xs s.1 parts.1)
  where
    by_case : (b : Bool) → first a x ≡ b → (first x a ≡ true) ⊎ (first x a ≡ false) → same_timer x a ≡ false → IsAscending first (put_in first a xs) → IsAscending first (cond b (a ∷ x ∷ xs) (x ∷ put_in first a xs))
    by_case true e other apart rest = ((e, precedes_chain first o a x xs e s.0), s)
    by_case false e other apart rest = (
      precedes_put first x a xs (⊎_elim (λ t. t)
          (λ f. absurd (both_ways (same_timer x a) apart (ap (λ u. same_timer x u) (o.one a x e f) ∙ same_timer-itself x))) other) s.0,
      rest,
    )

pub ascending-in_order : (first : TimerId → TimerId → Bool) → IsStrictOrder first → (xs : List TimerId) → AreApart xs → IsAscending first (in_order first xs)
ascending-in_order first o [] apart = tt
ascending-in_order first o (x ∷ xs) apart = ascending-put_in first o x (in_order first xs) (ascending-in_order first o xs apart.1) (has-in_order first x xs ∙ apart.0)

-- ---- lists with no timer twice

has-filter_none : (p : TimerId → Bool) (t : TimerId) (xs : List TimerId) → has t xs ≡ false → has t (filter p xs) ≡ false
has-filter_none p t [] h = refl
has-filter_none p t (x ∷ xs) h =
    let parts = or_parts (same_timer x t) (has t xs) h in
    by_case (p x) parts.0 (has-filter_none p t xs parts.1)
  where
    by_case : (b : Bool) → same_timer x t ≡ false → has t (filter p xs) ≡ false → has t (cond b (x ∷ filter p xs) (filter p xs)) ≡ false
    by_case true s rest = or_from (same_timer x t) (has t (filter p xs)) s rest
    by_case false s rest = rest

pub apart-filter : (p : TimerId → Bool) (xs : List TimerId) → AreApart xs → AreApart (filter p xs)
apart-filter p [] apart = tt
apart-filter p (x ∷ xs) apart = by_case (p x) (apart-filter p xs apart.1)
  where
    by_case : (b : Bool) → AreApart (filter p xs) → AreApart (cond b (x ∷ filter p xs) (filter p xs))
    by_case true rest = (has-filter_none p x xs apart.0, rest)
    by_case false rest = rest

pub apart-push : (xs : List TimerId) (x : TimerId) → AreApart xs → has x xs ≡ false → AreApart (xs ++ x ∷ [])
apart-push [] x apart h = (refl, tt)
apart-push (y ∷ ys) x apart h =
    let parts = or_parts (same_timer y x) (has x ys) h in
    (list_any-push (λ r. same_timer r y) ys x ∙ or_from (has y ys) (same_timer x y) apart.0 (same_timer-flips x y ∙ parts.0), apart-push ys x apart.1 parts.1)

pub ascending-apart : (first : TimerId → TimerId → Bool) → IsStrictOrder first → (xs : List TimerId) → IsAscending first xs → AreApart xs
ascending-apart first o [] s = tt
ascending-apart first o (x ∷ xs) s = (not_again first o x xs s.0, ascending-apart first o xs s.1)

-- ---- the timers of a list that pass a test

and_swap : (a b : Bool) → (a && b) ≡ (b && a)
and_swap true true = refl
and_swap true false = refl
and_swap false true = refl
and_swap false false = refl

-- whether a timer that passes a test is in a list
pub has_passing : (p : TimerId → Bool) (t : TimerId) (xs : List TimerId) → list_any (λ r. p r && same_timer r t) xs ≡ (p t && has t xs)
has_passing p t [] = and_swap false (p t)
has_passing p t (x ∷ xs) = by_case (same_timer x t) refl (has_passing p t xs)
  where
    by_case : (b : Bool) → same_timer x t ≡ b → list_any (λ r. p r && same_timer r t) xs ≡ (p t && has t xs) → ((p x && b) || list_any (λ r. p r && same_timer r t) xs) ≡ (p t && (b || has t xs))
    by_case true s ih = rw (ap p (same_timer-is x t s), ih) (settled (p t) (has t xs))
      where
        settled : (a b : Bool) → ((a && true) || (a && b)) ≡ (a && true)
        settled true b = refl
        settled false b = refl
    by_case false s ih = ap (λ c. c || list_any (λ r. p r && same_timer r t) xs) (and_swap (p x) false) ∙ ih

pub has-filter : (p : TimerId → Bool) (t : TimerId) (xs : List TimerId) → has t (filter p xs) ≡ (p t && has t xs)
has-filter p t xs = list_any-filter (λ r. same_timer r t) p xs ∙ has_passing p t xs

-- ---- the keys of a map are in order

pub less_first : (a c : TimerId) → timer_cmp a c ≡ Less → comes_first a c ≡ true
less_first a c h = grind (arith, nat_tests)

precedes_sorted : (x : TimerId) (xs : List TimerId) → AllByRecursion (λ y. timer_cmp x y ≡ Less) xs → Precedes comes_first x xs
precedes_sorted x [] h = tt
precedes_sorted x (y ∷ ys) h = (less_first x y h.0, precedes_sorted x ys h.1)

pub ascending_sorted : (xs : List TimerId) → IsStrictlySortedBy timer_cmp xs → IsAscending comes_first xs
ascending_sorted [] s = tt
ascending_sorted (x ∷ xs) s = (precedes_sorted x xs (sorted_head timer_cmp x xs s), ascending_sorted xs (sorted_tail timer_cmp x xs s))
