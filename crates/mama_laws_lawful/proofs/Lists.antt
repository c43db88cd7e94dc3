-- Lemmas on lists of things that are apart by a key: one is put in or taken out, and the one of a key is found.
use Rattle.std.specs.List.{list_any}
use Rattle.std.proofs.Common.{◌≡◌, ℕ, ◌==◌, Bool, true, false, not, ◌&&◌, ◌||◌, cond, List, [], ◌∷◌, ◌++◌, filter, refl, sym, ◌∙◌, ap, subst, eq-eqb, ne_eqb, ⊎_elim}
use Rattle.std.proofs.lemmas.Bool.{or_parts, or_from, cases_Bool, both_ways}
use Rattle.mama_laws_bridge.specs.Laws.{Alone}

-- ---- tests of a list

-- one in the middle may be looked at first
pub any_mid : {X : Type 0} (p : X → Bool) (xs : List X) (y : X) (ys : List X) → list_any p (xs ++ y ∷ ys) ≡ (p y || list_any p (xs ++ ys))
any_mid p [] y ys = refl
any_mid p (x ∷ xs) y ys = ap (λ b. p x || b) (any_mid p xs y ys) ∙ swap (p x) (p y) (list_any p (xs ++ ys))
  where
    swap : (a b c : Bool) → (a || (b || c)) ≡ (b || (a || c))
    swap true true c = refl
    swap true false c = refl
    swap false b c = refl

pub any_filter : {X : Type 0} (p test : X → Bool) (xs : List X) → list_any p (filter test xs) ≡ list_any (λ x. test x && p x) xs
any_filter p test [] = refl
any_filter p test (x ∷ xs) = at (test x) (any_filter p test xs)
  where
    at : (b : Bool) → list_any p (filter test xs) ≡ list_any (λ y. test y && p y) xs → list_any p (cond b (x ∷ filter test xs) (filter test xs)) ≡ ((b && p x) || list_any (λ y. test y && p y) xs)
    at true ih = ap (λ c. p x || c) ih
    at false ih = ih

-- a list in which all is found but nothing is there is empty
pub empty_if : {X : Type 0} (xs : List X) → list_any (λ x. true) xs ≡ false → xs ≡ []
empty_if [] h = refl
empty_if (x ∷ xs) h = cc

pub kept_all : {X : Type 0} (p : X → Bool) (xs : List X) → list_any p xs ≡ false → filter (λ x. not (p x)) xs ≡ xs
kept_all p [] h = refl
kept_all p (x ∷ xs) h =
    let parts = or_parts (p x) (list_any p xs) h in
    ap (λ b. cond (not b) (x ∷ filter (λ y. not (p y)) xs) (filter (λ y. not (p y)) xs)) parts.0 ∙ ap (λ ys. x ∷ ys) (kept_all p xs parts.1)

pub none_kept : {X : Type 0} (p : X → Bool) (xs : List X) → list_any p xs ≡ false → filter p xs ≡ []
none_kept p [] h = refl
none_kept p (x ∷ xs) h =
    let parts = or_parts (p x) (list_any p xs) h in
    ap (λ b. cond b (x ∷ filter p xs) (filter p xs)) parts.0 ∙ none_kept p xs parts.1

filter_append : {X : Type 0} (p : X → Bool) (xs ys : List X) → filter p (xs ++ ys) ≡ filter p xs ++ filter p ys
filter_append p [] ys = refl
filter_append p (x ∷ xs) ys = at (p x) (filter_append p xs ys)
  where
    at : (b : Bool) → filter p (xs ++ ys) ≡ filter p xs ++ filter p ys → cond b (x ∷ filter p (xs ++ ys)) (filter p (xs ++ ys)) ≡ cond b (x ∷ filter p xs) (filter p xs) ++ filter p ys
    at true ih = ap (λ zs. x ∷ zs) ih
    at false ih = ih

-- ---- the one that passes a test

pub record Split {X : Type 0} (p : X → Bool) (xs : List X) : Type 0 where
  pub front : List X
  pub it : X
  pub back : List X
  pub whole : xs ≡ front ++ it ∷ back
  pub is : p it ≡ true
  pub none_front : list_any p front ≡ false
  pub none_back : list_any p back ≡ false

pub split_chosen : {X : Type 0} (p : X → Bool) (xs : List X) (s : Split p xs) → filter p xs ≡ s.it ∷ []
split_chosen {X} p xs s =
    ap (filter p) s.whole ∙ filter_append p s.front (s.it ∷ s.back)
    ∙ ap (λ (zs : List X). zs ++ filter p (s.it ∷ s.back)) (none_kept p s.front s.none_front)
    ∙ ap (λ (b : Bool). cond b (s.it ∷ filter p s.back) (filter p s.back)) s.is
    ∙ ap (λ (zs : List X). s.it ∷ zs) (none_kept p s.back s.none_back)

pub split_others : {X : Type 0} (p : X → Bool) (xs : List X) (s : Split p xs) → filter (λ x. not (p x)) xs ≡ s.front ++ s.back
split_others {X} p xs s =
    ap (filter (λ x. not (p x))) s.whole ∙ filter_append (λ x. not (p x)) s.front (s.it ∷ s.back)
    ∙ ap (λ (zs : List X). zs ++ filter (λ x. not (p x)) (s.it ∷ s.back)) (kept_all p s.front s.none_front)
    ∙ ap (λ (b : Bool). s.front ++ cond (not b) (s.it ∷ filter (λ x. not (p x)) s.back) (filter (λ x. not (p x)) s.back)) s.is
    ∙ ap (λ (zs : List X). s.front ++ zs) (kept_all p s.back s.none_back)

-- where no two have one key, a key that is found has one of them
pub split_of : {R I : Type 0} (same : I → I → Bool) → ((a b : I) → same a b ≡ true → a ≡ b) → (key : R → I) (i : I) (rows : List R)
    → Alone same key rows → list_any (λ row. same (key row) i) rows ≡ true → Split (λ row. same (key row) i) rows
split_of same decides key i [] alone h = absurd (both_ways false refl h)
split_of {R} {I} same decides key i (row ∷ rows) alone h = ⊎_elim
    (λ (here : same (key row) i ≡ true). record {
      front = [];
      it = row;
      back = rows;
      whole = refl;
      is = here;
      none_front = refl;
      none_back = subst (λ (j : I). list_any (λ other. same (key other) j) rows ≡ false) (decides (key row) i here) alone.0;
    })
    (λ (other : same (key row) i ≡ false).
    let later = split_of same decides key i rows alone.1 (ap (λ b. b || list_any (λ r. same (key r) i) rows) (sym other) ∙ h) in
    record {
      front = row ∷ later.front;
      it = later.it;
      back = later.back;
      whole = ap (λ (zs : List R). row ∷ zs) later.whole;
      is = later.is;
      none_front = or_from (same (key row) i) (list_any (λ r. same (key r) i) later.front) other later.none_front;
      none_back = later.none_back;
    })
    (cases_Bool (same (key row) i))

-- ---- numbers as keys

eq_sym : (a b : ℕ) → (a == b) ≡ false → (b == a) ≡ false
eq_sym a b h = ne_eqb b a (λ same. both_ways (a == b) h (eq-eqb a b (sym same)))

-- one whose key is not there is put in
pub alone_put : {R : Type 0} (key : R → ℕ) (xs : List R) (y : R) (ys : List R) → Alone ◌==◌ key (xs ++ ys)
    → list_any (λ other. key other == key y) (xs ++ ys) ≡ false → Alone ◌==◌ key (xs ++ y ∷ ys)
alone_put key [] y ys alone none = (none, alone)
alone_put key (x ∷ xs) y ys alone none =
    let parts = or_parts (key x == key y) (list_any (λ other. key other == key y) (xs ++ ys)) none in (
      any_mid (λ other. key other == key x) xs y ys ∙ or_from (key y == key x) (list_any (λ other. key other == key x) (xs ++ ys)) (eq_sym (key x) (key y) parts.0) alone.0,
      alone_put key xs y ys alone.1 parts.1,
    )

-- what stands around one has other keys
pub alone_around : {R : Type 0} (key : R → ℕ) (xs : List R) (y : R) (ys : List R) → Alone ◌==◌ key (xs ++ y ∷ ys)
    → (Alone ◌==◌ key (xs ++ ys)) × (list_any (λ other. key other == key y) xs ≡ false) × (list_any (λ other. key other == key y) ys ≡ false)
alone_around key [] y ys alone = (alone.1, refl, alone.0)
alone_around key (x ∷ xs) y ys alone =
    let later = alone_around key xs y ys alone.1 in
    let parts = or_parts (key y == key x) (list_any (λ other. key other == key x) (xs ++ ys)) (sym (any_mid (λ other. key other == key x) xs y ys) ∙ alone.0) in (
      (parts.1, later.0),
      or_from (key x == key y) (list_any (λ other. key other == key y) xs) (eq_sym (key y) (key x) parts.0) later.1,
      later.2,
    )

-- so without its key all stay but it
pub without_one : {R : Type 0} (key : R → ℕ) (xs : List R) (y : R) (ys : List R) → Alone ◌==◌ key (xs ++ y ∷ ys)
    → filter (λ other. not (key other == key y)) (xs ++ y ∷ ys) ≡ xs ++ ys
without_one {R} key xs y ys alone =
    let around = alone_around key xs y ys alone in
    split_others (λ (other : R). key other == key y) (xs ++ y ∷ ys) (record {
      front = xs;
      it = y;
      back = ys;
      whole = refl;
      is = eq-eqb (key y) (key y) refl;
      none_front = around.1;
      none_back = around.2;
    })
