-- Lemmas on lists: what holds of each element, tests of several lists, and journals with one entry more.
use Rattle.std.specs.Prelude.{is_some}
use Rattle.std.specs.List.{list_any, list_all, flat_map}
use Rattle.std.specs.Option.{option_or}
use Rattle.std.proofs.Common.{◌≡◌, ℕ, zero, suc, ◌+◌, ◌<◌, Bool, true, false, ◌||◌, cond, List, [], ◌∷◌, ◌++◌, length, map, filter, get_or, Option, None, Some, refl, sym, ◌∙◌, ap, arith, ⊎_elim}
use Rattle.std.proofs.lemmas.List.Concat.{flat_map-cons}
use Rattle.std.proofs.lemmas.Bool.{and_parts, and_from, cases_lt}
use Rattle.std.proofs.lemmas.Bool.Decides.{same_from_decides}
use Rattle.mama_journal.specs.Journal.{count_of, first_said, all_below}

-- what holds of each element
abbrev pub Each : {X : Type 0} → (X → Type 0) → List X → Type 0
Each P [] = Unit {0}
Each P (x ∷ xs) = P x × Each P xs

pub each_push : {X : Type 0} (P : X → Type 0) (xs : List X) (y : X) → Each P xs → P y → Each P (xs ++ y ∷ [])
each_push P [] y h p = (p, tt)
each_push P (x ∷ xs) y h p = (h.0, each_push P xs y h.1 p)

pub each_weaker : {X : Type 0} (P Q : X → Type 0) (xs : List X) → ((x : X) → P x → Q x) → Each P xs → Each Q xs
each_weaker P Q [] f h = tt
each_weaker P Q (x ∷ xs) f h = (f x h.0, each_weaker P Q xs f h.1)

pub each_both : {X : Type 0} (P Q : X → Type 0) (xs : List X) → Each P xs → Each Q xs → Each (λ x. P x × Q x) xs
each_both P Q [] h k = tt
each_both P Q (x ∷ xs) h k = ((h.0, k.0), each_both P Q xs h.1 k.1)

pub each_all : {X : Type 0} (P : X → Type 0) (xs : List X) → ((x : X) → P x) → Each P xs
each_all P [] f = tt
each_all P (x ∷ xs) f = (f x, each_all P xs f)

filter_cond_each : {X : Type 0} (P : X → Type 0) (b : Bool) (x : X) (xs : List X) → P x → Each P xs → Each P (cond b (x ∷ xs) xs)
filter_cond_each P true x xs p h = (p, h)
filter_cond_each P false x xs p h = h

pub each_filter : {X : Type 0} (P : X → Type 0) (test : X → Bool) (xs : List X) → Each P xs → Each P (filter test xs)
each_filter P test [] h = tt
each_filter P test (x ∷ xs) h = filter_cond_each P (test x) x (filter test xs) h.0 (each_filter P test xs h.1)

pub each_map : {X Y : Type 0} (P : Y → Type 0) (f : X → Y) (xs : List X) → Each (λ x. P (f x)) xs → Each P (map f xs)
each_map P f [] h = tt
each_map P f (x ∷ xs) h = (h.0, each_map P f xs h.1)

pub flat_map_each : {X Y : Type 0} (f g : X → List Y) (xs : List X) → Each (λ x. f x ≡ g x) xs → flat_map f xs ≡ flat_map g xs
flat_map_each f g [] h = refl
flat_map_each f g (x ∷ xs) h = flat_map-cons f x xs ∙ rw (h.0, flat_map_each f g xs h.1) (sym (flat_map-cons g x xs))

pub map_each : {X Y : Type 0} (f g : X → Y) (xs : List X) → Each (λ x. f x ≡ g x) xs → map f xs ≡ map g xs
map_each f g [] h = refl
map_each f g (x ∷ xs) h = rw (h.0, map_each f g xs h.1) refl

pub filter_each : {X : Type 0} (p q : X → Bool) (xs : List X) → Each (λ x. p x ≡ q x) xs → filter p xs ≡ filter q xs
filter_each p q [] h = refl
filter_each p q (x ∷ xs) h = rw (h.0, filter_each p q xs h.1) refl

-- a filter over a map
map_cond : {X Y : Type 0} (f : X → Y) (b : Bool) (x : X) (xs : List X) → map f (cond b (x ∷ xs) xs) ≡ cond b (f x ∷ map f xs) (map f xs)
map_cond f true x xs = refl
map_cond f false x xs = refl

pub map-filter : {X Y : Type 0} (f : X → Y) (p : Y → Bool) (xs : List X) → map f (filter (λ x. p (f x)) xs) ≡ filter p (map f xs)
map-filter f p [] = refl
map-filter f p (x ∷ xs) = map_cond f (p (f x)) x (filter (λ y. p (f y)) xs) ∙ rw (map-filter f p xs) refl

pub flat_map-map : {X Y Z : Type 0} (f : Y → List Z) (g : X → Y) (xs : List X) → flat_map f (map g xs) ≡ flat_map (λ x. f (g x)) xs
flat_map-map f g [] = refl
flat_map-map f g (x ∷ xs) = flat_map-cons f (g x) (map g xs) ∙ rw (flat_map-map f g xs) (sym (flat_map-cons (λ y. f (g y)) x xs))

pub list_any-map : {X Y : Type 0} (p : Y → Bool) (f : X → Y) (xs : List X) → list_any p (map f xs) ≡ list_any (λ x. p (f x)) xs
list_any-map p f [] = refl
list_any-map p f (x ∷ xs) = ap (λ b. p (f x) || b) (list_any-map p f xs)

-- ---- what is said first

is_some_or : {A : Type 0} (a b : Option A) → is_some (option_or a b) ≡ (is_some a || is_some b)
is_some_or None b = refl
is_some_or (Some x) b = refl

-- something was said exactly where some entry says something
pub is_some-first_said : {E A : Type 0} (say : E → Option A) (es : List E) → is_some (first_said say es) ≡ list_any (λ e. is_some (say e)) es
is_some-first_said say [] = refl
is_some-first_said say (e ∷ es) = is_some_or (say e) (first_said say es) ∙ ap (λ b. is_some (say e) || b) (is_some-first_said say es)

pub none_of_is_some : {A : Type 0} (o : Option A) → is_some o ≡ false → o ≡ None
none_of_is_some None h = refl
none_of_is_some (Some x) h = cc

count_cond : {E : Type 0} (test : E → Bool) (b : Bool) (n m : ℕ) → cond b (suc (n + m)) (n + m) ≡ cond b (suc n) n + m
count_cond test true n m = omega arith
count_cond test false n m = refl

pub count_of-append : {E : Type 0} (test : E → Bool) (es fs : List E) → count_of test (es ++ fs) ≡ count_of test es + count_of test fs
count_of-append test [] fs = omega arith
count_of-append test (e ∷ es) fs =
    ap (λ n. cond (test e) (suc n) n) (count_of-append test es fs) ∙ count_cond test (test e) (count_of test es) (count_of test fs)

-- ---- what holds of appended lists

pub each_append : {X : Type 0} (P : X → Type 0) (xs ys : List X) → Each P xs → Each P ys → Each P (xs ++ ys)
each_append P [] ys h k = k
each_append P (x ∷ xs) ys h k = (h.0, each_append P xs ys h.1 k)

pub each_flat_map : {X Y : Type 0} (P : Y → Type 0) (f : X → List Y) (xs : List X) → ((x : X) → Each P (f x)) → Each P (flat_map f xs)
each_flat_map P f [] h = tt
each_flat_map P f (x ∷ xs) h = each_append P (f x) (flat_map f xs) (h x) (each_flat_map P f xs h)

-- ---- flags

all_below_true : (n : ℕ) (is : ℕ → Bool) → all_below n is ≡ true → (k : ℕ) → k < n → is k ≡ true
all_below_true zero is h k lt = absurd (omega arith)
all_below_true (suc n) is h k lt =
    let parts = and_parts (all_below n is) (is n) h in
    ⊎_elim (λ below. all_below_true n is parts.0 k below) (λ above. let same : k ≡ n = omega arith in rw same parts.1) (cases_lt k n)

all_below_from : (n : ℕ) (is : ℕ → Bool) → ((k : ℕ) → k < n → is k ≡ true) → all_below n is ≡ true
all_below_from zero is h = refl
all_below_from (suc n) is h = and_from (all_below n is) (is n) (all_below_from n is (λ k lt. h k (omega arith))) (h n (omega arith))

list_all_true : (flags : List Bool) → list_all (λ (flag : Bool). flag) flags ≡ true → (k : ℕ) → k < length flags → get_or flags k false ≡ true
list_all_true [] h k lt = absurd (omega arith)
list_all_true (x ∷ xs) h zero lt = (and_parts x (list_all (λ (flag : Bool). flag) xs) h).0
list_all_true (x ∷ xs) h (suc k) lt = list_all_true xs (and_parts x (list_all (λ (flag : Bool). flag) xs) h).1 k (omega arith)

list_all_from : (flags : List Bool) → ((k : ℕ) → k < length flags → get_or flags k false ≡ true) → list_all (λ (flag : Bool). flag) flags ≡ true
list_all_from [] h = refl
list_all_from (x ∷ xs) h = and_from x (list_all (λ (flag : Bool). flag) xs) (h 0 (omega arith)) (list_all_from xs (λ k lt. h (suc k) (omega arith)))

-- all flags are set exactly where each number below their count is so
pub all_set_tells : (flags : List Bool) (n : ℕ) (is : ℕ → Bool) → length flags ≡ n → ((k : ℕ) → k < n → get_or flags k false ≡ is k) → all_below n is ≡ list_all (λ (flag : Bool). flag) flags
all_set_tells flags n is len h =
    same_from_decides {P = (k : ℕ) → k < n → is k ≡ true} (all_below n is) (list_all (λ (flag : Bool). flag) flags)
    (all_below_true n is, all_below_from n is) (
      λ all. λ k lt. sym (h k lt) ∙ list_all_true flags all k (omega arith),
      λ each. list_all_from flags (λ k lt. h k (omega arith) ∙ each k (omega arith)),
    )
