-- Lemmas on lists, and on journals with one entry more.
use Rattle.std.specs.List.{list_any, flat_map}
use Rattle.std.specs.Option.{option_or}
use Rattle.std.proofs.Common.{◌≡◌, ℕ, zero, suc, Bool, true, false, ◌&&◌, ◌||◌, cond, List, [], ◌∷◌, ◌++◌, map, filter, Option, None, Some, refl, ◌∙◌, ap}
use Rattle.std.proofs.lemmas.List.Folds.{list_any-append}
use Rattle.std.proofs.lemmas.Bool.{and_parts, and_from}
use Rattle.mama_journal.specs.Journal.{first_said, all_below}
use Rattle.mama_journal.specs.EntryLaws.{first_said-append}

-- what was said stays first
pub said_still : {E A : Type 0} (say : E → Option A) (es fs : List E) (a : A) → first_said say es ≡ Some a → first_said say (es ++ fs) ≡ Some a
said_still say es fs a h = first_said-append say es fs ∙ ap (λ o. option_or o (first_said say fs)) h

pub said_none : {E A : Type 0} (say : E → Option A) (es fs : List E) → first_said say fs ≡ None → first_said say (es ++ fs) ≡ first_said say es
said_none say es fs h = first_said-append say es fs ∙ ap (λ o. option_or (first_said say es) o) h ∙ keeps (first_said say es)
  where
    keeps : {A : Type 0} (o : Option A) → option_or o None ≡ o
    keeps None = refl
    keeps (Some x) = refl

pub none_more : {E A : Type 0} (say : E → Option A) (es fs : List E) → first_said say es ≡ None → first_said say fs ≡ None → first_said say (es ++ fs) ≡ None
none_more say es fs g h = said_none say es fs h ∙ g

pub none_of_flat_map : {X E A : Type 0} (say : E → Option A) (f : X → List E) (xs : List X) → ((x : X) → first_said say (f x) ≡ None) → first_said say (flat_map f xs) ≡ None
none_of_flat_map say f [] h = refl
none_of_flat_map say f (x ∷ xs) h = none_more say (f x) (flat_map f xs) (h x) (none_of_flat_map say f xs h)

pub none_of_map : {X E A : Type 0} (say : E → Option A) (f : X → E) (xs : List X) → ((x : X) → say (f x) ≡ None) → first_said say (map f xs) ≡ None
none_of_map say f [] h = refl
none_of_map say f (x ∷ xs) h = ap (λ o. option_or o (first_said say (map f xs))) (h x) ∙ none_of_map say f xs h

-- tests of lists
pub list_any-push : {X : Type 0} (p : X → Bool) (xs : List X) (x : X) → list_any p (xs ++ x ∷ []) ≡ (list_any p xs || p x)
list_any-push p xs x = list_any-append p xs (x ∷ []) ∙ ap (λ b. list_any p xs || b) (last (p x))
  where
    last : (b : Bool) → (b || false) ≡ b
    last true = refl
    last false = refl

pub list_any-agree : {X : Type 0} (p q : X → Bool) (xs : List X) → ((x : X) → p x ≡ q x) → list_any p xs ≡ list_any q xs
list_any-agree p q [] h = refl
list_any-agree p q (x ∷ xs) h = rw (h x, list_any-agree p q xs h) refl

pub list_any-flat_map : {X Y : Type 0} (p : Y → Bool) (f : X → List Y) (xs : List X) → list_any p (flat_map f xs) ≡ list_any (λ x. list_any p (f x)) xs
list_any-flat_map p f [] = refl
list_any-flat_map p f (x ∷ xs) = list_any-append p (f x) (flat_map f xs) ∙ ap (λ b. list_any p (f x) || b) (list_any-flat_map p f xs)

any_cond : {X : Type 0} (p : X → Bool) (b : Bool) (x : X) (xs : List X) → list_any p (cond b (x ∷ xs) xs) ≡ ((b && p x) || list_any p xs)
any_cond p true x xs = refl
any_cond p false x xs = refl

pub list_any-filter : {X : Type 0} (p test : X → Bool) (xs : List X) → list_any p (filter test xs) ≡ list_any (λ x. test x && p x) xs
list_any-filter p test [] = refl
list_any-filter p test (x ∷ xs) = any_cond p (test x) x (filter test xs) ∙ ap (λ b. (test x && p x) || b) (list_any-filter p test xs)

-- a test of all numbers below n
pub all_below-agree : (n : ℕ) (p q : ℕ → Bool) → ((k : ℕ) → p k ≡ q k) → all_below n p ≡ all_below n q
all_below-agree zero p q h = refl
all_below-agree (suc n) p q h = rw (all_below-agree n p q h, h n) refl

pub all_below-weaker : (n : ℕ) (p q : ℕ → Bool) → ((k : ℕ) → p k ≡ true → q k ≡ true) → all_below n p ≡ true → all_below n q ≡ true
all_below-weaker zero p q h all = refl
all_below-weaker (suc n) p q h all =
    let parts = and_parts (all_below n p) (p n) all in
    and_from (all_below n q) (q n) (all_below-weaker n p q h parts.0) (h n parts.1)
