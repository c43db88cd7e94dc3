-- Which object an id names; and when an object is alive, with one event more.
use Rattle.std.specs.Prelude.{not, Option, None, Some, is_some}
use Rattle.std.specs.List.{list_any}
use Rattle.std.specs.Option.{option_or}
use Rattle.std.proofs.Common.{◌≡◌, ℕ, zero, suc, ◌==◌, Bool, true, false, ◌&&◌, ◌||◌, cond, List, [], ◌∷◌, ◌++◌, refl, ◌∙◌, ap}
use Rattle.std.proofs.lemmas.Bool.{and_parts, and_from, both_ways, eq-eqb, eqb-true}
use Rattle.std.proofs.lemmas.List.Folds.{list_any-append}
use Rattle.mama_journal.specs.Journal.{first_said, all_below}
use Rattle.mama_event.specs.declared.ids.SubId.{SubId}
use Rattle.mama_event.specs.declared.ids.InboxId.{InboxId}
use Rattle.mama_event.specs.declared.ids.TimerId.{TimerId}
use Rattle.mama_event.specs.declared.ids.ObjectId.{ObjectId}
use Rattle.mama_event.specs.declared.ids.ObjectId.TheVariants.{Sub, Timer, Inbox}
use Rattle.mama_event.specs.Object.{same_sub, same_inbox, same_timer, same_object}
use Rattle.mama_rules_services.specs.Life.{lives}

-- ---- ids

same_parts : (a b c d : ℕ) → (a == c && b == d) ≡ true → (a ≡ c) × (b ≡ d)
same_parts a b c d h = let parts = and_parts (a == c) (b == d) h in (eqb-true a c parts.0, eqb-true b d parts.1)

itself_parts : (a b : ℕ) → (a == a && b == b) ≡ true
itself_parts a b = and_from (a == a) (b == b) (eq-eqb a a refl) (eq-eqb b b refl)

pub same_sub-is : (a b : SubId) → same_sub a b ≡ true → a ≡ b
same_sub-is a b h = let parts = same_parts a.client a.number b.client b.number h in λ i. record { client = parts.0 i; number = parts.1 i }

pub same_sub-itself : (a : SubId) → same_sub a a ≡ true
same_sub-itself a = itself_parts a.client a.number

pub same_inbox-is : (a b : InboxId) → same_inbox a b ≡ true → a ≡ b
same_inbox-is a b h = let parts = same_parts a.client a.number b.client b.number h in λ i. record { client = parts.0 i; number = parts.1 i }

pub same_inbox-itself : (a : InboxId) → same_inbox a a ≡ true
same_inbox-itself a = itself_parts a.client a.number

pub same_timer-is : (a b : TimerId) → same_timer a b ≡ true → a ≡ b
same_timer-is a b h = let parts = same_parts a.client a.number b.client b.number h in λ i. record { client = parts.0 i; number = parts.1 i }

pub same_timer-itself : (a : TimerId) → same_timer a a ≡ true
same_timer-itself a = itself_parts a.client a.number

pub same_object-itself : (o : ObjectId) → same_object o o ≡ true
same_object-itself (Sub s) = same_sub-itself s
same_object-itself (Timer t) = same_timer-itself t
same_object-itself (Inbox i) = same_inbox-itself i

-- ---- tests of a journal with one event more

pub any_last : {X : Type 0} (test : X → Bool) (xs : List X) (x : X) → list_any test (xs ++ x ∷ []) ≡ (list_any test xs || test x)
any_last test xs x = list_any-append test xs (x ∷ []) ∙ ap (λ (b : Bool). list_any test xs || b) (or_false (test x))
  where
    or_false : (b : Bool) → (b || false) ≡ b
    or_false true = refl
    or_false false = refl

pub any_unchanged : {X : Type 0} (test : X → Bool) (xs : List X) (x : X) → test x ≡ false → list_any test (xs ++ x ∷ []) ≡ list_any test xs
any_unchanged test xs x none = any_last test xs x ∙ ap (λ (b : Bool). list_any test xs || b) none ∙ or_false (list_any test xs)
  where
    or_false : (b : Bool) → (b || false) ≡ b
    or_false true = refl
    or_false false = refl

pub all_below-same : (n : ℕ) (f g : ℕ → Bool) → ((k : ℕ) → f k ≡ g k) → all_below n f ≡ all_below n g
all_below-same zero f g same = refl
all_below-same (suc n) f g same = rw (all_below-same n f g same, same n) refl

-- ---- a life with one event more

not_or : (a b : Bool) → not (a || b) ≡ (not a && not b)
not_or true b = refl
not_or false b = refl

pub lives-push : {E : Type 0} (begins ends : E → Bool) (es : List E) (e : E)
    → lives begins ends (es ++ e ∷ []) ≡ cond (list_any begins es) (lives begins ends es && not (ends e)) (begins e)
lives-push begins ends [] e = one (begins e)
  where
    one : (b : Bool) → cond b true false ≡ b
    one true = refl
    one false = refl
lives-push begins ends (x ∷ es) e = by_case (begins x) (lives-push begins ends es e)
  where
    by_case : (b : Bool) → lives begins ends (es ++ e ∷ []) ≡ cond (list_any begins es) (lives begins ends es && not (ends e)) (begins e)
        → cond b (not (list_any ends (es ++ e ∷ []))) (lives begins ends (es ++ e ∷ [])) ≡ cond (b || list_any begins es) (cond b (not (list_any ends es)) (lives begins ends es) && not (ends e)) (begins e)
    by_case true ih = ap not (any_last ends es e) ∙ not_or (list_any ends es) (ends e)
    by_case false ih = ih

-- what lives has begun
pub lives_came : {E : Type 0} (begins ends : E → Bool) (es : List E) → lives begins ends es ≡ true → list_any begins es ≡ true
lives_came begins ends [] h = h
lives_came begins ends (x ∷ es) h = by_case (begins x) h (lives_came begins ends es)
  where
    by_case : (b : Bool) → cond b (not (list_any ends es)) (lives begins ends es) ≡ true → (lives begins ends es ≡ true → list_any begins es ≡ true) → (b || list_any begins es) ≡ true
    by_case true h ih = refl
    by_case false h ih = ih h

-- ---- what was said first

pub first_said-append : {E A : Type 0} (say : E → Option A) (es fs : List E) → first_said say (es ++ fs) ≡ option_or (first_said say es) (first_said say fs)
first_said-append say [] fs = refl
first_said-append say (e ∷ es) fs = ap (λ o. option_or (say e) o) (first_said-append say es fs) ∙ assoc (say e) (first_said say es) (first_said say fs)
  where
    assoc : {A : Type 0} (a b c : Option A) → option_or a (option_or b c) ≡ option_or (option_or a b) c
    assoc None b c = refl
    assoc (Some x) b c = refl

pub said_came : {E A : Type 0} (say : E → Option A) (es : List E) (a : A) → first_said say es ≡ Some a → list_any (λ e. is_some (say e)) es ≡ true
said_came say [] a h = absurd (both_ways false refl (ap is_some h))
said_came {E} {A} say (e ∷ es) a h = by_case (say e) h (said_came say es a)
  where
    by_case : (o : Option A) → option_or o (first_said say es) ≡ Some a → (first_said say es ≡ Some a → list_any (λ e. is_some (say e)) es ≡ true) → (is_some o || list_any (λ e. is_some (say e)) es) ≡ true
    by_case None h ih = ih h
    by_case (Some t) h ih = refl

pub none_said : {E A : Type 0} (say : E → Option A) (es : List E) → list_any (λ e. is_some (say e)) es ≡ false → first_said say es ≡ None
none_said say [] h = refl
none_said {E} {A} say (e ∷ es) h = by_case (say e) h (none_said say es)
  where
    by_case : (o : Option A) → (is_some o || list_any (λ e. is_some (say e)) es) ≡ false → (list_any (λ e. is_some (say e)) es ≡ false → first_said say es ≡ None) → option_or o (first_said say es) ≡ None
    by_case None h ih = ih h
    by_case (Some t) h ih = absurd (both_ways true h refl)

pub some_is : {A : Type 0} (a b : A) → Some a ≡ Some b → a ≡ b
some_is {A} a b h = ap (λ (o : Option A). or_else o) h
  where
    or_else : Option A → A
    or_else None = a
    or_else (Some x) = x
