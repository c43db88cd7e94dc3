-- inner: the laws of lists that a port may put, whatever the events.
use Rattle.std.specs.Prelude.{◌≡◌, Bool, true, false, ◌||◌, not, List, [], ◌∷◌, ◌++◌, refl}
use Rattle.std.specs.List.{list_any}
use Rattle.std.proofs.Common.{ap, sym, subst, ◌∙◌, append_assoc, append-nil}
use Rattle.std.proofs.lemmas.Bool.{and_parts, and_from, false≢true}
use Rattle.mama_event.specs.Lawful.{each_fits, may_follow, IsLawful}

-- what stands at the front fits by itself
pub each_fits-front : {N : Type 0} (fits : List N → N → Bool) (before front back : List N)
    → each_fits fits before (front ++ back) ≡ true → each_fits fits before front ≡ true
each_fits-front fits before [] back h = refl
each_fits-front fits before (n ∷ ns) back h =
    let parts = and_parts (fits before n) (each_fits fits (before ++ n ∷ []) (ns ++ back)) h in
    and_from (fits before n) (each_fits fits (before ++ n ∷ []) ns) parts.0 (each_fits-front fits (before ++ n ∷ []) ns back parts.1)

-- what stands at the back fits what stands before it
pub each_fits-back : {N : Type 0} (fits : List N → N → Bool) (before front back : List N)
    → each_fits fits before (front ++ back) ≡ true → each_fits fits (before ++ front) back ≡ true
each_fits-back fits before [] back h = rw append-nil h
each_fits-back {N} fits before (n ∷ ns) back h =
    let parts = and_parts (fits before n) (each_fits fits (before ++ n ∷ []) (ns ++ back)) h in
    let P : List N → Type 0 = λ xs. each_fits fits xs back ≡ true in
    subst P (append_assoc before (n ∷ []) ns) (each_fits-back fits (before ++ n ∷ []) ns back parts.1)

-- a list fits where its front does, and its back after that
pub each_fits-append : {N : Type 0} (fits : List N → N → Bool) (before front back : List N)
    → each_fits fits before front ≡ true → each_fits fits (before ++ front) back ≡ true → each_fits fits before (front ++ back) ≡ true
each_fits-append fits before [] back f b = rw append-nil at b
each_fits-append {N} fits before (n ∷ ns) back f b =
    let parts = and_parts (fits before n) (each_fits fits (before ++ n ∷ []) ns) f in
    let P : List N → Type 0 = λ xs. each_fits fits xs back ≡ true in
    and_from (fits before n) (each_fits fits (before ++ n ∷ []) (ns ++ back)) parts.0
    (each_fits-append fits (before ++ n ∷ []) ns back parts.1 (subst P (sym (append_assoc before (n ∷ []) ns)) b))

-- a port may put nothing
pub IsLawful-start : {N : Type 0} (last : N → Bool) (fits : List N → N → Bool) → IsLawful last fits []
IsLawful-start last fits = record { each = refl }

-- every prefix of a lawful list is lawful
pub IsLawful-prefix : {N : Type 0} (last : N → Bool) (fits : List N → N → Bool) (front back : List N)
    → IsLawful last fits (front ++ back) → IsLawful last fits front
IsLawful-prefix last fits front back lawful = record { each = each_fits-front (may_follow last fits) [] front back lawful.each }

-- an event of a lawful list may follow those before it
pub IsLawful-at : {N : Type 0} (last : N → Bool) (fits : List N → N → Bool) (front : List N) (n : N) (back : List N)
    → IsLawful last fits (front ++ n ∷ back) → may_follow last fits front n ≡ true
IsLawful-at last fits front n back lawful =
    (and_parts (may_follow last fits front n) (each_fits (may_follow last fits) (front ++ n ∷ []) back)
    (each_fits-back (may_follow last fits) [] front (n ∷ back) lawful.each)).0

-- a lawful list and an event that may follow it
pub IsLawful-push : {N : Type 0} (last : N → Bool) (fits : List N → N → Bool) (front : List N) (n : N)
    → IsLawful last fits front → may_follow last fits front n ≡ true → IsLawful last fits (front ++ n ∷ [])
IsLawful-push last fits front n lawful follows = record {
  each = each_fits-append (may_follow last fits) [] front (n ∷ []) lawful.each (and_from (may_follow last fits front n) true follows refl);
}

-- a list that ends with a last event has one
has_last : {N : Type 0} (last : N → Bool) (front : List N) (n : N) → last n ≡ true → list_any last (front ++ n ∷ []) ≡ true
has_last last [] n h = ap (λ (b : Bool). b || false) h
has_last last (m ∷ ms) n h = ap (λ (b : Bool). last m || b) (has_last last ms n h) ∙ or_true (last m)
  where
    or_true : (b : Bool) → (b || true) ≡ true
    or_true true = refl
    or_true false = refl

-- nothing follows a last event
pub IsLawful-end : {N : Type 0} (last : N → Bool) (fits : List N → N → Bool) (front : List N) (n : N) (back : List N)
    → IsLawful last fits (front ++ n ∷ back) → last n ≡ true → back ≡ []
IsLawful-end last fits front n [] lawful is_last = refl
IsLawful-end {N} last fits front n (b ∷ bs) lawful is_last =
    let whole : IsLawful last fits ((front ++ n ∷ []) ++ b ∷ bs) = rw append_assoc lawful in
    let follows = IsLawful-at last fits (front ++ n ∷ []) b bs whole in
    let none = (and_parts (not (list_any last (front ++ n ∷ []))) (fits (front ++ n ∷ []) b) follows).0 in
    absurd (false≢true (ap not (sym (has_last last front n is_last)) ∙ none))
