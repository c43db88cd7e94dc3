-- Events that leave the lane in one step, and lists that are moved from one end.
use Rattle.std.proofs.Common.{◌≡◌, ℕ, ◌<◌, List, [], ◌∷◌, ◌++◌, length, Option, None, Some, IfNone, MatchOption, sym, refl, ap, subst, ◌∙◌, append_assoc, append-nil, arith}
use Rattle.mama_lane.specs.declared.view.View.{View}

-- the first element of a list that has one
pub has_first : {A : Type 0} (l : List A) → 0 < length l → (x : A) × (xs : List A) × (l ≡ x ∷ xs)
has_first [] h = absurd (omega arith)
has_first (x ∷ xs) h = (x, xs, refl)

pub none_left : {A : Type 0} (l : List A) → length l ≡ 0 → l ≡ []
none_left [] h = refl
none_left (x ∷ xs) h = absurd (omega arith)

-- one element more was moved from the front of what is left to the end of what was moved
pub moved_on : {A : Type 0} (all moved now left rest : List A) (first x : A) → all ≡ moved ++ left → left ≡ first ∷ rest → x ≡ first → now ≡ moved ++ x ∷ [] → all ≡ now ++ rest
moved_on {A} all moved now left rest first x parts split same is =
    parts ∙ (ap (λ (l : List A). moved ++ l) (split ∙ ap (λ (y : A). y ∷ rest) (sym same)) ∙ (sym (append_assoc moved (x ∷ []) rest) ∙ ap (λ (l : List A). l ++ rest) (sym is)))

-- what a look that found nothing tells, of the view before
pub found_none : {A B N : Type 0} (P : View N → Type 0) (F : B → Type 0) (S : Type 0) (nothing : A) (v u : View N) (r : Option B) → MatchOption r (S × (nothing ≡ nothing → P u)) F → u ≡ v → IfNone r (P v)
found_none P F S nothing v u None h same = subst P same (h.1 refl)
found_none P F S nothing v u (Some b) h same = tt
