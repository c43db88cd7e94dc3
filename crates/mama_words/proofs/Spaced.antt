-- Printing the fields of a message one after the other.
use Rattle.std.proofs.Common.{◌≡◌, ℕ, zero, suc, ◌+◌, ◌<◌, List, [], ◌∷◌, ◌++◌, length, take, get_or, Some, sym, ap, ◌∙◌}
use Rattle.std.specs.Prelude.{slice_get}
use Rattle.std.specs.List.{flat_map}
use Rattle.std.proofs.lemmas.List.{take_more, flat_map_more}
use Rattle.mama_words.proofs.Choices.{some_is}

get_is : {X : Type 0} (xs : List X) (i : ℕ) (x : X) → slice_get xs i ≡ Some x → get_or xs i x ≡ x
get_is [] i x e = absurd cc
get_is (y ∷ xs) zero x e = some_is y x e
get_is (y ∷ xs) (suc i) x e = get_is xs i x e

-- the spelling of one more
pub printed_more : {X : Type 0} (f : X → List ℕ) (out old new : List ℕ) (xs : List X) (i : ℕ) (x : X) → i < length xs → slice_get xs i ≡ Some x → new ≡ old ++ f x → old ≡ out ++ flat_map f (take i xs) → new ≡ out ++ flat_map f (take (i + 1) xs)
printed_more {X} f out old new xs i x lt at grown so_far =
    let one : take (i + 1) xs ≡ take i xs ++ x ∷ [] = take_more xs i x lt ∙ ap (λ (y : X). take i xs ++ y ∷ []) (get_is xs i x at) in
    grown ∙ ap (λ (t : List ℕ). t ++ f x) so_far ∙ flat_map_more f out (take i xs) x ∙ ap (λ (ys : List X). out ++ flat_map f ys) (sym one)
