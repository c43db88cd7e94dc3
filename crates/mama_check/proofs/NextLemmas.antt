-- The first item is taken from the list of a number.
use Rattle.std.specs.Prelude.{slice_index_or, slice_set, drop}
use Rattle.std.proofs.Common.{◌≡◌, ℕ, ◌<◌, List, [], ◌∷◌, length, map, get_or, ap, sym, ◌∙◌}
use Rattle.std.proofs.lemmas.List.{get_or-map, map-set}
use Rattle.mama_check.specs.Lists.{without_first}

-- what is read at a number
pub read_at : {A T : Type 0} (f : A → List T) (items : List A) (q : ℕ) (a : A) → q < length items → a ≡ get_or items q a → slice_index_or (map f items) q [] ≡ f a
read_at f items q a within here = get_or-map f items q a [] within ∙ ap f (sym here)

pub one_taken : {A T : Type 0} (f : A → List T) (items : List A) (q : ℕ) (a : A) (x : T) → slice_index_or (map f items) q [] ≡ x ∷ f a → map f (slice_set items q a) ≡ without_first q (map f items)
one_taken {A} {T} f items q a x is = map-set f items q a ∙ sym (ap (λ (l : List T). slice_set (map f items) q (drop 1 l)) is)
