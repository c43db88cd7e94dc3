-- Items that move one by one from the front of a list to the end of another.
use Rattle.std.specs.Prelude.{option_to_list, IfNone}
use Rattle.std.proofs.Common.{◌≡◌, ℕ, zero, suc, List, [], ◌∷◌, ◌++◌, map, take, drop, Option, None, Some, refl, sym, ◌∙◌, ap, append-nil, append_assoc}

taken_next : {T : Type 0} (r : Option T) (new : List T) (k : ℕ) → IfNone r (new ≡ []) → take (suc k) (option_to_list r ++ new) ≡ option_to_list r ++ take k new
taken_next None new k h = rw h (take_none k)
  where
    take_none : {T : Type 0} (n : ℕ) → take {A = T} (suc n) [] ≡ take n []
    take_none zero = refl
    take_none (suc n) = refl
taken_next (Some x) new k h = refl

dropped_next : {T : Type 0} (r : Option T) (new : List T) (k : ℕ) → IfNone r (new ≡ []) → drop (suc k) (option_to_list r ++ new) ≡ drop k new
dropped_next None new k h = rw h (drop_none k)
  where
    drop_none : {T : Type 0} (n : ℕ) → drop {A = T} (suc n) [] ≡ drop n []
    drop_none zero = refl
    drop_none (suc n) = refl
dropped_next (Some x) new k h = refl

-- what moved and what is still to move
pub moved_next : {T B : Type 0} (f : T → B) (r : Option T) (old new : List T) (o o' all : List B) (k k' : ℕ) → k ≡ suc k' → old ≡ option_to_list r ++ new → IfNone r (new ≡ [])
    → o' ≡ o ++ map f (option_to_list r) → o ++ map f (take k old) ≡ all → o' ++ map f (take k' new) ≡ all
moved_next f None old new o o' all k k' more split none put whole = rw (put, append-nil o) (ap (λ xs. o ++ map f xs) (sym (ap (λ n. take n old) more ∙ ap (take (suc k')) split ∙ taken_next None new k' none)) ∙ whole)
moved_next f (Some x) old new o o' all k k' more split none put whole = rw put (append_assoc o (f x ∷ []) (map f (take k' new)) ∙ ap (λ xs. o ++ map f xs) (sym (ap (λ n. take n old) more ∙ ap (take (suc k')) split ∙ taken_next (Some x) new k' none)) ∙ whole)

pub left_next : {T : Type 0} (r : Option T) (old new all : List T) (k k' : ℕ) → k ≡ suc k' → old ≡ option_to_list r ++ new → IfNone r (new ≡ []) → drop k old ≡ all → drop k' new ≡ all
left_next r old new all k k' more split none whole = sym (ap (λ n. drop n old) more ∙ ap (drop (suc k')) split ∙ dropped_next r new k' none) ∙ whole
