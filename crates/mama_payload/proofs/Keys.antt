-- Fields with distinct keys, one more at a time.
use Rattle.std.proofs.Common.{◌≡◌, ℕ, false, eqb, List, [], ◌∷◌, ◌++◌, refl, sym, ◌∙◌, arith}
use Rattle.std.specs.Str.{bytes_eq}
use Rattle.std.proofs.lemmas.Bool.{or_parts, or_from}
use Rattle.std.proofs.lemmas.List.Folds.{list_any-append}
use Rattle.mama_msg.specs.declared.field.Key.{Key}
use Rattle.mama_msg.specs.declared.field.Key.TheVariants.{Numbered, Named}
use Rattle.mama_msg.specs.Field.{FieldData, key_of, same_key}
use Rattle.mama_msg.specs.Message.{has_key, AreDistinct}

eqb_turned : (a b : ℕ) → eqb a b ≡ eqb b a
eqb_turned a b = grind arith

bytes_eq_turned : (a b : List ℕ) → bytes_eq a b ≡ bytes_eq b a
bytes_eq_turned [] [] = refl
bytes_eq_turned [] (y ∷ b) = refl
bytes_eq_turned (x ∷ a) [] = refl
bytes_eq_turned (x ∷ a) (y ∷ b) = rw (eqb_turned x y, bytes_eq_turned a b) refl

same_key_turned : (a b : Key) → same_key a b ≡ same_key b a
same_key_turned (Numbered a) (Numbered b) = eqb_turned a b
same_key_turned (Numbered a) (Named b) = refl
same_key_turned (Named a) (Numbered b) = refl
same_key_turned (Named a) (Named b) = bytes_eq_turned a b

-- a key of no front of distinct fields is the key of the next
pub next_is_new : (before : List FieldData) (f : FieldData) (fs : List FieldData) → AreDistinct (before ++ f ∷ fs) → has_key (key_of f) before ≡ false
next_is_new [] f fs distinct = refl
next_is_new (g ∷ before) f fs distinct =
    let apart = or_parts (has_key (key_of g) before) (has_key (key_of g) (f ∷ fs)) (sym (list_any-append (λ h. same_key (key_of h) (key_of g)) before (f ∷ fs)) ∙ distinct.0) in
    let first = or_parts (same_key (key_of f) (key_of g)) (has_key (key_of g) fs) apart.1 in
    or_from (same_key (key_of g) (key_of f)) (has_key (key_of f) before) (same_key_turned (key_of g) (key_of f) ∙ first.0) (next_is_new before f fs distinct.1)

-- distinct fields and one whose key is new are distinct
pub distinct_push : (before : List FieldData) (f : FieldData) → AreDistinct before → has_key (key_of f) before ≡ false → AreDistinct (before ++ f ∷ [])
distinct_push [] f distinct new = (refl, tt)
distinct_push (g ∷ before) f distinct new =
    let apart = or_parts (same_key (key_of g) (key_of f)) (has_key (key_of f) before) new in (
      list_any-append (λ h. same_key (key_of h) (key_of g)) before (f ∷ [])
          ∙ or_from (has_key (key_of g) before) (has_key (key_of g) (f ∷ [])) distinct.0 (or_from (same_key (key_of f) (key_of g)) false (same_key_turned (key_of f) (key_of g) ∙ apart.0) refl),
      distinct_push before f distinct.1 apart.1,
    )
