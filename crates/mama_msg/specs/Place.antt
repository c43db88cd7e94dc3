-- inner: where a field with a key stands in a list.
use Rattle.std.specs.Prelude.{◌≡◌, ℕ, ◌<◌, Bool, true, false, List, [], ◌∷◌, length}
use Rattle.std.specs.List.{HoldsAt}
use Rattle.mama_msg.specs.declared.field.Key.{Key}
use Rattle.mama_msg.specs.Field.{FieldData, key_of, same_key}

-- the field at this place has this key
pub record IsPlace (k : Key) (m : List FieldData) (i : ℕ) : Type 0 where
  pub within : i < length m
  pub key : HoldsAt (λ g. same_key (key_of g) k ≡ true) m i

-- there is no field, or one and with this key
abbrev pub is_alone : Key → List FieldData → Bool
is_alone k [] = true
is_alone k (g ∷ []) = same_key (key_of g) k
is_alone k (g ∷ h ∷ hs) = false
