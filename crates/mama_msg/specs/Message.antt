-- believed: a message is the list of its fields, which have distinct keys.
use Rattle.std.specs.Prelude.{◌≡◌, ℕ, Bool, false, not, ◌==◌, List, [], ◌∷◌, ◌++◌, map, filter, Option, unwrap_or, find, if◌then◌else◌}
use Rattle.std.specs.List.{list_any}
use Rattle.std.specs.Str.{bytes_eq}
use Rattle.mama_msg.specs.declared.field.Key.{Key}
use Rattle.mama_msg.specs.Field.{FieldData, key_of, same_key}

-- some field has this key
abbrev pub has_key : Key → List FieldData → Bool
has_key k fields = list_any (λ g. same_key (key_of g) k) fields

-- the field with this key, if there is one
abbrev pub with_key : Key → List FieldData → Option FieldData
with_key k fields = find (λ g. same_key (key_of g) k) fields

-- no two fields have one key
abbrev pub AreDistinct : List FieldData → Type 0
AreDistinct [] = Unit {0}
AreDistinct (f ∷ fs) = (has_key (key_of f) fs ≡ false) × AreDistinct fs

-- the message with one field put in the place of the field with its key, or last where there is none
abbrev pub updated : List FieldData → FieldData → List FieldData
updated m f = if has_key (key_of f) m then map (λ g. if same_key (key_of g) (key_of f) then f else g) m else m ++ f ∷ []

-- the message with an update applied: each field replaced by the update's field with its key, where there is one,
-- and then the update's fields whose keys are new, in the order of the update
abbrev pub apply : List FieldData → List FieldData → List FieldData
apply m u = map (λ f. unwrap_or (with_key (key_of f) u) f) m ++ filter (λ f. not (has_key (key_of f) m)) u

-- the first field with this name
abbrev pub with_name : List ℕ → List FieldData → Option FieldData
with_name name m = find (λ f. bytes_eq f.name name) m

-- the first field with this fid
abbrev pub with_fid : ℕ → List FieldData → Option FieldData
with_fid fid m = find (λ f. f.fid == fid) m

-- the field that a name and a fid ask for: the one with that fid, or with fid 0 the first with that name
abbrev pub asked_for : List ℕ → ℕ → List FieldData → Option FieldData
asked_for name fid m = if fid == 0 then with_name name m else with_fid fid m
