-- believed: a field as contracts see it, and its key.
use Rattle.std.specs.Prelude.{◌≡◌, ◌≢◌, ℕ, Bool, false, ◌==◌, List, [], if◌then◌else◌}
use Rattle.std.specs.Str.{bytes_eq}
use Rattle.mama_msg.specs.declared.value.Value.{Value}
use Rattle.mama_msg.specs.declared.field.Key.{Key}
use Rattle.mama_msg.specs.declared.field.Key.TheVariants.{Numbered, Named}

-- a field without where it lies in memory
pub record FieldData : Type 0 where
  pub fid : ℕ
  pub name : List ℕ
  pub value : Value

-- a field without a fid has a name
pub record IsKeyed (fid : ℕ) (name : List ℕ) : Type 0 where
  pub named : fid ≡ 0 → name ≢ []

-- the key that a fid and a name make: the fid, or the name where the fid is 0
abbrev pub key_from : ℕ → List ℕ → Key
key_from fid name = if fid == 0 then Named name else Numbered fid

-- the key of a field
abbrev pub key_of : FieldData → Key
key_of f = key_from f.fid f.name

-- two keys are one
abbrev pub same_key : Key → Key → Bool
same_key (Numbered a) (Numbered b) = a == b
same_key (Named a) (Named b) = bytes_eq a b
same_key (Numbered a) (Named b) = false
same_key (Named a) (Numbered b) = false
