-- believed: Fields, messages, and how they are spelled.
use Rattle.std.specs.Prelude.{◌≡◌, ℕ, ◌^◌, ◌<◌, ◌==◌, Bool, true, ◌&&◌, not, nat_le, List, [], ◌∷◌, ◌++◌, length, Option, Some, None, Result, Ok, Err, if◌then◌else◌}
use Rattle.std.specs.List.{list_all, flat_map, AllByRecursion}
use Rattle.mama_msg.specs.Name.{is_name_byte, IsNameText}
use Rattle.mama_msg.specs.Field.{FieldData, key_of, IsKeyed}
use Rattle.mama_msg.specs.Message.{has_key}
use Rattle.mama_words.specs.Reading.{◌>>=◌, or_fault, both}
use Rattle.mama_words.specs.Parting.{cut_at}
use Rattle.mama_words.specs.Number.{below_in}
use Rattle.mama_words.specs.Value.{type_of, type_text, value_text, is_known, type_in, value_in, IsValue}
use Rattle.mama_words.specs.declared.nums.Nums.{Nums}
use Rattle.mama_edge.specs.Decimal.{decimal}

-- the spelling of a field
abbrev pub field_text : FieldData → List ℕ
field_text f = decimal f.fid ++ 58 ∷ (f.name ++ 58 ∷ (type_text (type_of f.value) ++ 58 ∷ value_text f.value))

-- a field as its type has it, which the text knows
pub record IsField (nums : Nums) (f : FieldData) : Type 0 where
  pub fid : f.fid < 2 ^ 16
  pub name : IsNameText f.name
  pub keyed : IsKeyed f.fid f.name
  pub known : is_known nums (type_of f.value) ≡ true
  pub value : IsValue f.value

abbrev pub name_in : List ℕ → Option (List ℕ)
name_in text = if nat_le (length text) 32 && list_all is_name_byte text then Some text else None

-- a field with fid 0 has a name
abbrev pub keyed_or_fault : FieldData → Result FieldData ℕ
keyed_or_fault f = if f.fid == 0 && length f.name == 0 then Err 8 else Ok f

-- the field that a word spells. The first three colons end its fid, its name and its type.
unfoldable pub field_in : Nums → List ℕ → Result FieldData ℕ
field_in nums word = do
  a ← or_fault 6 (cut_at 58 word)
  b ← or_fault 6 (cut_at 58 a.1)
  c ← or_fault 6 (cut_at 58 b.1)
  name ← or_fault 6 (name_in b.0)
  fid ← or_fault 7 (below_in (2 ^ 16) a.0)
  type ← or_fault 7 (type_in nums c.0)
  value ← or_fault 7 (value_in type c.1)
  keyed_or_fault (record { fid = fid; name = name; value = value })

-- the fields that the words spell, or the lowest fault of all the words
abbrev pub fields_in : Nums → List (List ℕ) → Result (List FieldData) ℕ
fields_in nums [] = Ok []
fields_in nums (w ∷ ws) = both (field_in nums w) (fields_in nums ws) >>= λ x. Ok (x.0 ∷ x.1)

-- no two fields have one key
abbrev pub are_distinct : List FieldData → Bool
are_distinct [] = true
are_distinct (f ∷ fs) = not (has_key (key_of f) fs) && are_distinct fs

-- fields of which no two have one key
abbrev pub distinct_or_fault : List FieldData → Result (List FieldData) ℕ
distinct_or_fault fs = if are_distinct fs then Ok fs else Err 8

-- the message that the words spell
abbrev pub message_in : Nums → List (List ℕ) → Result (List FieldData) ℕ
message_in nums ws = fields_in nums ws >>= distinct_or_fault

-- the fields of a message, each behind a space
abbrev pub spaced_field : FieldData → List ℕ
spaced_field f = 32 ∷ field_text f

abbrev pub fields_text : List FieldData → List ℕ
fields_text fs = flat_map spaced_field fs

-- a message as its type has it, each field of which the text knows
pub record IsMessage (nums : Nums) (fs : List FieldData) : Type 0 where
  pub fields : AllByRecursion (IsField nums) fs
  pub distinct : are_distinct fs ≡ true
