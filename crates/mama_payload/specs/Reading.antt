-- believed: reading from the front, with the first fault that is met. A reader answers a value and the bytes after it.
use Rattle.std.specs.Prelude.{ℕ, ℤ, zero, suc, ◌-◌, Bool, true, false, ◌&&◌, not, List, [], ◌∷◌, ◌++◌, length, take, drop, Option, Some, None, Result, Ok, Err, nat_lt, ◌==◌, if◌then◌else◌}
use Rattle.std.specs.Int.{Width, w8, w16, w32, w64, byte_len, from_be_bytes, cast_signed}
use Rattle.mama_msg.specs.declared.value.Value.{Value}
use Rattle.mama_msg.specs.declared.value.Value.TheVariants as values
use Rattle.mama_msg.specs.Price.{PriceData}
use Rattle.mama_msg.specs.Value.{is_printable}
use Rattle.mama_msg.specs.Field.{FieldData, key_from}
use Rattle.mama_msg.specs.Message.{has_key}
use Rattle.mama_payload.specs.Stop.{fault_at}
use Rattle.mama_payload.specs.declared.letters.Alphabet.{Alphabet}
use Rattle.mama_payload.specs.declared.letters.Alphabet.TheVariants as alphabets
use Rattle.mama_payload.specs.declared.kind.Kind.{Kind}
use Rattle.mama_payload.specs.declared.kind.Kind.TheVariants as kinds
use Rattle.mama_payload.specs.declared.version.Version.{Version}
use Rattle.mama_payload.specs.declared.version.Version.TheVariants as versions
use Rattle.mama_payload.specs.Spelling.{is_numbers, has_numbers}
use Rattle.mama_payload.specs.declared.fault.Rule.{Rule}
use Rattle.mama_payload.specs.declared.fault.Rule.TheVariants as rules
use Rattle.mama_payload.specs.declared.fault.Fault.{Fault}
use Rattle.mama_payload.specs.declared.fault.Stop.{Stop}
use Rattle.mama_payload.specs.declared.fault.Stop.TheVariants as stops
use Rattle.mama_payload.specs.declared.fault.DecodeFault.{DecodeFault}
use Rattle.mama_payload.specs.declared.fault.DecodeFault.TheVariants as faults
use Rattle.mama_msg.specs.Name.{is_name_byte}

-- the next step reads on from what the first one read; a fault ends the reading
infixl 10 ◌>>=◌
abbrev pub ◌>>=◌ : {A B : Type 0} → Result A Fault → (A → Result B Fault) → Result B Fault
(Ok x) >>= f = f x
(Err e) >>= f = Err e

-- the value that was read, seen otherwise
abbrev pub seen_as : {A B : Type 0} → (A → B) → Result (A × List ℕ) Fault → Result (B × List ℕ) Fault
seen_as view read = read >>= λ x. Ok (view x.0, x.1)

-- ---- bytes and numbers

-- a byte
abbrev pub byte_at : List ℕ → Result (ℕ × List ℕ) Fault
byte_at [] = Err (fault_at rules.Truncated [])
byte_at (b ∷ bytes) = Ok (b, bytes)

-- a byte that is at most the limit
abbrev pub limited_at : ℕ → List ℕ → Result (ℕ × List ℕ) Fault
limited_at limit bytes = byte_at bytes >>= λ n. if nat_lt limit n.0 then Err (fault_at rules.TooMany bytes) else Ok n

-- an unsigned number
abbrev pub number_at : Width → List ℕ → Result (ℕ × List ℕ) Fault
number_at w bytes = if nat_lt (length bytes) (byte_len w) then Err (fault_at rules.Truncated []) else Ok (from_be_bytes w (take (byte_len w) bytes), drop (byte_len w) bytes)

-- a signed number
abbrev pub signed_at : Width → List ℕ → Result (ℤ × List ℕ) Fault
signed_at w bytes = seen_as (cast_signed w) (number_at w bytes)

-- n bytes of any kind
abbrev pub bytes_at : ℕ → List ℕ → Result (List ℕ × List ℕ) Fault
bytes_at n bytes = if nat_lt (length bytes) n then Err (fault_at rules.Truncated []) else Ok (take n bytes, drop n bytes)

-- n bytes that each pass the test, byte by byte
unfoldable pub letters_at : (ℕ → Bool) → ℕ → List ℕ → Result (List ℕ × List ℕ) Fault
letters_at test zero bytes = Ok ([], bytes)
letters_at test (suc n) [] = Err (fault_at rules.Truncated [])
letters_at test (suc n) (b ∷ bytes) = if test b then seen_as (λ letters. b ∷ letters) (letters_at test n bytes) else Err (fault_at rules.BadText (b ∷ bytes))

-- the bytes that an alphabet allows
abbrev pub allowed : Alphabet → ℕ → Bool
allowed alphabets.Name = is_name_byte
allowed alphabets.Text = is_printable

-- ---- values

-- a byte that is 0 or 1
abbrev pub flag_at : List ℕ → Result (Bool × List ℕ) Fault
flag_at [] = Err (fault_at rules.Truncated [])
flag_at (zero ∷ bytes) = Ok (false, bytes)
flag_at (suc zero ∷ bytes) = Ok (true, bytes)
flag_at (suc (suc b) ∷ bytes) = Err (fault_at rules.BadTag (suc (suc b) ∷ bytes))

-- a text behind its length
unfoldable pub text_at : List ℕ → Result (List ℕ × List ℕ) Fault
text_at bytes = byte_at bytes >>= λ n. letters_at (allowed alphabets.Text) n.0 n.1

-- bytes of any kind behind their length
unfoldable pub block_at : List ℕ → Result (List ℕ × List ℕ) Fault
block_at bytes = byte_at bytes >>= λ n. bytes_at n.0 n.1

-- a price: the mantissa, and the decimals, at most 18
unfoldable pub price_at : List ℕ → Result (PriceData × List ℕ) Fault
price_at bytes = do
  mantissa ← signed_at w64 bytes
  decimals ← limited_at 18 mantissa.1
  Ok (record { mantissa = mantissa.0; decimals = decimals.0 }, decimals.1)

-- n signed numbers of 64 bits
unfoldable pub numbers_at : ℕ → List ℕ → Result (List ℤ × List ℕ) Fault
numbers_at zero bytes = Ok ([], bytes)
numbers_at (suc n) bytes = signed_at w64 bytes >>= λ z. seen_as (λ zs. z.0 ∷ zs) (numbers_at n z.1)

-- a list of numbers behind its count, at most 24
unfoldable pub list_at : List ℕ → Result (List ℤ × List ℕ) Fault
list_at bytes = limited_at 24 bytes >>= λ n. numbers_at n.0 n.1

-- a value of this kind
unfoldable pub value_at : Kind → List ℕ → Result (Value × List ℕ) Fault
value_at kinds.Bool bytes = seen_as values.Bool (flag_at bytes)
value_at kinds.Char bytes = seen_as values.Char (byte_at bytes)
value_at kinds.I8 bytes = seen_as values.I8 (signed_at w8 bytes)
value_at kinds.I16 bytes = seen_as values.I16 (signed_at w16 bytes)
value_at kinds.I32 bytes = seen_as values.I32 (signed_at w32 bytes)
value_at kinds.I64 bytes = seen_as values.I64 (signed_at w64 bytes)
value_at kinds.U8 bytes = seen_as values.U8 (byte_at bytes)
value_at kinds.U16 bytes = seen_as values.U16 (number_at w16 bytes)
value_at kinds.U32 bytes = seen_as values.U32 (number_at w32 bytes)
value_at kinds.U64 bytes = seen_as values.U64 (number_at w64 bytes)
value_at kinds.Text bytes = seen_as values.Text (text_at bytes)
value_at kinds.Bytes bytes = seen_as values.Bytes (block_at bytes)
value_at kinds.Price bytes = seen_as values.Price (price_at bytes)
value_at kinds.Moment bytes = seen_as values.Moment (number_at w64 bytes)
value_at kinds.Numbers bytes = seen_as values.Numbers (list_at bytes)

-- ---- fields

-- the kind with this tag in any version
abbrev pub kind_with_tag : ℕ → Option Kind
kind_with_tag tag =
    if tag == 0x01 then Some kinds.Bool else if tag == 0x02 then Some kinds.Char
    else if tag == 0x03 then Some kinds.I8 else if tag == 0x04 then Some kinds.I16
    else if tag == 0x05 then Some kinds.I32 else if tag == 0x06 then Some kinds.I64
    else if tag == 0x07 then Some kinds.U8 else if tag == 0x08 then Some kinds.U16
    else if tag == 0x09 then Some kinds.U32 else if tag == 0x0a then Some kinds.U64
    else if tag == 0x0b then Some kinds.Text else if tag == 0x0c then Some kinds.Bytes
    else if tag == 0x0d then Some kinds.Price else if tag == 0x0e then Some kinds.Moment
    else if tag == 0x0f then Some kinds.Numbers else None

-- the kinds of a version: lists of numbers are of version 2 alone
abbrev pub is_kind_of : Version → Kind → Bool
is_kind_of versions.One kind = not (is_numbers kind)
is_kind_of versions.Two kind = true

abbrev pub if_kind_of : Version → Option Kind → Option Kind
if_kind_of version None = None
if_kind_of version (Some kind) = if is_kind_of version kind then Some kind else None

-- the kind with this tag in a version
abbrev pub kind_in : Version → ℕ → Option Kind
kind_in version tag = if_kind_of version (kind_with_tag tag)

-- what a byte stands for, or a fault at it
abbrev pub known : {X : Type 0} → Option X → List ℕ → List ℕ → Result (X × List ℕ) Fault
known None bytes rest = Err (fault_at rules.BadTag bytes)
known (Some x) bytes rest = Ok (x, rest)

-- the kind of a version whose tag comes
unfoldable pub kind_at : Version → List ℕ → Result (Kind × List ℕ) Fault
kind_at version bytes = byte_at bytes >>= λ tag. known (kind_in version tag.0) bytes tag.1

-- the name of a field with this fid; where the fid is 0 it is not empty
unfoldable pub name_at : ℕ → List ℕ → Result (List ℕ × List ℕ) Fault
name_at fid bytes = do
  n ← limited_at 32 bytes
  if n.0 == 0 && fid == 0 then Err (fault_at rules.BadText bytes) else letters_at (allowed alphabets.Name) n.0 n.1

-- A field of a version, behind these. Its key is looked up when the name was read, and the fault then stands at the tag.
unfoldable pub field_at : Version → List FieldData → List ℕ → Result (FieldData × List ℕ) Fault
field_at version before bytes = do
  kind ← kind_at version bytes
  fid ← number_at w16 kind.1
  name ← name_at fid.0 fid.1
  value ← if has_key (key_from fid.0 name.0) before then Err (fault_at rules.Repeated bytes) else value_at kind.0 name.1
  Ok (record { fid = fid.0; name = name.0; value = value.0 }, value.1)

-- these fields and n more
unfoldable pub fields_at : Version → ℕ → List FieldData → List ℕ → Result (List FieldData × List ℕ) Fault
fields_at version zero before bytes = Ok (before, bytes)
fields_at version (suc n) before bytes = do
  field ← field_at version before bytes
  fields_at version n (before ++ field.0 ∷ []) field.1

-- ---- messages

-- the version with this first byte
abbrev pub version_with_byte : ℕ → Option Version
version_with_byte byte = if byte == 1 then Some versions.One else if byte == 2 then Some versions.Two else None

-- the version
unfoldable pub version_at : List ℕ → Result (Version × List ℕ) Fault
version_at bytes = byte_at bytes >>= λ byte. known (version_with_byte byte.0) bytes byte.1

-- version 2 is for lists of numbers alone: other messages have an older form
abbrev pub has_old_form : Version → List FieldData → Bool
has_old_form versions.One fields = false
has_old_form versions.Two fields = not (has_numbers fields)

-- A message. That it has an older form is seen when all its fields were read, and the fault stands at the version.
unfoldable pub message_at : List ℕ → Result (List FieldData × List ℕ) Fault
message_at bytes = do
  version ← version_at bytes
  count ← limited_at 64 version.1
  fields ← fields_at version.0 count.0 [] count.1
  if has_old_form version.0 fields.0 then Err (fault_at rules.OldForm bytes) else Ok fields

-- nothing is left
abbrev pub ended : List FieldData × List ℕ → Result (List FieldData) Fault
ended (fields, []) = Ok fields
ended (fields, b ∷ bytes) = Err (fault_at rules.Trailing (b ∷ bytes))

-- a message, and nothing after it
abbrev pub whole : List ℕ → Result (List FieldData) Fault
whole bytes = message_at bytes >>= ended

-- a rule that is broken at a place
abbrev pub broken : Rule → ℕ → DecodeFault
broken rules.Truncated place = faults.Truncated place
broken rules.BadTag place = faults.BadTag place
broken rules.BadText place = faults.BadText place
broken rules.Repeated place = faults.Repeated place
broken rules.TooMany place = faults.TooMany place
broken rules.OldForm place = faults.OldForm place
broken rules.Trailing place = faults.Trailing place

-- the place of a fault, counted from 0 in all of the bytes
abbrev pub placed : ℕ → Result (List FieldData) Fault → Result (List FieldData) DecodeFault
placed size (Ok fields) = Ok fields
placed size (Err fault) = Err (broken fault.rule (size - fault.left))

-- the message that the bytes spell, or the first fault and its place
abbrev pub decoded : List ℕ → Result (List FieldData) DecodeFault
decoded bytes = placed (length bytes) (whole bytes)

-- the answer to this many bytes in which reading stopped
abbrev pub stopped : ℕ → Stop → DecodeFault
stopped size stops.OutOfMemory = faults.OutOfMemory
stopped size (stops.Fault fault) = broken fault.rule (size - fault.left)
