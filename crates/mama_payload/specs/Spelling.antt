-- believed: the one spelling of a message, in the version that it needs. All numbers have the most significant byte first; signed
-- ones are two's complement.
use Rattle.std.specs.Prelude.{ℕ, ℤ, Bool, true, false, List, [], ◌∷◌, ◌++◌, length, if◌then◌else◌}
use Rattle.std.specs.List.{flat_map, list_any}
use Rattle.std.specs.Int.{Width, w8, w16, w32, w64, to_be_bytes, cast_unsigned}
use Rattle.mama_msg.specs.declared.value.Value.{Value}
use Rattle.mama_msg.specs.declared.value.Value.TheVariants as values
use Rattle.mama_msg.specs.Field.{FieldData}
use Rattle.mama_payload.specs.declared.kind.Kind.{Kind}
use Rattle.mama_payload.specs.declared.kind.Kind.TheVariants as kinds
use Rattle.mama_payload.specs.declared.version.Version.{Version}
use Rattle.mama_payload.specs.declared.version.Version.TheVariants as versions

-- the kind of a value
abbrev pub kind_of : Value → Kind
kind_of (values.Bool b) = kinds.Bool
kind_of (values.Char n) = kinds.Char
kind_of (values.I8 z) = kinds.I8
kind_of (values.I16 z) = kinds.I16
kind_of (values.I32 z) = kinds.I32
kind_of (values.I64 z) = kinds.I64
kind_of (values.U8 n) = kinds.U8
kind_of (values.U16 n) = kinds.U16
kind_of (values.U32 n) = kinds.U32
kind_of (values.U64 n) = kinds.U64
kind_of (values.Text text) = kinds.Text
kind_of (values.Bytes bytes) = kinds.Bytes
kind_of (values.Price price) = kinds.Price
kind_of (values.Moment n) = kinds.Moment
kind_of (values.Numbers zs) = kinds.Numbers

-- the tag byte of a kind
abbrev pub tag_of : Kind → ℕ
tag_of kinds.Bool = 0x01
tag_of kinds.Char = 0x02
tag_of kinds.I8 = 0x03
tag_of kinds.I16 = 0x04
tag_of kinds.I32 = 0x05
tag_of kinds.I64 = 0x06
tag_of kinds.U8 = 0x07
tag_of kinds.U16 = 0x08
tag_of kinds.U32 = 0x09
tag_of kinds.U64 = 0x0a
tag_of kinds.Text = 0x0b
tag_of kinds.Bytes = 0x0c
tag_of kinds.Price = 0x0d
tag_of kinds.Moment = 0x0e
tag_of kinds.Numbers = 0x0f

-- a signed number in two's complement
abbrev pub signed : Width → ℤ → List ℕ
signed w z = to_be_bytes w (cast_unsigned w z)

-- one byte with the length, and then the bytes
abbrev pub counted : List ℕ → List ℕ
counted bytes = length bytes ∷ bytes

-- one byte with the count, and then the numbers
abbrev pub listed : List ℤ → List ℕ
listed zs = length zs ∷ flat_map (signed w64) zs

-- the bytes of a value
abbrev pub value_bytes : Value → List ℕ
value_bytes (values.Bool false) = 0 ∷ []
value_bytes (values.Bool true) = 1 ∷ []
value_bytes (values.Char n) = n ∷ []
value_bytes (values.I8 z) = signed w8 z
value_bytes (values.I16 z) = signed w16 z
value_bytes (values.I32 z) = signed w32 z
value_bytes (values.I64 z) = signed w64 z
value_bytes (values.U8 n) = n ∷ []
value_bytes (values.U16 n) = to_be_bytes w16 n
value_bytes (values.U32 n) = to_be_bytes w32 n
value_bytes (values.U64 n) = to_be_bytes w64 n
value_bytes (values.Text text) = counted text
value_bytes (values.Bytes bytes) = counted bytes
value_bytes (values.Price price) = signed w64 price.mantissa ++ price.decimals ∷ []
value_bytes (values.Moment n) = to_be_bytes w64 n
value_bytes (values.Numbers zs) = listed zs

-- the bytes of a field: the tag, the fid, the name behind its length, and the value
abbrev pub field_bytes : FieldData → List ℕ
field_bytes f = tag_of (kind_of f.value) ∷ to_be_bytes w16 f.fid ++ (counted f.name ++ value_bytes f.value)

-- the kind of lists of numbers
abbrev pub is_numbers : Kind → Bool
is_numbers kinds.Numbers = true
is_numbers kind = false

-- some field is a list of numbers
abbrev pub has_numbers : List FieldData → Bool
has_numbers fields = list_any (λ f. is_numbers (kind_of f.value)) fields

-- the version of a message: 2 exactly where some field is a list of numbers
abbrev pub version_of : List FieldData → Version
version_of fields = if has_numbers fields then versions.Two else versions.One

-- the first byte of a payload
abbrev pub first_byte : Version → ℕ
first_byte versions.One = 1
first_byte versions.Two = 2

-- the bytes of a message: the version, the number of fields, and the fields in order
abbrev pub spelling : List FieldData → List ℕ
spelling fields = first_byte (version_of fields) ∷ length fields ∷ flat_map field_bytes fields

-- ---- what has a spelling
