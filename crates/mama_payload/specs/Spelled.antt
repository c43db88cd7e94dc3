-- believed: which messages have a spelling.
use Rattle.std.specs.Prelude.{ℤ, ◌<◌, ◌≤◌, ◌^◌, List, length}
use Rattle.std.specs.List.{AllByRecursion}
use Rattle.std.specs.Int.{w8, w16, w32, w64}
use Rattle.std.specs.Int.RustNames.{FitsSigned}
use Rattle.mama_msg.specs.declared.value.Value.{Value}
use Rattle.mama_msg.specs.declared.value.Value.TheVariants as values
use Rattle.mama_msg.specs.Value.{IsText}
use Rattle.mama_msg.specs.Field.{FieldData, IsKeyed}
use Rattle.mama_msg.specs.Message.{AreDistinct}
use Rattle.mama_msg.specs.Name.{IsNameText}

-- at most 24 numbers of 64 bits
abbrev pub AreNumbers : List ℤ → Type 0
AreNumbers zs = (length zs ≤ 24) × AllByRecursion (FitsSigned w64) zs

-- a value is in the range of its type
abbrev pub IsInRange : Value → Type 0
IsInRange (values.Bool b) = Unit {0}
IsInRange (values.Char n) = n < 2 ^ 8
IsInRange (values.I8 z) = FitsSigned w8 z
IsInRange (values.I16 z) = FitsSigned w16 z
IsInRange (values.I32 z) = FitsSigned w32 z
IsInRange (values.I64 z) = FitsSigned w64 z
IsInRange (values.U8 n) = n < 2 ^ 8
IsInRange (values.U16 n) = n < 2 ^ 16
IsInRange (values.U32 n) = n < 2 ^ 32
IsInRange (values.U64 n) = n < 2 ^ 64
IsInRange (values.Text text) = IsText text
IsInRange (values.Bytes bytes) = length bytes ≤ 255
IsInRange (values.Price price) = FitsSigned w64 price.mantissa × (price.decimals ≤ 18)
IsInRange (values.Moment n) = n < 2 ^ 64
IsInRange (values.Numbers zs) = AreNumbers zs

-- a field that the program's types can hold
pub record IsField (f : FieldData) : Type 0 where
  pub fid : f.fid < 2 ^ 16
  pub name : IsNameText f.name
  pub keyed : IsKeyed f.fid f.name
  pub value : IsInRange f.value

-- a message that has a spelling: at most 64 fields, with distinct keys
pub record HasSpelling (fields : List FieldData) : Type 0 where
  pub short : length fields ≤ 64
  pub each : AllByRecursion IsField fields
  pub distinct : AreDistinct fields
