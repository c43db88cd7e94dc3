-- believed: values, fields and messages are compared exactly: the tests hold where both sides are one, and nowhere else.
use Rattle.std.specs.Prelude.{ℤ, Bool, false, ◌==◌, ◌&&◌, List}
use Rattle.std.specs.Bool.{beq}
use Rattle.std.specs.Cmp.Lexicographic.{pointwise}
use Rattle.std.specs.Ordering.{int_eq}
use Rattle.std.specs.Str.{bytes_eq}
use Rattle.mama_msg.specs.Price.{PriceData}
use Rattle.mama_msg.specs.Field.{FieldData}
use Rattle.mama_msg.specs.declared.value.Value.{Value}
use Rattle.mama_msg.specs.declared.value.Value.TheVariants.{Bool as Truth, Char, I8, I16, I32, I64, U8, U16, U32, U64, Text, Bytes, Price, Moment, Numbers}

-- two prices have the same parts
abbrev pub same_price : PriceData → PriceData → Bool
same_price a b = int_eq a.mantissa b.mantissa && a.decimals == b.decimals

-- two lists have the same numbers in the same order
abbrev pub same_numbers : List ℤ → List ℤ → Bool
same_numbers a b = pointwise int_eq a b

-- two values are of one type and hold the same
abbrev pub same_value : Value → Value → Bool
same_value (Truth a) (Truth b) = beq a b
same_value (Char a) (Char b) = a == b
same_value (I8 a) (I8 b) = int_eq a b
same_value (I16 a) (I16 b) = int_eq a b
same_value (I32 a) (I32 b) = int_eq a b
same_value (I64 a) (I64 b) = int_eq a b
same_value (U8 a) (U8 b) = a == b
same_value (U16 a) (U16 b) = a == b
same_value (U32 a) (U32 b) = a == b
same_value (U64 a) (U64 b) = a == b
same_value (Text a) (Text b) = bytes_eq a b
same_value (Bytes a) (Bytes b) = bytes_eq a b
same_value (Price a) (Price b) = same_price a b
same_value (Moment a) (Moment b) = a == b
same_value (Numbers a) (Numbers b) = same_numbers a b
same_value _ _ = false

-- two fields have the same fid, name and value
abbrev pub same_field : FieldData → FieldData → Bool
same_field a b = (a.fid == b.fid && bytes_eq a.name b.name) && same_value a.value b.value

-- two messages have the same fields in the same order
abbrev pub same_message : List FieldData → List FieldData → Bool
same_message m n = pointwise same_field m n
