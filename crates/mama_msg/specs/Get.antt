-- believed: what the getters answer.
use Rattle.std.specs.Prelude.{ℕ, ◌&&◌, nat_le, int_le, ℤ, pos, negsuc, Bool, List, Option, Some, None, Result, Ok, Err, if◌then◌else◌}
use Rattle.std.specs.Option.{ok_or}
use Rattle.mama_msg.specs.Price.{PriceData}
use Rattle.mama_msg.specs.Field.{FieldData}
use Rattle.mama_msg.specs.declared.value.Value.{Value}
use Rattle.mama_msg.specs.declared.value.Value.TheVariants.{Bool as Truth, I8, I16, I32, I64, U8, U16, U32, U64, Text, Price, Numbers}
use Rattle.mama_msg.specs.declared.get.GetFault.{GetFault}
use Rattle.mama_msg.specs.declared.get.GetFault.TheVariants.{NotFound, WrongType, OutOfRange}

-- the number that a value of an integer type holds
abbrev pub number_of : Value → Option ℤ
number_of (I8 n) = Some n
number_of (I16 n) = Some n
number_of (I32 n) = Some n
number_of (I64 n) = Some n
number_of (U8 n) = Some (pos n)
number_of (U16 n) = Some (pos n)
number_of (U32 n) = Some (pos n)
number_of (U64 n) = Some (pos n)
number_of _ = None

-- the truth that a value of that type holds
abbrev pub truth_of : Value → Option Bool
truth_of (Truth b) = Some b
truth_of _ = None

-- the text that a value of that type holds
abbrev pub text_of : Value → Option (List ℕ)
text_of (Text bytes) = Some bytes
text_of _ = None

-- the price that a value of that type holds
abbrev pub price_of : Value → Option PriceData
price_of (Price price) = Some price
price_of _ = None

-- the numbers that a value of that type holds
abbrev pub numbers_of : Value → Option (List ℤ)
numbers_of (Numbers zs) = Some zs
numbers_of _ = None

-- what is read from the field that was asked for: there has to be one, and of the right type
abbrev pub answer_of : {X : Type 0} → (Value → Option X) → Option FieldData → Result X GetFault
answer_of read None = Err NotFound
answer_of read (Some f) = ok_or (read f.value) WrongType

-- a number, where it is from low to high
abbrev pub signed_within : ℤ → ℤ → Result ℤ GetFault → Result ℤ GetFault
signed_within low high (Ok n) = if int_le low n && int_le n high then Ok n else Err OutOfRange
signed_within low high (Err e) = Err e

-- a number, where it is from 0 to high
abbrev pub unsigned_within : ℕ → Result ℤ GetFault → Result ℕ GetFault
unsigned_within high (Ok (pos n)) = if nat_le n high then Ok n else Err OutOfRange
unsigned_within high (Ok (negsuc n)) = Err OutOfRange
unsigned_within high (Err e) = Err e

-- the answer of a getter of a signed type, whose numbers are from low to high
abbrev pub signed_answer : ℤ → ℤ → Option FieldData → Result ℤ GetFault
signed_answer low high asked = signed_within low high (answer_of number_of asked)

-- the answer of a getter of an unsigned type, whose numbers are from 0 to high
abbrev pub unsigned_answer : ℕ → Option FieldData → Result ℕ GetFault
unsigned_answer high asked = unsigned_within high (answer_of number_of asked)
