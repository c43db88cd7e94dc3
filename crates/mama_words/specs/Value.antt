-- believed: The values of fields, their types, and how both are spelled.
use Rattle.std.specs.Prelude.{◌≡◌, ℕ, ◌^◌, ◌+◌, ◌*◌, ◌/◌, ◌%◌, ◌-◌, ◌<◌, ◌≤◌, Bool, true, false, ◌&&◌, nat_lt, nat_le, codes, List, [], ◌∷◌, ◌++◌, length, Option, Some, None, option_map, option_and_then, if◌then◌else◌}
use Rattle.std.specs.List.{flat_map, list_all}
use Rattle.std.specs.Str.{bytes_eq}
use Rattle.std.specs.Fmt.{digit_glyph}
use Rattle.mama_msg.specs.declared.value.Value.{Value}
use Rattle.mama_msg.specs.declared.value.Value.TheVariants as values
use Rattle.mama_msg.specs.Price.{PriceData}
use Rattle.mama_msg.specs.Value.{IsText, is_printable}
use Rattle.mama_words.specs.declared.value_type.ValueType.{ValueType}
use Rattle.mama_words.specs.declared.value_type.ValueType.TheVariants as types
use Rattle.mama_words.specs.declared.nums.Nums.{Nums}
use Rattle.mama_words.specs.declared.nums.Nums.TheVariants.{Unknown, Known}
use Rattle.mama_words.specs.declared.version.Version.{Version}
use Rattle.mama_words.specs.declared.version.Version.TheVariants.{One, Two}
use Rattle.mama_words.specs.Parting.{cut_at}
use Rattle.mama_words.specs.Number.{number_in, below_in, int_in, is_within}
use Rattle.mama_words.specs.Quote.{quoted_in}
use Rattle.mama_words.specs.NumberList.{numbers_text, numbers_in, AreNumbers}
use Rattle.mama_edge.specs.Decimal.{decimal, int_decimal}
use Rattle.mama_edge.specs.Quoted.{quoted}

-- the word for a type
abbrev pub type_text : ValueType → List ℕ
type_text types.Bool = codes "bool"
type_text types.Char = codes "char"
type_text types.I8 = codes "i8"
type_text types.I16 = codes "i16"
type_text types.I32 = codes "i32"
type_text types.I64 = codes "i64"
type_text types.U8 = codes "u8"
type_text types.U16 = codes "u16"
type_text types.U32 = codes "u32"
type_text types.U64 = codes "u64"
type_text types.Text = codes "text"
type_text types.Bytes = codes "bytes"
type_text types.Price = codes "price"
type_text types.Moment = codes "moment"
type_text types.Numbers = codes "nums"

-- the type that a word is for in some text
unfoldable pub any_type_in : List ℕ → Option ValueType
any_type_in word =
    if bytes_eq word (codes "bool") then Some types.Bool
    else (if bytes_eq word (codes "char") then Some types.Char
    else (if bytes_eq word (codes "i8") then Some types.I8
    else (if bytes_eq word (codes "i16") then Some types.I16
    else (if bytes_eq word (codes "i32") then Some types.I32
    else (if bytes_eq word (codes "i64") then Some types.I64
    else (if bytes_eq word (codes "u8") then Some types.U8
    else (if bytes_eq word (codes "u16") then Some types.U16
    else (if bytes_eq word (codes "u32") then Some types.U32
    else (if bytes_eq word (codes "u64") then Some types.U64
    else (if bytes_eq word (codes "text") then Some types.Text
    else (if bytes_eq word (codes "bytes") then Some types.Bytes
    else (if bytes_eq word (codes "price") then Some types.Price
    else (if bytes_eq word (codes "moment") then Some types.Moment
    else (if bytes_eq word (codes "nums") then Some types.Numbers else None))))))))))))))

-- texts of version 2 know lists of numbers
abbrev pub nums_of : Version → Nums
nums_of One = Unknown
nums_of Two = Known

-- the types that a text knows: all, or all but nums
abbrev pub is_known : Nums → ValueType → Bool
is_known Unknown types.Numbers = false
is_known _ _ = true

abbrev pub if_known : Nums → Option ValueType → Option ValueType
if_known nums None = None
if_known nums (Some t) = if is_known nums t then Some t else None

-- the type that a word is for
abbrev pub type_in : Nums → List ℕ → Option ValueType
type_in nums word = if_known nums (any_type_in word)

-- the type of a value
abbrev pub type_of : Value → ValueType
type_of (values.Bool b) = types.Bool
type_of (values.Char n) = types.Char
type_of (values.I8 z) = types.I8
type_of (values.I16 z) = types.I16
type_of (values.I32 z) = types.I32
type_of (values.I64 z) = types.I64
type_of (values.U8 n) = types.U8
type_of (values.U16 n) = types.U16
type_of (values.U32 n) = types.U32
type_of (values.U64 n) = types.U64
type_of (values.Text t) = types.Text
type_of (values.Bytes bs) = types.Bytes
type_of (values.Price p) = types.Price
type_of (values.Moment n) = types.Moment
type_of (values.Numbers zs) = types.Numbers

-- two hexadecimal digits, in lower case
abbrev pub hex_pair : ℕ → List ℕ
hex_pair b = digit_glyph false (b / 16) ∷ digit_glyph false (b % 16) ∷ []

abbrev pub bool_text : Bool → List ℕ
bool_text true = codes "true"
bool_text false = codes "false"

-- the spelling of bytes: an x and two digits for each
abbrev pub bytes_text : List ℕ → List ℕ
bytes_text bs = 120 ∷ flat_map hex_pair bs

-- the spelling of a price: the mantissa and the number of decimals
abbrev pub price_text : PriceData → List ℕ
price_text p = int_decimal p.mantissa ++ 47 ∷ decimal p.decimals

-- the spelling of a value
abbrev pub value_text : Value → List ℕ
value_text (values.Bool b) = bool_text b
value_text (values.Char n) = decimal n
value_text (values.I8 z) = int_decimal z
value_text (values.I16 z) = int_decimal z
value_text (values.I32 z) = int_decimal z
value_text (values.I64 z) = int_decimal z
value_text (values.U8 n) = decimal n
value_text (values.U16 n) = decimal n
value_text (values.U32 n) = decimal n
value_text (values.U64 n) = decimal n
value_text (values.Text t) = quoted t
value_text (values.Bytes bs) = bytes_text bs
value_text (values.Price p) = price_text p
value_text (values.Moment n) = decimal n
value_text (values.Numbers zs) = numbers_text zs

abbrev pub bool_in : List ℕ → Option Bool
bool_in text = if bytes_eq text (codes "true") then Some true else (if bytes_eq text (codes "false") then Some false else None)

-- the number of a hexadecimal digit in lower case
abbrev pub digit_in : ℕ → Option ℕ
digit_in c = if nat_lt c 48 then None else (if nat_lt c 58 then Some (c - 48) else (if nat_lt c 97 then None else (if nat_lt c 103 then Some (c - 87) else None)))

abbrev pub pair_in : ℕ → ℕ → Option ℕ
pair_in high low = option_and_then (λ h. option_map (λ l. 16 * h + l) (digit_in low)) (digit_in high)

abbrev pub onto : List ℕ → Option (List ℕ) → Option (List ℕ)
onto front None = None
onto front (Some bs) = Some (front ++ bs)

abbrev pub hex_in : List ℕ → Option (List ℕ)
hex_in [] = Some []
hex_in (high ∷ []) = None
hex_in (high ∷ low ∷ rest) = option_and_then (λ b. onto (b ∷ []) (hex_in rest)) (pair_in high low)

abbrev pub if_short : Option (List ℕ) → Option (List ℕ)
if_short None = None
if_short (Some bs) = if nat_le (length bs) 255 then Some bs else None

unfoldable pub bytes_in : List ℕ → Option (List ℕ)
bytes_in [] = None
bytes_in (b ∷ bs) = if nat_lt b 120 then None else (if nat_lt 120 b then None else if_short (hex_in bs))

-- bytes of any number
unfoldable pub block_in : List ℕ → Option (List ℕ)
block_in [] = None
block_in (b ∷ bs) = if nat_lt b 120 then None else (if nat_lt 120 b then None else hex_in bs)

-- a text of at most 255 printable characters
abbrev pub if_text : Option (List ℕ) → Option (List ℕ)
if_text None = None
if_text (Some t) = if nat_le (length t) 255 && list_all is_printable t then Some t else None

abbrev pub text_in : List ℕ → Option (List ℕ)
text_in word = if_text (quoted_in word)

abbrev pub price_of : List ℕ × List ℕ → Option PriceData
price_of cut = option_and_then (λ m. option_map (λ d. record { mantissa = m; decimals = d }) (below_in 19 cut.1)) (int_in (2 ^ 63) cut.0)

abbrev pub price_in : List ℕ → Option PriceData
price_in text = option_and_then price_of (cut_at 47 text)

-- the value of this type that a text spells
unfoldable pub value_in : ValueType → List ℕ → Option Value
value_in types.Bool text = option_map (λ b. values.Bool b) (bool_in text)
value_in types.Char text = option_map (λ n. values.Char n) (below_in (2 ^ 8) text)
value_in types.I8 text = option_map (λ z. values.I8 z) (int_in (2 ^ 7) text)
value_in types.I16 text = option_map (λ z. values.I16 z) (int_in (2 ^ 15) text)
value_in types.I32 text = option_map (λ z. values.I32 z) (int_in (2 ^ 31) text)
value_in types.I64 text = option_map (λ z. values.I64 z) (int_in (2 ^ 63) text)
value_in types.U8 text = option_map (λ n. values.U8 n) (below_in (2 ^ 8) text)
value_in types.U16 text = option_map (λ n. values.U16 n) (below_in (2 ^ 16) text)
value_in types.U32 text = option_map (λ n. values.U32 n) (below_in (2 ^ 32) text)
value_in types.U64 text = option_map (λ n. values.U64 n) (number_in text)
value_in types.Text text = option_map (λ t. values.Text t) (text_in text)
value_in types.Bytes text = option_map (λ bs. values.Bytes bs) (bytes_in text)
value_in types.Price text = option_map (λ p. values.Price p) (price_in text)
value_in types.Moment text = option_map (λ n. values.Moment n) (number_in text)
value_in types.Numbers text = option_map (λ zs. values.Numbers zs) (numbers_in text)

-- a value as its type has it
abbrev pub IsValue : Value → Type 0
IsValue (values.Bool b) = Unit {0}
IsValue (values.Char n) = n < 2 ^ 8
IsValue (values.I8 z) = is_within (2 ^ 7) z ≡ true
IsValue (values.I16 z) = is_within (2 ^ 15) z ≡ true
IsValue (values.I32 z) = is_within (2 ^ 31) z ≡ true
IsValue (values.I64 z) = is_within (2 ^ 63) z ≡ true
IsValue (values.U8 n) = n < 2 ^ 8
IsValue (values.U16 n) = n < 2 ^ 16
IsValue (values.U32 n) = n < 2 ^ 32
IsValue (values.U64 n) = n < 2 ^ 64
IsValue (values.Text t) = IsText t
IsValue (values.Bytes bs) = (length bs ≤ 255) × (list_all (λ b. nat_lt b (2 ^ 8)) bs ≡ true)
IsValue (values.Price p) = (is_within (2 ^ 63) p.mantissa ≡ true) × (p.decimals ≤ 18)
IsValue (values.Moment n) = n < 2 ^ 64
IsValue (values.Numbers zs) = AreNumbers zs
