-- The bytes of a spelling are below 256.
use Rattle.std.proofs.Common.{◌≡◌, ℕ, ℤ, zero, suc, ◌^◌, ◌<◌, Bool, true, false, List, [], ◌∷◌, ◌++◌, length, refl, arith}
use Rattle.std.specs.List.{list_all, flat_map, AllByRecursion}
use Rattle.std.specs.Int.{Width, w8, w16, w32, w64, to_be_bytes, byte_at, byte_len, bytes_high_first, cast_unsigned}
use Rattle.std.proofs.lemmas.Bool.{and_from, and_parts, lt-ltb}
use Rattle.std.proofs.lemmas.Bool.Decides.{nat_tests}
use Rattle.std.proofs.lemmas.List.Folds.{list_all-append}
use Rattle.std.proofs.lemmas.Nat.{mod_below}
use Rattle.mama_msg.specs.declared.value.Value.{Value}
use Rattle.mama_msg.specs.declared.value.Value.TheVariants as values
use Rattle.mama_msg.specs.Value.{is_printable}
use Rattle.mama_msg.specs.Name.{is_name_byte}
use Rattle.mama_msg.specs.Field.{FieldData}
use Rattle.mama_payload.specs.declared.kind.Kind.{Kind}
use Rattle.mama_payload.specs.declared.kind.Kind.TheVariants as kinds
use Rattle.mama_payload.specs.declared.version.Version.{Version}
use Rattle.mama_payload.specs.declared.version.Version.TheVariants as versions
use Rattle.mama_payload.specs.Spelling.{kind_of, tag_of, signed, counted, version_of, first_byte, value_bytes, field_bytes, spelling}
use Rattle.mama_payload.specs.Spelled.{IsInRange, IsField}
use Rattle.mama_payload.specs.Laws.{is_byte, HasBytes, SpellingsAreBytes}

byte_is : (b : ℕ) → b < 2 ^ 8 → is_byte b ≡ true
byte_is b lt = lt-ltb b (2 ^ 8) lt

one_is : (b : ℕ) → b < 2 ^ 8 → list_all is_byte (b ∷ []) ≡ true
one_is b lt = and_from (is_byte b) true (byte_is b lt) refl

both : (a b : List ℕ) → list_all is_byte a ≡ true → list_all is_byte b ≡ true → list_all is_byte (a ++ b) ≡ true
both a b h i = rw list_all-append (and_from (list_all is_byte a) (list_all is_byte b) h i)

weaker : (test : ℕ → Bool) → ((b : ℕ) → test b ≡ true → b < 2 ^ 8) → (bytes : List ℕ) → list_all test bytes ≡ true → list_all is_byte bytes ≡ true
weaker test low [] h = refl
weaker test low (b ∷ bytes) h =
    let parts = and_parts (test b) (list_all test bytes) h in
    and_from (is_byte b) (list_all is_byte bytes) (byte_is b (low b parts.0)) (weaker test low bytes parts.1)

printable_is_low : (b : ℕ) → is_printable b ≡ true → b < 2 ^ 8
printable_is_low b h = grind (arith, nat_tests)

name_is_low : (b : ℕ) → is_name_byte b ≡ true → b < 2 ^ 8
name_is_low b h = grind (arith, nat_tests)

-- ---- numbers

digit_is_low : (i n : ℕ) → byte_at i n < 2 ^ 8
digit_is_low zero n = mod_below n 256 (omega arith)
digit_is_low (suc i) n = mod_below _ 256 (omega arith)

high_first : (k n : ℕ) → list_all is_byte (bytes_high_first k n) ≡ true
high_first zero n = refl
high_first (suc k) n = and_from (is_byte (byte_at k n)) (list_all is_byte (bytes_high_first k n)) (byte_is (byte_at k n) (digit_is_low k n)) (high_first k n)

number : (w : Width) (n : ℕ) → list_all is_byte (to_be_bytes w n) ≡ true
number w n = high_first (byte_len w) n

numbers : (zs : List ℤ) → list_all is_byte (flat_map (signed w64) zs) ≡ true
numbers [] = refl
numbers (z ∷ zs) = both (signed w64 z) (flat_map (signed w64) zs) (number w64 (cast_unsigned w64 z)) (numbers zs)

-- ---- values and fields

behind : (n : ℕ) (bytes : List ℕ) → n < 2 ^ 8 → list_all is_byte bytes ≡ true → list_all is_byte (n ∷ bytes) ≡ true
behind n bytes lt h = and_from (is_byte n) (list_all is_byte bytes) (byte_is n lt) h

value_is : (v : Value) → IsInRange v → HasBytes v → list_all is_byte (value_bytes v) ≡ true
value_is (values.Bool false) fits h = refl
value_is (values.Bool true) fits h = refl
value_is (values.Char n) fits h = one_is n fits
value_is (values.I8 z) fits h = number w8 (cast_unsigned w8 z)
value_is (values.I16 z) fits h = number w16 (cast_unsigned w16 z)
value_is (values.I32 z) fits h = number w32 (cast_unsigned w32 z)
value_is (values.I64 z) fits h = number w64 (cast_unsigned w64 z)
value_is (values.U8 n) fits h = one_is n fits
value_is (values.U16 n) fits h = number w16 n
value_is (values.U32 n) fits h = number w32 n
value_is (values.U64 n) fits h = number w64 n
value_is (values.Text text) fits h = behind (length text) text (omega (arith, fits.short)) (weaker is_printable printable_is_low text fits.printable)
value_is (values.Bytes bytes) fits h = behind (length bytes) bytes (omega (arith, fits)) h
value_is (values.Price price) fits h = both (signed w64 price.mantissa) (price.decimals ∷ []) (number w64 (cast_unsigned w64 price.mantissa)) (one_is price.decimals (omega (arith, fits.1)))
value_is (values.Moment n) fits h = number w64 n
value_is (values.Numbers zs) fits h = behind (length zs) (flat_map (signed w64) zs) (omega (arith, fits.0)) (numbers zs)

tag_is : (kind : Kind) → is_byte (tag_of kind) ≡ true
tag_is kinds.Bool = refl
tag_is kinds.Char = refl
tag_is kinds.I8 = refl
tag_is kinds.I16 = refl
tag_is kinds.I32 = refl
tag_is kinds.I64 = refl
tag_is kinds.U8 = refl
tag_is kinds.U16 = refl
tag_is kinds.U32 = refl
tag_is kinds.U64 = refl
tag_is kinds.Text = refl
tag_is kinds.Bytes = refl
tag_is kinds.Price = refl
tag_is kinds.Moment = refl
tag_is kinds.Numbers = refl

field_is : (f : FieldData) → IsField f → HasBytes f.value → list_all is_byte (field_bytes f) ≡ true
field_is f is h =
    let name = behind (length f.name) f.name (omega (arith, is.name.short)) (weaker is_name_byte name_is_low f.name is.name.letters) in
    let named = both (counted f.name) (value_bytes f.value) name (value_is f.value is.value h) in
    let numbered = both (to_be_bytes w16 f.fid) (counted f.name ++ value_bytes f.value) (number w16 f.fid) named in
    and_from (is_byte (tag_of (kind_of f.value))) (list_all is_byte (to_be_bytes w16 f.fid ++ (counted f.name ++ value_bytes f.value))) (tag_is (kind_of f.value)) numbered

fields_are : (fields : List FieldData) → AllByRecursion IsField fields → AllByRecursion (λ (f : FieldData). HasBytes f.value) fields → list_all is_byte (flat_map field_bytes fields) ≡ true
fields_are [] each has = refl
fields_are (f ∷ fields) each has = both (field_bytes f) (flat_map field_bytes fields) (field_is f each.0 has.0) (fields_are fields each.1 has.1)

first_is : (version : Version) → is_byte (first_byte version) ≡ true
first_is versions.One = refl
first_is versions.Two = refl

pub spellings-are-bytes : SpellingsAreBytes
spellings-are-bytes fields is has =
    let after = behind (length fields) (flat_map field_bytes fields) (omega (arith, is.short)) (fields_are fields is.each has) in
    and_from (is_byte (first_byte (version_of fields))) (list_all is_byte (length fields ∷ flat_map field_bytes fields)) (first_is (version_of fields)) after
