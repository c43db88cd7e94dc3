-- inner: the tests of values, fields and messages hold exactly where both sides are one, so they are equivalences.
use Rattle.std.specs.Prelude.{◌≡◌, ℤ, ◌==◌, ◌&&◌, List}
use Rattle.std.specs.Bool.{Decides}
use Rattle.std.specs.Cmp.{IsEquivalence, booleans_Decides, decided}
use Rattle.std.specs.Cmp.Lexicographic.{pointwise_decides}
use Rattle.std.specs.Ordering.{int_eq}
use Rattle.std.specs.Str.{bytes_eq}
use Rattle.std.proofs.Common.{ap, sym, true≢false}
use Rattle.std.proofs.lemmas.Bool.{and_parts, and_from}
use Rattle.std.proofs.lemmas.Bool.Decides.{Decides-eqb, Decides-int_eq}
use Rattle.std.proofs.lemmas.Slice.Eq.{bytes_eq-Decides}
use Rattle.mama_msg.specs.Price.{PriceData}
use Rattle.mama_msg.specs.Field.{FieldData}
use Rattle.mama_msg.specs.declared.value.Value.{Value}
use Rattle.mama_msg.specs.declared.value.Value.TheVariants.{Bool as Truth, Char, I8, I16, I32, I64, U8, U16, U32, U64, Text, Bytes, Price, Moment, Numbers}
use Rattle.mama_msg.specs.Equality.{same_price, same_numbers, same_value, same_field, same_message}

pub same_price-Decides : (a b : PriceData) → Decides (same_price a b) (a ≡ b)
same_price-Decides a b = (
  λ h.
      let parts = and_parts (int_eq a.mantissa b.mantissa) (a.decimals == b.decimals) h in
      let m : a.mantissa ≡ b.mantissa = (Decides-int_eq a.mantissa b.mantissa).0 parts.0 in
      let d : a.decimals ≡ b.decimals = (Decides-eqb a.decimals b.decimals).0 parts.1 in
      λ i. record { mantissa = m i; decimals = d i },
  λ e. and_from (int_eq a.mantissa b.mantissa) (a.decimals == b.decimals)
      ((Decides-int_eq a.mantissa b.mantissa).1 (ap (λ (p : PriceData). p.mantissa) e))
      ((Decides-eqb a.decimals b.decimals).1 (ap (λ (p : PriceData). p.decimals) e)),
)

pub same_numbers-Decides : (a b : List ℤ) → Decides (same_numbers a b) (a ≡ b)
same_numbers-Decides a b = pointwise_decides Decides-int_eq a b

pub same_value-Decides : (a b : Value) → Decides (same_value a b) (a ≡ b)
same_value-Decides (Truth a) (Truth b) = (λ h. ap Truth ((booleans_Decides a b).0 h), λ e. (booleans_Decides a b).1 (cc))
same_value-Decides (Char a) (Char b) = (λ h. ap Char ((Decides-eqb a b).0 h), λ e. (Decides-eqb a b).1 (cc))
same_value-Decides (I8 a) (I8 b) = (λ h. ap I8 ((Decides-int_eq a b).0 h), λ e. (Decides-int_eq a b).1 (cc))
same_value-Decides (I16 a) (I16 b) = (λ h. ap I16 ((Decides-int_eq a b).0 h), λ e. (Decides-int_eq a b).1 (cc))
same_value-Decides (I32 a) (I32 b) = (λ h. ap I32 ((Decides-int_eq a b).0 h), λ e. (Decides-int_eq a b).1 (cc))
same_value-Decides (I64 a) (I64 b) = (λ h. ap I64 ((Decides-int_eq a b).0 h), λ e. (Decides-int_eq a b).1 (cc))
same_value-Decides (U8 a) (U8 b) = (λ h. ap U8 ((Decides-eqb a b).0 h), λ e. (Decides-eqb a b).1 (cc))
same_value-Decides (U16 a) (U16 b) = (λ h. ap U16 ((Decides-eqb a b).0 h), λ e. (Decides-eqb a b).1 (cc))
same_value-Decides (U32 a) (U32 b) = (λ h. ap U32 ((Decides-eqb a b).0 h), λ e. (Decides-eqb a b).1 (cc))
same_value-Decides (U64 a) (U64 b) = (λ h. ap U64 ((Decides-eqb a b).0 h), λ e. (Decides-eqb a b).1 (cc))
same_value-Decides (Text a) (Text b) = (λ h. ap Text ((bytes_eq-Decides a b).0 h), λ e. (bytes_eq-Decides a b).1 (cc))
same_value-Decides (Bytes a) (Bytes b) = (λ h. ap Bytes ((bytes_eq-Decides a b).0 h), λ e. (bytes_eq-Decides a b).1 (cc))
same_value-Decides (Price a) (Price b) = (λ h. ap Price ((same_price-Decides a b).0 h), λ e. (same_price-Decides a b).1 (cc))
same_value-Decides (Moment a) (Moment b) = (λ h. ap Moment ((Decides-eqb a b).0 h), λ e. (Decides-eqb a b).1 (cc))
same_value-Decides (Numbers a) (Numbers b) = (λ h. ap Numbers ((same_numbers-Decides a b).0 h), λ e. (same_numbers-Decides a b).1 (cc))
same_value-Decides _ _ = (λ h. absurd (true≢false (sym h)), λ e. cc)

pub same_field-Decides : (a b : FieldData) → Decides (same_field a b) (a ≡ b)
same_field-Decides a b = (
  λ h.
      let parts = and_parts (a.fid == b.fid && bytes_eq a.name b.name) (same_value a.value b.value) h in
      let key = and_parts (a.fid == b.fid) (bytes_eq a.name b.name) parts.0 in
      let f : a.fid ≡ b.fid = (Decides-eqb a.fid b.fid).0 key.0 in
      let n : a.name ≡ b.name = (bytes_eq-Decides a.name b.name).0 key.1 in
      let v : a.value ≡ b.value = (same_value-Decides a.value b.value).0 parts.1 in
      λ i. record { fid = f i; name = n i; value = v i },
  λ e. and_from (a.fid == b.fid && bytes_eq a.name b.name) (same_value a.value b.value)
      (and_from (a.fid == b.fid) (bytes_eq a.name b.name)
      ((Decides-eqb a.fid b.fid).1 (ap (λ (p : FieldData). p.fid) e))
      ((bytes_eq-Decides a.name b.name).1 (ap (λ (p : FieldData). p.name) e)))
      ((same_value-Decides a.value b.value).1 (ap (λ (p : FieldData). p.value) e)),
)

pub same_message-Decides : (m n : List FieldData) → Decides (same_message m n) (m ≡ n)
same_message-Decides m n = pointwise_decides same_field-Decides m n

-- so they are equivalences
pub same_price_equivalence : IsEquivalence same_price
same_price_equivalence = decided same_price same_price-Decides

pub same_numbers_equivalence : IsEquivalence same_numbers
same_numbers_equivalence = decided same_numbers same_numbers-Decides

pub same_value_equivalence : IsEquivalence same_value
same_value_equivalence = decided same_value same_value-Decides

pub same_field_equivalence : IsEquivalence same_field
same_field_equivalence = decided same_field same_field-Decides

pub same_message_equivalence : IsEquivalence same_message
same_message_equivalence = decided same_message same_message-Decides
