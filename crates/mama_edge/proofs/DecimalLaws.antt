-- The decimal spelling of a number, and what its digits stand for.
use Rattle.std.proofs.Common.{◌≡◌, ◌≢◌, ℕ, zero, suc, ◌+◌, ◌*◌, ◌/◌, ◌%◌, ◌^◌, ◌<◌, ◌≤◌, List, [], ◌∷◌, ◌++◌, length, get_or, take, drop, set, append_assoc, ap, sym, ◌∙◌, subst, arith, ℤ, pos, negsuc, FitsSigned, inl, inr, Option, Some, None, IfSome, IfNone}
use Rattle.std.specs.List.{AllByRecursion, between}
use Rattle.std.specs.Char.{IsAsciiDigit}
use Rattle.std.specs.Str.Parse.{AllDigits, digits_value}
use Rattle.std.proofs.lemmas.Str.Parse.{IsNumeralModel, numerals_by_value, tells_digits, digit_from_value}
use Rattle.std.proofs.lemmas.Fmt.{digits_decimal, digits_value-decimal, decimal_nonempty, first_decimal, decimal_injective, decimal_digit, decimal_step, decimal-digits_value}
use Rattle.std.specs.Int.{w64}
use Rattle.std.specs.Int.Signed.{mag}
use Rattle.std.proofs.lemmas.Int.Digits.{digits_value_more, digits_more}
use Rattle.std.proofs.lemmas.Bool.{cases_lt}
use Rattle.std.proofs.lemmas.Slice.{first_rest}
use Rattle.std.proofs.lemmas.List.{drop-set, drop_all, append-nil, length_push}
use Rattle.std.proofs.lemmas.Str.Parse.{digits_value-take-le}
use Rattle.std.specs.Char.{digit_value}
use Rattle.mama_edge.specs.Decimal.{decimal, int_decimal}

numeral : IsNumeralModel (AllDigits 10) (digits_value 10)
numeral = numerals_by_value (AllDigits 10) tells_digits

-- what is known of the spelling of a number
pub record IsNumeral (text : List ℕ) (n : ℕ) : Type 0 where
  pub digits : AllDigits 10 text
  pub value : digits_value 10 text ≡ n
  pub some : 0 < length text
  pub lead : get_or text 0 0 ≡ 48 → length text ≡ 1

lead_of_decimal : (n : ℕ) → n < 2 ^ 64 → get_or (decimal n) 0 0 ≡ 48 → length (decimal n) ≡ 1
lead_of_decimal zero small e = ap length (decimal_digit 0 (omega arith))
lead_of_decimal (suc n) small e = absurd (omega (arith, first_decimal (suc n) (omega arith) small))

pub numeral_of_decimal : (n : ℕ) → n < 2 ^ 64 → IsNumeral (decimal n) n
numeral_of_decimal n small = record {
  digits = digits_decimal numeral n small;
  value = digits_value-decimal numeral n small;
  some = decimal_nonempty n small;
  lead = lead_of_decimal n small;
}

pub numeral_of : (text : List ℕ) (n : ℕ) → n < 2 ^ 64 → text ≡ decimal n → IsNumeral text n
numeral_of text n small e = subst (λ (t : List ℕ). IsNumeral t n) (sym e) (numeral_of_decimal n small)

-- digits without a spare zero in front are the spelling of what they stand for
pub decimal_of_numeral : (text : List ℕ) (n : ℕ) → n < 2 ^ 64 → IsNumeral text n → text ≡ decimal n
decimal_of_numeral text n small is =
    let fits : digits_value 10 text < 2 ^ 64 = omega (arith, is.value) in
    sym (decimal-digits_value numeral text is.digits is.some is.lead fits) ∙ ap decimal is.value

-- digits by cases on the list
pub digits_by_recursion : (text : List ℕ) → AllDigits 10 text → AllByRecursion IsAsciiDigit text
digits_by_recursion [] all = tt
digits_by_recursion (c ∷ cs) all = (digit_from_value c all.0, digits_by_recursion cs all.1)

digit_below : (ds : List ℕ) (i : ℕ) → AllDigits 10 ds → i < length ds → digit_value (get_or ds i 0) < 10
digit_below [] i all within = absurd (omega (arith, within))
digit_below (c ∷ cs) zero all within = all.0
digit_below (c ∷ cs) (suc i) all within = digit_below cs i all.1 (omega (arith, within))

-- a byte that is no digit, or passes the last number of 64 bits, tells so of the whole text
pub stopped : (ds : List ℕ) (i n : ℕ) → i < length ds → n ≡ digits_value 10 (take i ds)
    → ¬ ((digit_value (get_or ds i 0) < 10) × (n * 10 + digit_value (get_or ds i 0) < 2 ^ 64))
    → AllDigits 10 ds → 2 ^ 64 ≤ digits_value 10 ds
stopped ds i n within so_far stop all =
    let digit : digit_value (get_or ds i 0) < 10 = digit_below ds i all within in
    let next : digits_value 10 (take (i + 1) ds) ≡ n * 10 + digit_value (get_or ds i 0) =
    digits_value_more 10 ds i within ∙ ap (λ (k : ℕ). k * 10 + digit_value (get_or ds i 0)) (sym so_far) in
    let part : digits_value 10 (take (i + 1) ds) ≤ digits_value 10 ds = digits_value-take-le 10 ds (i + 1) (omega arith) in
    elim (cases_lt (n * 10 + digit_value (get_or ds i 0)) (2 ^ 64)) [ inl small ↦ absurd (stop (digit, small)) | inr large ↦ omega (arith, next, part, large) ]

-- the size of a signed number of 64 bits
pub mag_fits : (z : ℤ) → FitsSigned w64 z → mag z < 2 ^ 63
mag_fits (pos n) fits = omega (arith, fits)
mag_fits (negsuc n) fits = omega (arith, fits)

-- the last digit of what is left is put before the digits that stand already
pub digit_put : (start next rest n : ℕ) (buffer : List ℕ) → next + 1 ≡ start → 10 ≤ rest → rest < 2 ^ 64 → start < length buffer
    → decimal rest ++ drop (start + 1) buffer ≡ decimal n
    → decimal (rest / 10) ++ drop (next + 1) (set buffer start (48 + rest % 10)) ≡ decimal n
digit_put start next rest n buffer step large small within so_far =
    ap (λ (k : ℕ). decimal (rest / 10) ++ drop k (set buffer start (48 + rest % 10))) step
    ∙ ap (λ (xs : List ℕ). decimal (rest / 10) ++ xs) (drop-set buffer start (48 + rest % 10) within)
    ∙ sym (append_assoc (decimal (rest / 10)) ((48 + rest % 10) ∷ []) (drop (start + 1) buffer))
    ∙ ap (λ (xs : List ℕ). xs ++ drop (start + 1) buffer) (sym (decimal_step rest large small))
    ∙ so_far

pub last_digit_put : (start rest n : ℕ) (buffer : List ℕ) → rest < 10 → start < length buffer
    → decimal rest ++ drop (start + 1) buffer ≡ decimal n
    → drop start (set buffer start (48 + rest)) ≡ decimal n
last_digit_put start rest n buffer small within so_far =
    drop-set buffer start (48 + rest) within
    ∙ ap (λ (xs : List ℕ). xs ++ drop (start + 1) buffer) (sym (decimal_digit rest small))
    ∙ so_far

-- one digit less to come
pub shorter : (rest : ℕ) → 10 ≤ rest → rest < 2 ^ 64 → length (decimal (rest / 10)) + 1 ≡ length (decimal rest)
shorter rest large small = sym (length_push (decimal (rest / 10)) (48 + rest % 10)) ∙ ap length (sym (decimal_step rest large small))

pub nothing_put : (n : ℕ) (buffer : List ℕ) → length buffer ≡ 21 → decimal n ++ drop 21 buffer ≡ decimal n
nothing_put n buffer long = ap (λ (xs : List ℕ). decimal n ++ xs) (drop_all 21 buffer (omega arith)) ∙ append-nil (decimal n)

-- what is read from a text with one digit more
pub digits_next : (ds : List ℕ) (i n : ℕ) → i < length ds → AllDigits 10 (take i ds) → n ≡ digits_value 10 (take i ds)
    → digit_value (get_or ds i 0) < 10
    → AllDigits 10 (take (i + 1) ds) × (n * 10 + digit_value (get_or ds i 0) ≡ digits_value 10 (take (i + 1) ds))
digits_next ds i n within all so_far digit = (
  digits_more 10 ds i within all digit,
  ap (λ (k : ℕ). k * 10 + digit_value (get_or ds i 0)) so_far ∙ sym (digits_value_more 10 ds i within),
)

-- the text begins as the spelling of a number does: it is not empty, and has no spare zero in front
pub record BeginsAsNumeral (text : List ℕ) : Type 0 where
  pub some : 0 < length text
  pub lead : get_or text 0 0 ≡ 48 → length text ≡ 1

pub begins : (text : List ℕ) → 0 < length text → ¬ ((get_or text 0 0 ≡ 48) × (1 < length text)) → BeginsAsNumeral text
begins text some no_spare = record {
  some = some;
  lead = λ e. elim (cases_lt 1 (length text)) [ inl long ↦ absurd (no_spare (e, long)) | inr short ↦ omega arith ];
}

pub read_found : (r : Option ℕ) (text : List ℕ) → BeginsAsNumeral text → IfSome r (λ n. AllDigits 10 text × (n ≡ digits_value 10 text)) → IfSome r (λ n. n < 2 ^ 64) → IfSome r (λ n. text ≡ decimal n)
read_found None text start found fits = tt
read_found (Some n) text start found fits = decimal_of_numeral text n fits (record { digits = found.0; value = sym found.1; some = start.some; lead = start.lead })

pub read_none : (r : Option ℕ) (text : List ℕ) → IfNone r (AllDigits 10 text → 2 ^ 64 ≤ digits_value 10 text) → IfNone r ((n : ℕ) → n < 2 ^ 64 → text ≡ decimal n → ⊥)
read_none None text none = λ n small e.
    let is = numeral_of text n small e in
    let large = none is.digits in
    omega (arith, is.value, large)
read_none (Some n) text none = tt

-- a text spells one number
pub one_number : (text : List ℕ) (m n : ℕ) → m < 2 ^ 64 → n < 2 ^ 64 → text ≡ decimal m → text ≡ decimal n → m ≡ n
one_number text m n small_m small_n e f = decimal_injective m n small_m small_n (sym e ∙ f)

-- no digit is a minus sign
pub no_minus : (digits : List ℕ) (n : ℕ) → n < 2 ^ 64 → 45 ∷ digits ≡ decimal n → ⊥
no_minus digits n small e =
    let is = numeral_of (45 ∷ digits) n small e in
    let first = digit_from_value 45 is.digits.0 in
    omega (arith, first.0)

tails_equal : (x : ℕ) (xs ys : List ℕ) → x ∷ xs ≡ x ∷ ys → xs ≡ ys
tails_equal x xs ys e = cc

refuses : (text digits : List ℕ) → text ≡ 45 ∷ digits → ((n : ℕ) → n < 2 ^ 63 → digits ≡ decimal (suc n) → ⊥) → (z : ℤ) → FitsSigned w64 z → text ≡ int_decimal z → ⊥
refuses text digits same none (pos n) fits e = let small = mag_fits (pos n) fits in no_minus digits n (omega (arith, small)) (sym same ∙ e)
refuses text digits same none (negsuc n) fits e = none n (mag_fits (negsuc n) fits) (tails_equal 45 digits (decimal (suc n)) (sym same ∙ e))

refuses_plain : (text : List ℕ) → get_or text 0 0 ≢ 45 → ((n : ℕ) → n < 2 ^ 63 → text ≡ decimal n → ⊥) → (z : ℤ) → FitsSigned w64 z → text ≡ int_decimal z → ⊥
refuses_plain text other none (pos n) fits e = none n (mag_fits (pos n) fits) e
refuses_plain text other none (negsuc n) fits e = other (ap (λ (xs : List ℕ). get_or xs 0 0) e)

pub negative_none : (r : Option ℤ) (text digits : List ℕ) → text ≡ 45 ∷ digits → IfNone r ((n : ℕ) → n < 2 ^ 63 → digits ≡ decimal (suc n) → ⊥) → IfNone r ((z : ℤ) → FitsSigned w64 z → text ≡ int_decimal z → ⊥)
negative_none (Some z) text digits same none = tt
negative_none None text digits same none = refuses text digits same none

pub non_negative_none : (r : Option ℤ) (text : List ℕ) → get_or text 0 0 ≢ 45 → IfNone r ((n : ℕ) → n < 2 ^ 63 → text ≡ decimal n → ⊥) → IfNone r ((z : ℤ) → FitsSigned w64 z → text ≡ int_decimal z → ⊥)
non_negative_none (Some z) text other none = tt
non_negative_none None text other none = refuses_plain text other none

pub int_decimal_nonempty : (z : ℤ) → FitsSigned w64 z → 0 < length (int_decimal z)
int_decimal_nonempty (pos n) fits = decimal_nonempty n (omega (arith, mag_fits (pos n) fits))
int_decimal_nonempty (negsuc n) fits = omega arith

-- a text that begins with a byte is that byte and the rest
pub begins_with : (byte : ℕ) (text : List ℕ) → 0 < length text → get_or text 0 0 ≡ byte → text ≡ byte ∷ between 1 (length text) text
begins_with byte text some first = first_rest text 0 some ∙ ap (λ (b : ℕ). b ∷ between 1 (length text) text) first
