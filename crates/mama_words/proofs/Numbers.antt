-- What is read as a number is the one spelling of it, and the spelling of a number is read.
use Rattle.std.proofs.Common.{inl, inr, ◌≡◌, ℕ, ℤ, pos, negsuc, zero, suc, ◌^◌, ◌<◌, ◌≤◌, Bool, true, eqb, ltb, List, [], ◌∷◌, get_or, drop, Option, Some, None, refl, sym, ap, subst, ◌∙◌, arith, FitsSigned}
use Rattle.std.specs.Prelude.{◌&&◌, IfSome, IfNone, Result, Ok, Err}
use Rattle.std.specs.Result.{OkIff, result_ok}
use Rattle.std.specs.Int.{Width, w64}
use mir.Val.{hbits, to_z, of_z}
use Rattle.std.proofs.lemmas.Int.{to_z-of_z}
use Rattle.std.specs.Str.{bytes_eq}
use Rattle.std.specs.Str.Parse.{digits_value}
use Rattle.std.proofs.lemmas.Bool.{ltb-true, lt-ltb, and_parts, ne_eqb, eqb-true}
use Rattle.std.proofs.lemmas.Fmt.{decimal_is_IsNumeral}
use Rattle.std.proofs.lemmas.Str.Parse.{digit_at}
use Rattle.mama_edge.specs.Decimal.{decimal, int_decimal}
use Rattle.mama_words.specs.Number.{number_in, if_below, below_in, is_within, int_in, any_int_in, plain_int, opposite_int, if_within}
use Rattle.mama_words.proofs.Choices.{some_is, chosen, chosen_some, same_text, text_same}

pub number_in_again : (n : ℕ) → n < 2 ^ 64 → number_in (decimal n) ≡ Some n
unfolding number_in
number_in_again n lt =
    let value : digits_value 10 (decimal n) ≡ n = (decimal_is_IsNumeral n lt).1 in
    rw (value, lt-ltb n (2 ^ 64) lt, text_same (decimal n) (decimal n) refl) refl

pub number_in_found : (text : List ℕ) (n : ℕ) → number_in text ≡ Some n → (n < 2 ^ 64) × (text ≡ decimal n)
unfolding number_in
number_in_found text n e =
    let p = chosen_some (ltb (digits_value 10 text) (2 ^ 64) && bytes_eq text (decimal (digits_value 10 text))) (digits_value 10 text) n e in
    let q = and_parts (ltb (digits_value 10 text) (2 ^ 64)) (bytes_eq text (decimal (digits_value 10 text))) p.0 in
    subst (λ (k : ℕ). (k < 2 ^ 64) × (text ≡ decimal k)) p.1 (ltb-true (digits_value 10 text) (2 ^ 64) q.0, same_text text (decimal (digits_value 10 text)) q.1)

none_from : (o : Option ℕ) → ((n : ℕ) → o ≡ Some n → ⊥) → o ≡ None
none_from None h = refl
none_from (Some n) h = absurd (h n refl)

pub number_in_none : (text : List ℕ) → ((n : ℕ) → n < 2 ^ 64 → text ≡ decimal n → ⊥) → number_in text ≡ None
number_in_none text h = none_from (number_in text) (λ n e. let p = number_in_found text n e in h n p.0 p.1)

-- what a reader of a number answered
pub number_in_is : (text : List ℕ) (o : Option ℕ) → IfSome o (λ n. text ≡ decimal n) → IfSome o (λ n. n < 2 ^ 64) → IfNone o ((n : ℕ) → n < 2 ^ 64 → text ≡ decimal n → ⊥) → o ≡ number_in text
number_in_is text None found fits none = sym (number_in_none text none)
number_in_is text (Some n) found fits none = sym (ap number_in found ∙ number_in_again n fits)

pub below_in_again : (limit n : ℕ) → n < limit → n < 2 ^ 64 → below_in limit (decimal n) ≡ Some n
below_in_again limit n lt fits = rw (number_in_again n fits, lt-ltb n limit lt) refl

if_below_some : (limit : ℕ) (o : Option ℕ) (n : ℕ) → if_below limit o ≡ Some n → (n < limit) × (o ≡ Some n)
if_below_some limit None n e = absurd cc
if_below_some limit (Some k) n e =
    let p = chosen_some (ltb k limit) k n e in
    subst (λ (m : ℕ). (m < limit) × (Some k ≡ Some m)) p.1 (ltb-true k limit p.0, refl)

pub below_in_found : (limit : ℕ) (text : List ℕ) (n : ℕ) → below_in limit text ≡ Some n → (n < limit) × (text ≡ decimal n)
below_in_found limit text n e =
    let p = if_below_some limit (number_in text) n e in
    (p.0, (number_in_found text n p.1).1)

pub below_in_fits : (limit : ℕ) (text : List ℕ) (n : ℕ) → below_in limit text ≡ Some n → (n < limit) × (n < 2 ^ 64)
below_in_fits limit text n e =
    let p = if_below_some limit (number_in text) n e in
    (p.0, (number_in_found text n p.1).0)

-- ---- signed numbers

pub first_byte : (n : ℕ) → n < 2 ^ 64 → get_or (decimal n) 0 0 ≡ 45 → ⊥
first_byte n lt e =
    let numeral = (decimal_is_IsNumeral n lt).0 in
    let range = digit_at (decimal n) 0 numeral.1 numeral.0 in
    omega (arith, range.0)

within_lt : (half : ℕ) (z : ℤ) → half ≤ 2 ^ 63 → is_within half z ≡ true → is_within (2 ^ 63) z ≡ true
within_lt half (pos n) le e = let lt = ltb-true n half e in lt-ltb n (2 ^ 63) (omega (arith, lt))
within_lt half (negsuc n) le e = let lt = ltb-true n half e in lt-ltb n (2 ^ 63) (omega (arith, lt))

any_int_again : (z : ℤ) → is_within (2 ^ 63) z ≡ true → any_int_in (int_decimal z) ≡ Some z
any_int_again (pos n) e =
    let lt = ltb-true n (2 ^ 63) e in
    let fits : n < 2 ^ 64 = omega (arith, lt) in
    rw (ne_eqb (get_or (decimal n) 0 0) 45 (first_byte n fits), number_in_again n fits) refl
any_int_again (negsuc n) e =
    let lt = ltb-true n (2 ^ 63) e in
    let fits : suc n < 2 ^ 64 = omega (arith, lt) in
    rw (number_in_again (suc n) fits) refl

pub int_in_again : (half : ℕ) (z : ℤ) → half ≤ 2 ^ 63 → is_within half z ≡ true → int_in half (int_decimal z) ≡ Some z
unfolding int_in
int_in_again half z le e = rw (any_int_again z (within_lt half z le e), e) refl

plain_found : (o : Option ℕ) (z : ℤ) → plain_int o ≡ Some z → (n : ℕ) × (o ≡ Some n) × (pos n ≡ z)
plain_found None z e = absurd cc
plain_found (Some n) z e = (n, refl, some_is (pos n) z e)

opposite_found : (o : Option ℕ) (z : ℤ) → opposite_int o ≡ Some z → (n : ℕ) × (o ≡ Some (suc n)) × (negsuc n ≡ z)
opposite_found None z e = absurd cc
opposite_found (Some zero) z e = absurd cc
opposite_found (Some (suc n)) z e = (n, refl, some_is (negsuc n) z e)

head_is : (c : ℕ) (text : List ℕ) → (c ≡ 0 → ⊥) → get_or text 0 0 ≡ c → text ≡ c ∷ drop 1 text
head_is c [] ne e = absurd (ne (sym e))
head_is c (b ∷ bs) ne e = ap (λ (x : ℕ). x ∷ bs) e

any_int_found : (text : List ℕ) (z : ℤ) → any_int_in text ≡ Some z → text ≡ int_decimal z
any_int_found text z e =
    elim (chosen (eqb (get_or text 0 0) 45) (opposite_int (number_in (drop 1 text))) (plain_int (number_in text)) (Some z) e) [
      | inl p ↦
          let o = opposite_found (number_in (drop 1 text)) z p.1 in
          let n = number_in_found (drop 1 text) (suc o.0) o.1 in
          let front : text ≡ 45 ∷ drop 1 text = head_is 45 text (λ h. omega (arith, h)) (eqb-true (get_or text 0 0) 45 p.0) in
          subst (λ (y : ℤ). text ≡ int_decimal y) o.2 (front ∙ ap (λ (ds : List ℕ). 45 ∷ ds) n.1)
      | inr p ↦
          let o = plain_found (number_in text) z p.1 in
          let n = number_in_found text o.0 o.1 in
          subst (λ (y : ℤ). text ≡ int_decimal y) o.2 n.1
    ]

if_within_some : (half : ℕ) (o : Option ℤ) (z : ℤ) → if_within half o ≡ Some z → (is_within half z ≡ true) × (o ≡ Some z)
if_within_some half None z e = absurd cc
if_within_some half (Some y) z e =
    let p = chosen_some (is_within half y) y z e in
    subst (λ (x : ℤ). (is_within half x ≡ true) × (Some y ≡ Some x)) p.1 (p.0, refl)

pub int_in_found : (half : ℕ) (text : List ℕ) (z : ℤ) → int_in half text ≡ Some z → (is_within half z ≡ true) × (text ≡ int_decimal z)
unfolding int_in
int_in_found half text z e =
    let p = if_within_some half (any_int_in text) z e in
    (p.0, any_int_found text z p.1)

none_int : (o : Option ℤ) → ((z : ℤ) → o ≡ Some z → ⊥) → o ≡ None
none_int None h = refl
none_int (Some z) h = absurd (h z refl)

pub within_fits : (w : Width) (half : ℕ) (z : ℤ) → half ≡ 2 ^ hbits w → FitsSigned w z → is_within half z ≡ true
within_fits w half (pos n) e fits = lt-ltb n half (rw e fits.sfits)
within_fits w half (negsuc n) e fits = lt-ltb n half (rw e fits.sfits)

pub fits_within : (w : Width) (half : ℕ) (z : ℤ) → half ≡ 2 ^ hbits w → is_within half z ≡ true → FitsSigned w z
fits_within w half (pos n) e h = record { sfits = rw (← e) (ltb-true n half h) }
fits_within w half (negsuc n) e h = record { sfits = rw (← e) (ltb-true n half h) }

pub int_in_is : (text : List ℕ) (o : Option ℤ) → IfSome o (λ z. text ≡ int_decimal z) → IfSome o (λ z. FitsSigned w64 z) → IfNone o ((z : ℤ) → FitsSigned w64 z → text ≡ int_decimal z → ⊥) → o ≡ int_in (2 ^ 63) text
int_in_is text None found fits none = sym (none_int (int_in (2 ^ 63) text) (λ z e. let p = int_in_found (2 ^ 63) text z e in none z (fits_within w64 (2 ^ 63) z refl p.0) p.1))
int_in_is text (Some z) found fits none = sym (ap (int_in (2 ^ 63)) found ∙ int_in_again (2 ^ 63) z (omega arith) (within_fits w64 (2 ^ 63) z refl fits))

-- ---- the same in fewer bits

any_int_of : (half : ℕ) (text : List ℕ) (z : ℤ) → int_in half text ≡ Some z → (is_within half z ≡ true) × (any_int_in text ≡ Some z)
unfolding int_in
any_int_of half text z e = if_within_some half (any_int_in text) z e

int_of_any : (half : ℕ) (text : List ℕ) (z : ℤ) → any_int_in text ≡ Some z → is_within half z ≡ true → int_in half text ≡ Some z
unfolding int_in
int_of_any half text z e h = rw (e, h) refl

pub int_in_narrow_none : (half : ℕ) (text : List ℕ) → half ≤ 2 ^ 63 → None ≡ int_in (2 ^ 63) text → None ≡ int_in half text
int_in_narrow_none half text le e = sym (none_int (int_in half text) (λ z h.
    let p = any_int_of half text z h in
    let q : None ≡ Some z = e ∙ int_of_any (2 ^ 63) text z p.1 (within_lt half z le p.0) in
    absurd cc))

pub int_in_narrow : {E : Type 0} (w : Width) (half : ℕ) (text : List ℕ) (z : ℤ) (r : Result ℤ E) → half ≡ 2 ^ hbits w → Some z ≡ int_in (2 ^ 63) text → OkIff r (FitsSigned w z) z → result_ok r ≡ int_in half text
int_in_narrow w half text z (Ok y) e is fits =
    let p = any_int_of (2 ^ 63) text z (sym is) in
    ap (λ (x : ℤ). Some x) fits.1 ∙ sym (int_of_any half text z p.1 (within_fits w half z e fits.0))
int_in_narrow w half text z (Err d) e is fits =
    sym (none_int (int_in half text) (λ y h.
    let p = any_int_of half text y h in
    let q = any_int_of (2 ^ 63) text z (sym is) in
    let same : z ≡ y = some_is z y (sym q.1 ∙ p.1) in
    fits (fits_within w half z e (rw same p.0))))

-- such a number is kept in 64 bits
pub int_in_kept : (text : List ℕ) (z : ℤ) → Some z ≡ int_in (2 ^ 63) text → to_z w64 (of_z w64 z) ≡ z
int_in_kept text z is =
    let p = int_in_found (2 ^ 63) text z (sym is) in
    to_z-of_z w64 z (fits_within w64 (2 ^ 63) z refl p.0)

pub int_in_cast : {E : Type 0} (w : Width) (half : ℕ) (text : List ℕ) (z : ℤ) (r : Result ℤ E) → half ≡ 2 ^ hbits w → Some z ≡ int_in (2 ^ 63) text → OkIff r (FitsSigned w (to_z w64 (of_z w64 z))) (to_z w64 (of_z w64 z)) → result_ok r ≡ int_in half text
int_in_cast w half text z r e is fits =
    int_in_narrow w half text z r e is (subst (λ (x : ℤ). OkIff r (FitsSigned w x) x) (int_in_kept text z is) fits)
