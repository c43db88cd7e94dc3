-- What is read as a value is so spelled, and what is so spelled is read.
use Rattle.std.proofs.Common.{◌≡◌, ℕ, ◌+◌, ◌-◌, ◌*◌, ◌/◌, ◌%◌, ◌<◌, ◌≤◌, ◌^◌, Bool, true, false, cond, ltb, leb, List, [], ◌∷◌, ◌++◌, length, Option, Some, None, refl, sym, ap, subst, ◌∙◌, arith, inl, inr}
use Rattle.std.specs.Prelude.{◌&&◌, option_and_then, option_map, nat_lt, codes}
use Rattle.std.specs.List.{flat_map, list_all}
use Rattle.std.specs.Fmt.{digit_glyph}
use Rattle.std.specs.Str.{bytes_eq}
use Rattle.std.proofs.lemmas.Bool.{ltb-true, ltb-false, lt-ltb, le-ltb, leb-true, and_parts, and_from, cases_lt}
use Rattle.mama_edge.specs.Decimal.{decimal, int_decimal}
use Rattle.mama_msg.specs.declared.value.Value.{Value}
use Rattle.mama_msg.specs.declared.value.Value.TheVariants as values
use Rattle.mama_msg.specs.Price.{PriceData}
use Rattle.mama_msg.specs.Value.{IsText, is_printable}
use Rattle.mama_words.specs.declared.value_type.ValueType.{ValueType}
use Rattle.mama_words.specs.declared.value_type.ValueType.TheVariants as types
use Rattle.mama_words.specs.Parting.{cut_at}
use Rattle.mama_words.specs.Number.{number_in, below_in, int_in, is_within}
use Rattle.mama_words.specs.Quote.{quoted_in}
use Rattle.mama_words.specs.NumberList.{numbers_in}
use Rattle.mama_words.specs.Value.{type_of, value_text, value_in, IsValue, bool_in, bool_text, hex_pair, bytes_text, price_text, digit_in, pair_in, onto, hex_in, if_short, bytes_in, block_in, if_text, text_in, price_of, price_in}
use Rattle.mama_edge.specs.Quoted.{quoted}
use Rattle.mama_words.proofs.Choices.{some_is, chosen, chosen_some, chosen_other, map_some, and_then_some, same_text}
use Rattle.mama_words.proofs.Numbers.{number_in_again, number_in_found, below_in_again, below_in_found, int_in_again, int_in_found}
use Rattle.mama_words.proofs.Quotes.{quoted_in_again, quoted_in_found}
use Rattle.mama_words.proofs.Texts.{if_text_at, if_short_at}
use Rattle.mama_words.proofs.Cutting.{cut_at_again, cut_at_split, int_lacks}
use Rattle.mama_words.proofs.NumberLists.{numbers_again, numbers_found}

-- ---- truth values

bool_again : (b : Bool) → bool_in (bool_text b) ≡ Some b
bool_again true = refl
bool_again false = refl

bool_found : (text : List ℕ) (b : Bool) → bool_in text ≡ Some b → text ≡ bool_text b
bool_found text b e =
    elim (chosen (bytes_eq text (codes "true")) (Some true) (cond (bytes_eq text (codes "false")) (Some false) None) (Some b) e) [
      | inl p ↦ subst (λ (x : Bool). text ≡ bool_text x) (some_is true b p.1) (same_text text (codes "true") p.0)
      | inr p ↦
          let q = chosen_some (bytes_eq text (codes "false")) false b p.1 in
          subst (λ (x : Bool). text ≡ bool_text x) q.1 (same_text text (codes "false") q.0)
    ]

-- ---- hexadecimal digits

digit_again : (n : ℕ) → n < 16 → digit_in (digit_glyph false n) ≡ Some n
digit_again n lt =
    elim (cases_lt n 10) [
      | inl small ↦
          let glyph : digit_glyph false n ≡ 48 + n = rw (lt-ltb n 10 small) refl in
          let low : ltb (48 + n) 48 ≡ false = le-ltb (48 + n) 48 (omega arith) in
          let in_range : ltb (48 + n) 58 ≡ true = lt-ltb (48 + n) 58 (omega (arith, small)) in
          let back : (48 + n) - 48 ≡ n = omega arith in
          rw (glyph, low, in_range, back) refl
      | inr large ↦
          let glyph : digit_glyph false n ≡ 87 + n = rw (le-ltb n 10 large) refl in
          let a : ltb (87 + n) 48 ≡ false = le-ltb (87 + n) 48 (omega arith) in
          let b : ltb (87 + n) 58 ≡ false = le-ltb (87 + n) 58 (omega (arith, large)) in
          let c : ltb (87 + n) 97 ≡ false = le-ltb (87 + n) 97 (omega (arith, large)) in
          let d : ltb (87 + n) 103 ≡ true = lt-ltb (87 + n) 103 (omega (arith, lt)) in
          let back : (87 + n) - 87 ≡ n = omega arith in
          rw (glyph, a, b, c, d, back) refl
    ]

digit_found : (c n : ℕ) → digit_in c ≡ Some n → (n < 16) × (c ≡ digit_glyph false n)
digit_found c n e =
    let p = chosen_other (ltb c 48) (cond (ltb c 58) (Some (c - 48)) (cond (ltb c 97) None (cond (ltb c 103) (Some (c - 87)) None))) n e in
    let low : 48 ≤ c = ltb-false c 48 p.0 in
    elim (chosen (ltb c 58) (Some (c - 48)) (cond (ltb c 97) None (cond (ltb c 103) (Some (c - 87)) None)) (Some n) p.1) [
      | inl q ↦
          let high : c < 58 = ltb-true c 58 q.0 in
          let same : c - 48 ≡ n = some_is (c - 48) n q.1 in
          let small : n < 10 = omega arith in
          (omega arith, rw (lt-ltb n 10 small) (omega arith))
      | inr q ↦
          let r = chosen_other (ltb c 97) (cond (ltb c 103) (Some (c - 87)) None) n q.1 in
          let s = chosen_some (ltb c 103) (c - 87) n r.1 in
          let above : 97 ≤ c = ltb-false c 97 r.0 in
          let high : c < 103 = ltb-true c 103 s.0 in
          let same : c - 87 ≡ n = s.1 in
          let large : 10 ≤ n = omega arith in
          (omega arith, rw (le-ltb n 10 large) (omega arith))
    ]

pair_again : (b : ℕ) → b < 256 → pair_in (digit_glyph false (b / 16)) (digit_glyph false (b % 16)) ≡ Some b
pair_again b lt =
    let h : b / 16 < 16 = omega arith in
    let l : b % 16 < 16 = omega arith in
    let whole : 16 * (b / 16) + b % 16 ≡ b = omega arith in
    rw (digit_again (b / 16) h, digit_again (b % 16) l, whole) refl

pair_found : (high low b : ℕ) → pair_in high low ≡ Some b → (b < 256) × (hex_pair b ≡ high ∷ low ∷ [])
pair_found high low b e =
    let p = and_then_some (λ h. option_map (λ l. 16 * h + l) (digit_in low)) (digit_in high) b e in
    let q = map_some (λ l. 16 * p.0 + l) (digit_in low) b p.2 in
    let h = digit_found high p.0 p.1 in
    let l = digit_found low q.0 q.1 in
    let value : 16 * p.0 + q.0 ≡ b = q.2 in
    let small : b < 256 = omega (arith, h.0, l.0) in
    let first : b / 16 ≡ p.0 = omega (arith, l.0) in
    let second : b % 16 ≡ q.0 = omega (arith, l.0) in
    (small, rw (first, second, ← h.1, ← l.1) refl)

abbrev are_bytes : List ℕ → Bool
are_bytes bs = list_all (λ b. nat_lt b (2 ^ 8)) bs

hex_again : (bs : List ℕ) → are_bytes bs ≡ true → hex_in (flat_map hex_pair bs) ≡ Some bs
hex_again [] h = refl
hex_again (b ∷ bs) h =
    let p = and_parts (ltb b (2 ^ 8)) (are_bytes bs) h in
    rw (pair_again b (ltb-true b (2 ^ 8) p.0), hex_again bs p.1) refl

onto_is : (front : List ℕ) (o : Option (List ℕ)) (bs : List ℕ) → onto front o ≡ Some bs → (xs : List ℕ) × (o ≡ Some xs) × (front ++ xs ≡ bs)
onto_is front None bs e = absurd cc
onto_is front (Some xs) bs e = (xs, refl, some_is (front ++ xs) bs e)

hex_found : (text bs : List ℕ) → hex_in text ≡ Some bs → (are_bytes bs ≡ true) × (text ≡ flat_map hex_pair bs)
hex_found [] bs e = subst (λ (x : List ℕ). (are_bytes x ≡ true) × ([] ≡ flat_map hex_pair x)) (some_is [] bs e) (refl, refl)
hex_found (high ∷ []) bs e = absurd cc
hex_found (high ∷ low ∷ rest) bs e =
    let p = and_then_some (λ b. onto (b ∷ []) (hex_in rest)) (pair_in high low) bs e in
    let q = onto_is (p.0 ∷ []) (hex_in rest) bs p.2 in
    let pair = pair_found high low p.0 p.1 in
    let more = hex_found rest q.0 q.1 in
    subst (λ (x : List ℕ). (are_bytes x ≡ true) × (high ∷ low ∷ rest ≡ flat_map hex_pair x)) q.2
    (and_from (ltb p.0 (2 ^ 8)) (are_bytes q.0) (lt-ltb p.0 (2 ^ 8) pair.0) more.0, ap (λ (t : List ℕ). high ∷ low ∷ t) more.1 ∙ ap (λ (t : List ℕ). t ++ flat_map hex_pair q.0) (sym pair.1))

if_short_is : (o : Option (List ℕ)) (bs : List ℕ) → if_short o ≡ Some bs → (length bs ≤ 255) × (o ≡ Some bs)
if_short_is None bs e = absurd cc
if_short_is (Some xs) bs e =
    let p = chosen_some (leb (length xs) 255) xs bs e in
    subst (λ (x : List ℕ). (length x ≤ 255) × (Some xs ≡ Some x)) p.1 (leb-true (length xs) 255 p.0, refl)

bytes_again : (bs : List ℕ) → length bs ≤ 255 → are_bytes bs ≡ true → bytes_in (bytes_text bs) ≡ Some bs
unfolding bytes_in
bytes_again bs short fits = ap if_short (hex_again bs fits) ∙ if_short_at bs short

bytes_found : (text bs : List ℕ) → bytes_in text ≡ Some bs → (length bs ≤ 255) × (are_bytes bs ≡ true) × (text ≡ bytes_text bs)
unfolding bytes_in
bytes_found [] bs e = absurd cc
bytes_found (b ∷ rest) bs e =
    let p = chosen_other (ltb b 120) (cond (ltb 120 b) None (if_short (hex_in rest))) bs e in
    let q = chosen_other (ltb 120 b) (if_short (hex_in rest)) bs p.1 in
    let head : b ≡ 120 = omega (arith, ltb-false b 120 p.0, ltb-false 120 b q.0) in
    let r = if_short_is (hex_in rest) bs q.1 in
    let h = hex_found rest bs r.1 in
    (r.0, h.0, ap (λ (x : ℕ). x ∷ rest) head ∙ ap (λ (t : List ℕ). 120 ∷ t) h.1)

pub block_again : (bs : List ℕ) → are_bytes bs ≡ true → block_in (bytes_text bs) ≡ Some bs
unfolding block_in
block_again bs fits = hex_again bs fits

pub block_found : (text bs : List ℕ) → block_in text ≡ Some bs → (are_bytes bs ≡ true) × (text ≡ bytes_text bs)
unfolding block_in
block_found [] bs e = absurd cc
block_found (b ∷ rest) bs e =
    let p = chosen_other (ltb b 120) (cond (ltb 120 b) None (hex_in rest)) bs e in
    let q = chosen_other (ltb 120 b) (hex_in rest) bs p.1 in
    let head : b ≡ 120 = omega (arith, ltb-false b 120 p.0, ltb-false 120 b q.0) in
    let h = hex_found rest bs q.1 in
    (h.0, ap (λ (x : ℕ). x ∷ rest) head ∙ ap (λ (t : List ℕ). 120 ∷ t) h.1)

-- ---- texts

if_text_is : (o : Option (List ℕ)) (t : List ℕ) → if_text o ≡ Some t → IsText t × (o ≡ Some t)
if_text_is None t e = absurd cc
if_text_is (Some x) t e =
    let p = chosen_some (leb (length x) 255 && list_all is_printable x) x t e in
    let q = and_parts (leb (length x) 255) (list_all is_printable x) p.0 in
    subst (λ (y : List ℕ). IsText y × (Some x ≡ Some y)) p.1 (record { short = leb-true (length x) 255 q.0; printable = q.1 }, refl)

pub text_again : (t : List ℕ) → IsText t → text_in (quoted t) ≡ Some t
text_again t is = ap if_text (quoted_in_again t is.printable) ∙ if_text_at t is

pub text_found : (word t : List ℕ) → text_in word ≡ Some t → IsText t × (word ≡ quoted t)
text_found word t e =
    let p = if_text_is (quoted_in word) t e in
    (p.0, (quoted_in_found word t p.1).1)

-- ---- prices

price_again : (p : PriceData) → is_within (2 ^ 63) p.mantissa ≡ true → p.decimals ≤ 18 → price_in (price_text p) ≡ Some p
price_again p mantissa decimals =
    ap (option_and_then price_of) (cut_at_again 47 (int_decimal p.mantissa) (decimal p.decimals) (int_lacks 47 p.mantissa refl refl mantissa))
    ∙ rw (int_in_again (2 ^ 63) p.mantissa (omega arith) mantissa, below_in_again 19 p.decimals (omega (arith, decimals)) (omega (arith, decimals))) refl

price_found : (text : List ℕ) (p : PriceData) → price_in text ≡ Some p → (is_within (2 ^ 63) p.mantissa ≡ true) × (p.decimals ≤ 18) × (text ≡ price_text p)
price_found text p e =
    let a = and_then_some price_of (cut_at 47 text) p e in
    let b = and_then_some (λ m. option_map (λ d. record { mantissa = m; decimals = d }) (below_in 19 a.0.1)) (int_in (2 ^ 63) a.0.0) p a.2 in
    let c = map_some (λ d. record { mantissa = b.0; decimals = d }) (below_in 19 a.0.1) p b.2 in
    let m = int_in_found (2 ^ 63) a.0.0 b.0 b.1 in
    let d = below_in_found 19 a.0.1 c.0 c.1 in
    let split = cut_at_split 47 text a.0 a.1 in
    subst (λ (x : PriceData). (is_within (2 ^ 63) x.mantissa ≡ true) × (x.decimals ≤ 18) × (text ≡ price_text x)) c.2
    (m.0, omega (arith, d.0), split ∙ ap (λ (t : List ℕ). t ++ 47 ∷ a.0.1) m.1 ∙ ap (λ (t : List ℕ). int_decimal b.0 ++ 47 ∷ t) d.1)

-- ---- values

pub value_again : (v : Value) → IsValue v → value_in (type_of v) (value_text v) ≡ Some v
unfolding value_in
value_again (values.Bool b) h = ap (option_map (λ b. values.Bool b)) (bool_again b)
value_again (values.Char n) h = ap (option_map (λ n. values.Char n)) (below_in_again (2 ^ 8) n h (omega (arith, h)))
value_again (values.I8 z) h = ap (option_map (λ z. values.I8 z)) (int_in_again (2 ^ 7) z (omega arith) h)
value_again (values.I16 z) h = ap (option_map (λ z. values.I16 z)) (int_in_again (2 ^ 15) z (omega arith) h)
value_again (values.I32 z) h = ap (option_map (λ z. values.I32 z)) (int_in_again (2 ^ 31) z (omega arith) h)
value_again (values.I64 z) h = ap (option_map (λ z. values.I64 z)) (int_in_again (2 ^ 63) z (omega arith) h)
value_again (values.U8 n) h = ap (option_map (λ n. values.U8 n)) (below_in_again (2 ^ 8) n h (omega (arith, h)))
value_again (values.U16 n) h = ap (option_map (λ n. values.U16 n)) (below_in_again (2 ^ 16) n h (omega (arith, h)))
value_again (values.U32 n) h = ap (option_map (λ n. values.U32 n)) (below_in_again (2 ^ 32) n h (omega (arith, h)))
value_again (values.U64 n) h = ap (option_map (λ n. values.U64 n)) (number_in_again n h)
value_again (values.Text t) h = ap (option_map (λ t. values.Text t)) (text_again t h)
value_again (values.Bytes bs) h = ap (option_map (λ bs. values.Bytes bs)) (bytes_again bs h.0 h.1)
value_again (values.Price p) h = ap (option_map (λ p. values.Price p)) (price_again p h.0 h.1)
value_again (values.Moment n) h = ap (option_map (λ n. values.Moment n)) (number_in_again n h)
value_again (values.Numbers zs) h = ap (option_map (λ zs. values.Numbers zs)) (numbers_again zs h)

-- a value that a text spells, and its type
pub record Spells (t : ValueType) (text : List ℕ) (v : Value) : Type 0 where
  pub type_is : type_of v ≡ t
  pub text_is : text ≡ value_text v
  pub fits : IsValue v

spelled : {A : Type 0} (t : ValueType) (text : List ℕ) (make : A → Value) (read : Option A) (v : Value) → ((x : A) → read ≡ Some x → Spells t text (make x)) → option_map make read ≡ Some v → Spells t text v
spelled t text make read v each e =
    let p = map_some make read v e in
    subst (λ (x : Value). Spells t text x) p.2 (each p.0 p.1)

pub value_found : (t : ValueType) (text : List ℕ) (v : Value) → value_in t text ≡ Some v → Spells t text v
unfolding value_in
value_found types.Bool text v e = spelled types.Bool text (λ b. values.Bool b) (bool_in text) v (λ b h. record { type_is = refl; text_is = bool_found text b h; fits = tt }) e
value_found types.Char text v e = spelled types.Char text (λ n. values.Char n) (below_in (2 ^ 8) text) v (λ n h. let p = below_in_found (2 ^ 8) text n h in record { type_is = refl; text_is = p.1; fits = p.0 }) e
value_found types.I8 text v e = spelled types.I8 text (λ z. values.I8 z) (int_in (2 ^ 7) text) v (λ z h. let p = int_in_found (2 ^ 7) text z h in record { type_is = refl; text_is = p.1; fits = p.0 }) e
value_found types.I16 text v e = spelled types.I16 text (λ z. values.I16 z) (int_in (2 ^ 15) text) v (λ z h. let p = int_in_found (2 ^ 15) text z h in record { type_is = refl; text_is = p.1; fits = p.0 }) e
value_found types.I32 text v e = spelled types.I32 text (λ z. values.I32 z) (int_in (2 ^ 31) text) v (λ z h. let p = int_in_found (2 ^ 31) text z h in record { type_is = refl; text_is = p.1; fits = p.0 }) e
value_found types.I64 text v e = spelled types.I64 text (λ z. values.I64 z) (int_in (2 ^ 63) text) v (λ z h. let p = int_in_found (2 ^ 63) text z h in record { type_is = refl; text_is = p.1; fits = p.0 }) e
value_found types.U8 text v e = spelled types.U8 text (λ n. values.U8 n) (below_in (2 ^ 8) text) v (λ n h. let p = below_in_found (2 ^ 8) text n h in record { type_is = refl; text_is = p.1; fits = p.0 }) e
value_found types.U16 text v e = spelled types.U16 text (λ n. values.U16 n) (below_in (2 ^ 16) text) v (λ n h. let p = below_in_found (2 ^ 16) text n h in record { type_is = refl; text_is = p.1; fits = p.0 }) e
value_found types.U32 text v e = spelled types.U32 text (λ n. values.U32 n) (below_in (2 ^ 32) text) v (λ n h. let p = below_in_found (2 ^ 32) text n h in record { type_is = refl; text_is = p.1; fits = p.0 }) e
value_found types.U64 text v e = spelled types.U64 text (λ n. values.U64 n) (number_in text) v (λ n h. let p = number_in_found text n h in record { type_is = refl; text_is = p.1; fits = p.0 }) e
value_found types.Text text v e = spelled types.Text text (λ t. values.Text t) (text_in text) v (λ t h. let p = text_found text t h in record { type_is = refl; text_is = p.1; fits = p.0 }) e
value_found types.Bytes text v e = spelled types.Bytes text (λ bs. values.Bytes bs) (bytes_in text) v (λ bs h. let p = bytes_found text bs h in record { type_is = refl; text_is = p.2; fits = (p.0, p.1) }) e
value_found types.Price text v e = spelled types.Price text (λ p. values.Price p) (price_in text) v (λ x h. let p = price_found text x h in record { type_is = refl; text_is = p.2; fits = (p.0, p.1) }) e
value_found types.Moment text v e = spelled types.Moment text (λ n. values.Moment n) (number_in text) v (λ n h. let p = number_in_found text n h in record { type_is = refl; text_is = p.1; fits = p.0 }) e
value_found types.Numbers text v e = spelled types.Numbers text (λ zs. values.Numbers zs) (numbers_in text) v (λ zs h. let p = numbers_found text zs h in record { type_is = refl; text_is = p.1; fits = p.0 }) e
