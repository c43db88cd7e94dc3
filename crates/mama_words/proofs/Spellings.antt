-- Each spelling is a word.
use Rattle.std.proofs.Common.{◌≡◌, ℕ, ℤ, pos, negsuc, suc, ◌+◌, ◌/◌, ◌%◌, ◌<◌, ◌≤◌, ◌^◌, Bool, true, false, eqb, ltb, leb, List, [], ◌∷◌, ◌++◌, length, map, refl, sym, ap, ◌∙◌, arith, inl, inr}
use Rattle.std.specs.Prelude.{◌&&◌, ◌||◌, ◌==◌, not, nat_lt, codes}
use Rattle.std.specs.List.{list_all, flat_map, AllByRecursion}
use Rattle.std.specs.Fmt.{digit_glyph}
use Rattle.std.proofs.lemmas.Bool.{and_parts, and_from, le-leb, leb-true, ltb-true, lt-ltb, le-ltb, ne_eqb, not_from_false, cases_lt, or_cases, eqb-true}
use Rattle.std.specs.Char.{is_ascii_alphanumeric}
use Rattle.std.specs.Int.{is_in_range}
use Rattle.std.proofs.lemmas.List.{append-nil}
use Rattle.std.proofs.lemmas.Fmt.{decimal_nonempty}
use Rattle.std.proofs.lemmas.List.Folds.{list_all-append}
use Rattle.mama_edge.specs.Decimal.{decimal, int_decimal}
use Rattle.mama_edge.specs.Quoted.{quoted, escaped, is_printable, IsPrintable}
use Rattle.mama_event.specs.declared.market.SubKind.{SubKind}
use Rattle.mama_event.specs.declared.market.SubKind.TheVariants.{Market, Snapshot, Basic}
use Rattle.mama_event.specs.declared.market.MsgKind.{MsgKind}
use Rattle.mama_event.specs.declared.market.MsgKind.TheVariants.{Initial, Update, Recap}
use Rattle.mama_event.specs.declared.market.Quality.{Quality}
use Rattle.mama_event.specs.declared.market.Quality.TheVariants.{Ok as Good, Stale}
use Rattle.mama_event.specs.declared.group.GroupState.{GroupState}
use Rattle.mama_event.specs.declared.group.GroupState.TheVariants as state
use Rattle.mama_event.specs.declared.shape.Strategy.{Strategy}
use Rattle.mama_event.specs.declared.shape.Strategy.TheVariants.{One, Two}
use Rattle.mama_msg.specs.Name.{is_name_byte}
use Rattle.mama_msg.specs.Field.{FieldData}
use Rattle.mama_msg.specs.declared.value.Value.{Value}
use Rattle.mama_msg.specs.declared.value.Value.TheVariants as values
use Rattle.mama_words.specs.declared.id.IdWord.{IdWord}
use Rattle.mama_words.specs.declared.nums.Nums.{Nums}
use Rattle.mama_words.specs.declared.value_type.ValueType.{ValueType}
use Rattle.mama_words.specs.declared.value_type.ValueType.TheVariants as types
use Rattle.mama_words.specs.declared.order.OrderWord.{OrderWord}
use Rattle.mama_words.specs.declared.order.OrderWord.TheVariants.{Stop, Disarm, Close, Ask}
use Rattle.mama_words.specs.declared.parting.Place.{Place}
use Rattle.mama_words.specs.declared.parting.Place.TheVariants.{Inside}
use Rattle.mama_words.specs.Parting.{is_plain, place_after, is_empty_word}
use Rattle.mama_words.specs.Sentence.{spaced, sentence}
use Rattle.mama_words.specs.WordForm.{has_gap, IsPiece, IsWord, AreWords}
use Rattle.mama_words.specs.Number.{is_within}
use Rattle.mama_words.specs.Kind.{sub_kind_text, msg_kind_text, quality_text, strategy_text, group_state_text}
use Rattle.mama_words.specs.Id.{numbers_text, id_text}
use Rattle.mama_words.specs.NumberList.{after_comma, with_commas}
use Rattle.mama_words.specs.Value.{type_text, type_of, hex_pair, bool_text, bytes_text, value_text, IsValue}
use Rattle.mama_words.specs.Field.{field_text, IsField, spaced_field, fields_text}
use Rattle.mama_words.specs.Order.{order_words, IsId, are_small, IsOrder, spaced_number, order_text}
use Rattle.mama_words.proofs.Cutting.{is_digit, decimal_digits}
use Rattle.mama_words.proofs.Sentences.{place_after-append, has_gap-append, piece_empty, piece_append, piece_cons, piece_simple, is_simple}

-- bytes of a kind that is simple
all_simple : (p : ℕ → Bool) (bs : List ℕ) → ((b : ℕ) → p b ≡ true → is_simple b ≡ true) → list_all p bs ≡ true → list_all is_simple bs ≡ true
all_simple p [] each h = refl
all_simple p (b ∷ bs) each h = let q = and_parts (p b) (list_all p bs) h in and_from (is_simple b) (list_all is_simple bs) (each b q.0) (all_simple p bs each q.1)

simple_from : (b : ℕ) → 35 ≤ b → b ≤ 126 → is_simple b ≡ true
simple_from b low high =
    and_from (is_plain b) (not (b == 32) && not (b == 34)) (and_from (leb 32 b) (leb b 126) (le-leb 32 b (omega (arith, low))) (le-leb b 126 high))
    (and_from (not (b == 32)) (not (b == 34)) (not_from_false (b == 32) (ne_eqb b 32 (λ e. omega (arith, e)))) (not_from_false (b == 34) (ne_eqb b 34 (λ e. omega (arith, e)))))

digit_simple : (b : ℕ) → is_digit b ≡ true → is_simple b ≡ true
digit_simple b h = let p = and_parts (leb 48 b) (leb b 57) h in let low = leb-true 48 b p.0 in let high = leb-true b 57 p.1 in simple_from b (omega (arith, low)) (omega (arith, high))

decimal_piece : (n : ℕ) → n < 2 ^ 64 → IsPiece (decimal n)
decimal_piece n lt = piece_simple (decimal n) (all_simple is_digit (decimal n) digit_simple (decimal_digits n lt))

nonempty : (w : List ℕ) → 0 < length w → is_empty_word w ≡ false
nonempty w lt = ne_eqb (length w) 0 (λ e. omega (arith, e, lt))

pub decimal_word : (n : ℕ) → n < 2 ^ 64 → IsWord (decimal n)
decimal_word n lt = record { piece = decimal_piece n lt; some = nonempty (decimal n) (decimal_nonempty n lt) }

word_cons : (b : ℕ) (bs : List ℕ) → is_simple b ≡ true → IsPiece bs → IsWord (b ∷ bs)
word_cons b bs h p = record { piece = piece_cons b bs h p; some = nonempty (b ∷ bs) (omega arith) }

pub id_word : (letter : ℕ) (id : IdWord) → is_simple letter ≡ true → IsId id → IsWord (id_text letter id)
id_word letter id simple fits = word_cons letter (numbers_text id) simple (piece_append (decimal id.client) (46 ∷ decimal id.number) (decimal_piece id.client fits.client) (piece_cons 46 (decimal id.number) refl (decimal_piece id.number fits.number)))

-- a word of simple bytes
fixed_word : (b : ℕ) (bs : List ℕ) → list_all is_simple (b ∷ bs) ≡ true → IsWord (b ∷ bs)
fixed_word b bs h = record { piece = piece_simple (b ∷ bs) h; some = nonempty (b ∷ bs) (omega arith) }

pub sub_kind_word : (k : SubKind) → IsWord (sub_kind_text k)
sub_kind_word Market = fixed_word _ _ refl
sub_kind_word Snapshot = fixed_word _ _ refl
sub_kind_word Basic = fixed_word _ _ refl

pub msg_kind_word : (k : MsgKind) → IsWord (msg_kind_text k)
msg_kind_word Initial = fixed_word _ _ refl
msg_kind_word Update = fixed_word _ _ refl
msg_kind_word Recap = fixed_word _ _ refl

pub quality_word : (q : Quality) → IsWord (quality_text q)
quality_word Good = fixed_word _ _ refl
quality_word Stale = fixed_word _ _ refl

pub strategy_word : (s : Strategy) → IsWord (strategy_text s)
strategy_word One = fixed_word _ _ refl
strategy_word Two = fixed_word _ _ refl

pub group_state_word : (s : GroupState) → IsWord (group_state_text s)
group_state_word state.Waiting = fixed_word _ _ refl
group_state_word state.Fresh = fixed_word _ _ refl
group_state_word state.Stale = fixed_word _ _ refl
group_state_word state.Ended = fixed_word _ _ refl

-- ---- quoted texts

inside_step : (b : ℕ) (quote backslash : Bool) → (b == 34) ≡ quote → (b == 92) ≡ backslash → place_after Inside (escaped b) ≡ Inside
inside_step b true backslash p q = rw p refl
inside_step b false true p q = rw (p, q) refl
inside_step b false false p q = rw (p, q) (rw (p, q) refl)

inside_text : (t : List ℕ) → place_after Inside (flat_map escaped t) ≡ Inside
inside_text [] = refl
inside_text (b ∷ bs) = place_after-append Inside (escaped b) (flat_map escaped bs) ∙ ap (λ (place : Place). place_after place (flat_map escaped bs)) (inside_step b (b == 34) (b == 92) refl refl) ∙ inside_text bs

gap_step : (b : ℕ) (quote backslash : Bool) → (b == 34) ≡ quote → (b == 92) ≡ backslash → has_gap Inside (escaped b) ≡ false
gap_step b true backslash p q = rw p refl
gap_step b false true p q = rw (p, q) refl
gap_step b false false p q = rw (p, q) refl

gap_text : (t : List ℕ) → has_gap Inside (flat_map escaped t) ≡ false
gap_text [] = refl
gap_text (b ∷ bs) = has_gap-append Inside (escaped b) (flat_map escaped bs) (gap_step b (b == 34) (b == 92) refl refl) (ap (λ (place : Place). has_gap place (flat_map escaped bs)) (inside_step b (b == 34) (b == 92) refl refl) ∙ gap_text bs)

plain_step : (b : ℕ) (special : Bool) → ((b == 34) || (b == 92)) ≡ special → is_printable b ≡ true → list_all is_plain (escaped b) ≡ true
plain_step b true s h = rw s (and_from true (is_plain b && true) refl (and_from (is_plain b) true h refl))
plain_step b false s h = rw s (and_from (is_plain b) true h refl)

plain_text : (t : List ℕ) → IsPrintable t → list_all is_plain (flat_map escaped t) ≡ true
plain_text [] h = refl
plain_text (b ∷ bs) h =
    let p = and_parts (is_printable b) (list_all is_printable bs) h in
    list_all-append is_plain (escaped b) (flat_map escaped bs) ∙ and_from (list_all is_plain (escaped b)) (list_all is_plain (flat_map escaped bs)) (plain_step b ((b == 34) || (b == 92)) refl p.0) (plain_text bs p.1)

quoted_piece : (t : List ℕ) → IsPrintable t → IsPiece (quoted t)
quoted_piece t h = record {
  plain = list_all-append is_plain (flat_map escaped t) (34 ∷ []) ∙ and_from (list_all is_plain (flat_map escaped t)) true (plain_text t h) refl;
  closed = place_after-append Inside (flat_map escaped t) (34 ∷ []) ∙ ap (λ (place : Place). place_after place (34 ∷ [])) (inside_text t);
  whole = has_gap-append Inside (flat_map escaped t) (34 ∷ []) (gap_text t) (ap (λ (place : Place). has_gap place (34 ∷ [])) (inside_text t));
}

pub quoted_word : (t : List ℕ) → IsPrintable t → IsWord (quoted t)
quoted_word t h = record { piece = quoted_piece t h; some = nonempty (quoted t) (omega arith) }

-- ---- values and fields

int_piece : (z : ℤ) → is_within (2 ^ 63) z ≡ true → IsPiece (int_decimal z)
int_piece (pos n) h = let lt = ltb-true n (2 ^ 63) h in decimal_piece n (omega (arith, lt))
int_piece (negsuc n) h = let lt = ltb-true n (2 ^ 63) h in piece_cons 45 (decimal (suc n)) refl (decimal_piece (suc n) (omega (arith, lt)))

wider : (half : ℕ) (z : ℤ) → half ≤ 2 ^ 63 → is_within half z ≡ true → is_within (2 ^ 63) z ≡ true
wider half (pos n) le h = let lt = ltb-true n half h in lt-ltb n (2 ^ 63) (omega (arith, lt))
wider half (negsuc n) le h = let lt = ltb-true n half h in lt-ltb n (2 ^ 63) (omega (arith, lt))

glyph_simple : (n : ℕ) → n < 16 → is_simple (digit_glyph false n) ≡ true
glyph_simple n lt =
    elim (cases_lt n 10) [
      | inl small ↦ rw (lt-ltb n 10 small) (simple_from (48 + n) (omega arith) (omega (arith, small)))
      | inr large ↦ rw (le-ltb n 10 large) (simple_from (87 + n) (omega arith) (omega (arith, lt)))
    ]

hex_piece : (bs : List ℕ) → list_all (λ b. nat_lt b (2 ^ 8)) bs ≡ true → IsPiece (flat_map hex_pair bs)
hex_piece [] h = piece_empty
hex_piece (b ∷ bs) h =
    let p = and_parts (ltb b (2 ^ 8)) (list_all (λ b. nat_lt b (2 ^ 8)) bs) h in
    let lt = ltb-true b (2 ^ 8) p.0 in
    let high : b / 16 < 16 = omega (arith, lt) in
    let low : b % 16 < 16 = omega arith in
    piece_cons (digit_glyph false (b / 16)) (digit_glyph false (b % 16) ∷ flat_map hex_pair bs) (glyph_simple (b / 16) high) (piece_cons (digit_glyph false (b % 16)) (flat_map hex_pair bs) (glyph_simple (b % 16) low) (hex_piece bs p.1))

bool_piece : (b : Bool) → IsPiece (bool_text b)
bool_piece true = piece_simple _ refl
bool_piece false = piece_simple _ refl

commas_piece : (zs : List ℤ) → list_all (is_within (2 ^ 63)) zs ≡ true → IsPiece (flat_map after_comma zs)
commas_piece [] h = piece_empty
commas_piece (z ∷ zs) h =
    let p = and_parts (is_within (2 ^ 63) z) (list_all (is_within (2 ^ 63)) zs) h in
    piece_cons 44 (int_decimal z ++ flat_map after_comma zs) refl (piece_append (int_decimal z) (flat_map after_comma zs) (int_piece z p.0) (commas_piece zs p.1))

list_piece : (zs : List ℤ) → list_all (is_within (2 ^ 63)) zs ≡ true → IsPiece (with_commas zs)
list_piece [] h = piece_empty
list_piece (z ∷ zs) h =
    let p = and_parts (is_within (2 ^ 63) z) (list_all (is_within (2 ^ 63)) zs) h in
    piece_append (int_decimal z) (flat_map after_comma zs) (int_piece z p.0) (commas_piece zs p.1)

value_piece : (v : Value) → IsValue v → IsPiece (value_text v)
value_piece (values.Bool b) h = bool_piece b
value_piece (values.Char n) h = decimal_piece n (omega (arith, h))
value_piece (values.I8 z) h = int_piece z (wider (2 ^ 7) z (omega arith) h)
value_piece (values.I16 z) h = int_piece z (wider (2 ^ 15) z (omega arith) h)
value_piece (values.I32 z) h = int_piece z (wider (2 ^ 31) z (omega arith) h)
value_piece (values.I64 z) h = int_piece z h
value_piece (values.U8 n) h = decimal_piece n (omega (arith, h))
value_piece (values.U16 n) h = decimal_piece n (omega (arith, h))
value_piece (values.U32 n) h = decimal_piece n (omega (arith, h))
value_piece (values.U64 n) h = decimal_piece n h
value_piece (values.Text t) h = quoted_piece t h.printable
value_piece (values.Bytes bs) h = piece_cons 120 (flat_map hex_pair bs) refl (hex_piece bs h.1)
value_piece (values.Price p) h = piece_append (int_decimal p.mantissa) (47 ∷ decimal p.decimals) (int_piece p.mantissa h.0) (piece_cons 47 (decimal p.decimals) refl (decimal_piece p.decimals (let le = h.1 in omega (arith, le))))
value_piece (values.Moment n) h = decimal_piece n h
value_piece (values.Numbers zs) h = piece_cons 91 (with_commas zs ++ 93 ∷ []) refl (piece_append (with_commas zs) (93 ∷ []) (list_piece zs h.within) (piece_simple (93 ∷ []) refl))

pub block_word : (bs : List ℕ) → list_all (λ b. nat_lt b (2 ^ 8)) bs ≡ true → IsWord (bytes_text bs)
block_word bs h = word_cons 120 (flat_map hex_pair bs) refl (hex_piece bs h)

type_piece : (t : ValueType) → IsPiece (type_text t)
type_piece types.Bool = piece_simple _ refl
type_piece types.Char = piece_simple _ refl
type_piece types.I8 = piece_simple _ refl
type_piece types.I16 = piece_simple _ refl
type_piece types.I32 = piece_simple _ refl
type_piece types.I64 = piece_simple _ refl
type_piece types.U8 = piece_simple _ refl
type_piece types.U16 = piece_simple _ refl
type_piece types.U32 = piece_simple _ refl
type_piece types.U64 = piece_simple _ refl
type_piece types.Text = piece_simple _ refl
type_piece types.Bytes = piece_simple _ refl
type_piece types.Price = piece_simple _ refl
type_piece types.Moment = piece_simple _ refl
type_piece types.Numbers = piece_simple _ refl

range_simple : (low high b : ℕ) → 35 ≤ low → high ≤ 126 → is_in_range low high b ≡ true → is_simple b ≡ true
range_simple low high b above below h =
    let p = and_parts (leb low b) (leb b high) h in
    let from = leb-true low b p.0 in
    let to = leb-true b high p.1 in
    simple_from b (omega (arith, from)) (omega (arith, to))

alphanumeric_simple : (b : ℕ) → is_ascii_alphanumeric b ≡ true → is_simple b ≡ true
alphanumeric_simple b h =
    elim (or_cases (is_in_range 48 57 b || is_in_range 65 90 b) (is_in_range 97 122 b) h) [
      | inl p ↦ elim (or_cases (is_in_range 48 57 b) (is_in_range 65 90 b) p) [
        | inl q ↦ range_simple 48 57 b (omega arith) (omega arith) q
        | inr q ↦ range_simple 65 90 b (omega arith) (omega arith) q
      ]
      | inr p ↦ range_simple 97 122 b (omega arith) (omega arith) p
    ]

name_simple : (b : ℕ) → is_name_byte b ≡ true → is_simple b ≡ true
name_simple b h =
    elim (or_cases (is_ascii_alphanumeric b) (b == 95) h) [
      | inl p ↦ alphanumeric_simple b p
      | inr p ↦ let e = eqb-true b 95 p in simple_from b (omega (arith, e)) (omega (arith, e))
    ]

field_piece : (nums : Nums) (f : FieldData) → IsField nums f → IsPiece (field_text f)
field_piece nums f is =
    let value = piece_cons 58 (value_text f.value) refl (value_piece f.value is.value) in
    let typed = piece_cons 58 (type_text (type_of f.value) ++ 58 ∷ value_text f.value) refl (piece_append (type_text (type_of f.value)) (58 ∷ value_text f.value) (type_piece (type_of f.value)) value) in
    let name = piece_simple f.name (all_simple is_name_byte f.name name_simple is.name.letters) in
    let named = piece_cons 58 (f.name ++ 58 ∷ (type_text (type_of f.value) ++ 58 ∷ value_text f.value)) refl (piece_append f.name (58 ∷ (type_text (type_of f.value) ++ 58 ∷ value_text f.value)) name typed) in
    piece_append (decimal f.fid) (58 ∷ (f.name ++ 58 ∷ (type_text (type_of f.value) ++ 58 ∷ value_text f.value))) (decimal_piece f.fid (let lt = is.fid in omega (arith, lt))) named

length-cons_back : (a : List ℕ) (b : ℕ) (bs : List ℕ) → 0 < length (a ++ b ∷ bs)
length-cons_back [] b bs = omega arith
length-cons_back (x ∷ a) b bs = omega arith

pub field_word : (nums : Nums) (f : FieldData) → IsField nums f → IsWord (field_text f)
field_word nums f is = record { piece = field_piece nums f is; some = nonempty (field_text f) (length-cons_back (decimal f.fid) 58 (f.name ++ 58 ∷ (type_text (type_of f.value) ++ 58 ∷ value_text f.value))) }

pub field_words : (nums : Nums) (fs : List FieldData) → AllByRecursion (IsField nums) fs → AreWords (map field_text fs)
field_words nums [] all = tt
field_words nums (f ∷ fs) all = (field_word nums f all.0, field_words nums fs all.1)

fid_words : (fids : List ℕ) → are_small fids ≡ true → AreWords (map decimal fids)
fid_words [] h = tt
fid_words (f ∷ fs) h =
    let p = and_parts (ltb f (2 ^ 16)) (are_small fs) h in
    let lt = ltb-true f (2 ^ 16) p.0 in
    (decimal_word f (omega (arith, lt)), fid_words fs p.1)

pub order_word : (o : OrderWord) → IsOrder o → AreWords (order_words o)
order_word (Stop id) h = (fixed_word _ _ refl, (id_word 115 id refl h, tt))
order_word (Disarm id) h = (fixed_word _ _ refl, (id_word 116 id refl h, tt))
order_word (Close id) h = (fixed_word _ _ refl, (id_word 105 id refl h, tt))
order_word (Ask id topic fids) h = (fixed_word _ _ refl, (id_word 105 id refl h.0, (decimal_word topic h.1, fid_words fids h.3)))

-- ---- what is printed is the words in a row

numbers_row : (ns : List ℕ) → flat_map spaced_number ns ≡ flat_map spaced (map decimal ns)
numbers_row [] = refl
numbers_row (n ∷ ns) = ap (λ (t : List ℕ). spaced_number n ++ t) (numbers_row ns)

pub order_sentence : (o : OrderWord) → order_text o ≡ sentence (order_words o)
order_sentence (Stop id) = ap (λ (t : List ℕ). codes "stop " ++ t) (sym (append-nil (id_text 115 id)))
order_sentence (Disarm id) = ap (λ (t : List ℕ). codes "disarm " ++ t) (sym (append-nil (id_text 116 id)))
order_sentence (Close id) = ap (λ (t : List ℕ). codes "close " ++ t) (sym (append-nil (id_text 105 id)))
order_sentence (Ask id topic fids) = ap (λ (t : List ℕ). codes "ask " ++ (id_text 105 id ++ (spaced_number topic ++ t))) (numbers_row fids)

pub fields_row : (fs : List FieldData) → fields_text fs ≡ flat_map spaced (map field_text fs)
fields_row [] = refl
fields_row (f ∷ fs) = ap (λ (t : List ℕ). spaced_field f ++ t) (fields_row fs)
