-- Values, fields and messages: each is read as it is spelled, and spelled as it is read.
use Rattle.std.proofs.Common.{◌≡◌, ℕ, ℤ, suc, ◌^◌, ◌<◌, ◌≤◌, Bool, true, false, cond, eqb, ◌&&◌, List, [], ◌∷◌, ◌++◌, length, Option, Some, None, Ok, Err, refl, sym, ap, subst, ◌∙◌, arith, inl, inr}
use Rattle.std.specs.List.{list_all, flat_map, AllByRecursion}
use Rattle.std.specs.Int.{w8, w16, w32, w64, to_be_bytes}
use Rattle.std.specs.Int.RustNames.{FitsSigned}
use Rattle.std.proofs.lemmas.Bool.{eqb-true, cond-true, cond-false, cases_Bool, ne_eqb, and_left, both_ways}
use Rattle.mama_msg.specs.declared.value.Value.{Value}
use Rattle.mama_msg.specs.declared.value.Value.TheVariants as values
use Rattle.mama_msg.specs.Price.{PriceData}
use Rattle.mama_msg.specs.Value.{IsText, is_printable}
use Rattle.mama_msg.specs.Field.{FieldData, key_from, key_of, IsKeyed}
use Rattle.mama_msg.specs.Message.{has_key}
use Rattle.mama_payload.specs.declared.kind.Kind.{Kind}
use Rattle.mama_payload.specs.declared.kind.Kind.TheVariants as kinds
use Rattle.mama_payload.specs.declared.version.Version.{Version}
use Rattle.mama_payload.specs.declared.fault.Rule.TheVariants as rules
use Rattle.mama_msg.specs.Name.{is_name_byte, IsNameText}
use Rattle.mama_payload.specs.Spelling.{kind_of, tag_of, signed, counted, listed, value_bytes, field_bytes}
use Rattle.mama_payload.specs.Spelled.{AreNumbers, IsInRange, IsField}
use Rattle.mama_payload.specs.Stop.{fault_at}
use Rattle.mama_payload.specs.Reading.{◌>>=◌, seen_as, byte_at, limited_at, number_at, signed_at, bytes_at, letters_at, flag_at, text_at, block_at, price_at, list_at, numbers_at, value_at, kind_with_tag, is_kind_of, if_kind_of, kind_in, known, kind_at, name_at, field_at}
use Rattle.mama_payload.proofs.Steps.{IsBytes, bind_ok, ok_is, Reads, Reads-then, Reads-seen, Reads-guard, Spells, Spells-then, Spells-seen, Spells-guard}
use Rattle.mama_payload.proofs.Parts.{one, front_of_one, byte_reads, byte_spells, limited_reads, limited_spells, wide8, wide16, wide32, wide64, number_reads, number_spells, signed_reads, signed_spells, bytes_reads, bytes_spells, letters_reads, letters_spells, flag_reads, flag_spells, numbers_reads, numbers_spells}

-- ---- values

text_reads : (text : List ℕ) → IsText text → Reads text_at (counted text) text
unfolding text_at
text_reads text is_text =
    Reads-then byte_at (λ bytes n rest. letters_at is_printable n rest) (one (length text)) text (length text) text
    (byte_reads (length text)) (λ bytes. letters_reads is_printable text is_text.printable)

text_spells : Spells text_at counted IsText
unfolding text_at
text_spells =
    Spells-then byte_at (λ bytes n rest. letters_at is_printable n rest) one (λ n text. text) counted (λ n. n < 2 ^ 8) (λ n text. (length text ≡ n) × (list_all is_printable text ≡ true)) IsText
    byte_spells (λ bytes n lt. letters_spells is_printable n)
    (λ n text lt letters. (ap (λ (k : ℕ). k ∷ text) (sym letters.0), record { short = omega arith; printable = letters.1 }))

block_reads : (block : List ℕ) → Reads block_at (counted block) block
unfolding block_at
block_reads block =
    Reads-then byte_at (λ bytes n rest. bytes_at n rest) (one (length block)) block (length block) block
    (byte_reads (length block)) (λ bytes. bytes_reads block)

block_spells : Spells block_at counted (λ block. length block ≤ 255)
unfolding block_at
block_spells =
    Spells-then byte_at (λ bytes n rest. bytes_at n rest) one (λ n block. block) counted (λ n. n < 2 ^ 8) (λ n block. length block ≡ n) (λ block. length block ≤ 255)
    byte_spells (λ bytes n lt. bytes_spells n)
    (λ n block lt len. (ap (λ (k : ℕ). k ∷ block) (sym len), omega arith))

price_reads : (price : PriceData) → IsInRange (values.Price price) → Reads price_at (value_bytes (values.Price price)) price
unfolding price_at
price_reads price fits =
    Reads-then (signed_at w64) (λ bytes mantissa rest. seen_as (λ decimals. record { mantissa = mantissa; decimals = decimals }) (limited_at 18 rest))
    (signed w64 price.mantissa) (one price.decimals) price.mantissa price
    (signed_reads w64 wide64 price.mantissa fits.0)
    (λ bytes. Reads-seen (limited_at 18) (λ decimals. record { mantissa = price.mantissa; decimals = decimals }) (one price.decimals) price.decimals (limited_reads 18 price.decimals fits.1))

abbrev price_bytes : PriceData → List ℕ
price_bytes price = value_bytes (values.Price price)

abbrev HasPrice : PriceData → Type 0
HasPrice price = IsInRange (values.Price price)

price_spells : Spells price_at price_bytes HasPrice
unfolding price_at
price_spells =
    Spells-then (signed_at w64) (λ bytes mantissa rest. seen_as (λ decimals. record { mantissa = mantissa; decimals = decimals }) (limited_at 18 rest))
    (signed w64) (λ mantissa price. one price.decimals) price_bytes (λ z. IsInRange (values.I64 z)) (λ mantissa price. (price.mantissa ≡ mantissa) × (price.decimals ≤ 18)) HasPrice
    (signed_spells w64 wide64)
    (λ bytes mantissa fits. Spells-seen (limited_at 18) (λ decimals. record { mantissa = mantissa; decimals = decimals }) one (λ price. one price.decimals) (λ n. n ≤ 18)
    (λ price. (price.mantissa ≡ mantissa) × (price.decimals ≤ 18)) (limited_spells 18) (λ n le. (refl, (refl, le))))
    (λ mantissa price fits made. (ap (λ (z : ℤ). signed w64 z ++ one price.decimals) (sym made.0), (subst (λ (z : ℤ). IsInRange (values.I64 z)) (sym made.0) fits, made.1)))

list_reads : (zs : List ℤ) → AreNumbers zs → Reads list_at (listed zs) zs
unfolding list_at
list_reads zs fits =
    Reads-then (limited_at 24) (λ _ n rest. numbers_at n rest) (one (length zs)) (flat_map (signed w64) zs) (length zs) zs
    (limited_reads 24 (length zs) fits.0) (λ _. numbers_reads zs fits.1)

list_spells : Spells list_at listed AreNumbers
unfolding list_at
list_spells =
    Spells-then (limited_at 24) (λ _ n rest. numbers_at n rest) one (λ n zs. flat_map (signed w64) zs) listed (λ n. n ≤ 24) (λ n zs. (length zs ≡ n) × AllByRecursion (FitsSigned w64) zs) AreNumbers
    (limited_spells 24) (λ _ n le. numbers_spells n)
    (λ n zs le made. (ap (λ (k : ℕ). k ∷ flat_map (signed w64) zs) (sym made.0), (subst (λ (k : ℕ). k ≤ 24) (sym made.0) le, made.1)))

pub value_reads : (v : Value) → IsInRange v → Reads (value_at (kind_of v)) (value_bytes v) v
unfolding value_at
value_reads (values.Bool b) fits = Reads-seen flag_at values.Bool (value_bytes (values.Bool b)) b (flag_reads b)
value_reads (values.Char n) fits = Reads-seen byte_at values.Char (one n) n (byte_reads n)
value_reads (values.I8 z) fits = Reads-seen (signed_at w8) values.I8 (signed w8 z) z (signed_reads w8 wide8 z fits)
value_reads (values.I16 z) fits = Reads-seen (signed_at w16) values.I16 (signed w16 z) z (signed_reads w16 wide16 z fits)
value_reads (values.I32 z) fits = Reads-seen (signed_at w32) values.I32 (signed w32 z) z (signed_reads w32 wide32 z fits)
value_reads (values.I64 z) fits = Reads-seen (signed_at w64) values.I64 (signed w64 z) z (signed_reads w64 wide64 z fits)
value_reads (values.U8 n) fits = Reads-seen byte_at values.U8 (one n) n (byte_reads n)
value_reads (values.U16 n) fits = Reads-seen (number_at w16) values.U16 (to_be_bytes w16 n) n (number_reads w16 (2 ^ 16) wide16 n fits)
value_reads (values.U32 n) fits = Reads-seen (number_at w32) values.U32 (to_be_bytes w32 n) n (number_reads w32 (2 ^ 32) wide32 n fits)
value_reads (values.U64 n) fits = Reads-seen (number_at w64) values.U64 (to_be_bytes w64 n) n (number_reads w64 (2 ^ 64) wide64 n fits)
value_reads (values.Text text) fits = Reads-seen text_at values.Text (counted text) text (text_reads text fits)
value_reads (values.Bytes bytes) fits = Reads-seen block_at values.Bytes (counted bytes) bytes (block_reads bytes)
value_reads (values.Price price) fits = Reads-seen price_at values.Price (price_bytes price) price (price_reads price fits)
value_reads (values.Moment n) fits = Reads-seen (number_at w64) values.Moment (to_be_bytes w64 n) n (number_reads w64 (2 ^ 64) wide64 n fits)
value_reads (values.Numbers zs) fits = Reads-seen list_at values.Numbers (listed zs) zs (list_reads zs fits)

-- a value of a kind
pub record IsValueOf (kind : Kind) (v : Value) : Type 0 where
  pub kind_is : kind_of v ≡ kind
  pub in_range : IsInRange v

pub value_spells : (kind : Kind) → Spells (value_at kind) value_bytes (IsValueOf kind)
unfolding value_at
value_spells kinds.Bool = Spells-seen flag_at values.Bool (λ b. value_bytes (values.Bool b)) value_bytes (λ b. Unit {0}) (IsValueOf kinds.Bool) flag_spells (λ b fits. (refl, record { kind_is = refl; in_range = tt }))
value_spells kinds.Char = Spells-seen byte_at values.Char one value_bytes (λ n. n < 2 ^ 8) (IsValueOf kinds.Char) byte_spells (λ n fits. (refl, record { kind_is = refl; in_range = fits }))
value_spells kinds.I8 = Spells-seen (signed_at w8) values.I8 (signed w8) value_bytes (λ z. IsInRange (values.I8 z)) (IsValueOf kinds.I8) (signed_spells w8 wide8) (λ z fits. (refl, record { kind_is = refl; in_range = fits }))
value_spells kinds.I16 = Spells-seen (signed_at w16) values.I16 (signed w16) value_bytes (λ z. IsInRange (values.I16 z)) (IsValueOf kinds.I16) (signed_spells w16 wide16) (λ z fits. (refl, record { kind_is = refl; in_range = fits }))
value_spells kinds.I32 = Spells-seen (signed_at w32) values.I32 (signed w32) value_bytes (λ z. IsInRange (values.I32 z)) (IsValueOf kinds.I32) (signed_spells w32 wide32) (λ z fits. (refl, record { kind_is = refl; in_range = fits }))
value_spells kinds.I64 = Spells-seen (signed_at w64) values.I64 (signed w64) value_bytes (λ z. IsInRange (values.I64 z)) (IsValueOf kinds.I64) (signed_spells w64 wide64) (λ z fits. (refl, record { kind_is = refl; in_range = fits }))
value_spells kinds.U8 = Spells-seen byte_at values.U8 one value_bytes (λ n. n < 2 ^ 8) (IsValueOf kinds.U8) byte_spells (λ n fits. (refl, record { kind_is = refl; in_range = fits }))
value_spells kinds.U16 = Spells-seen (number_at w16) values.U16 (to_be_bytes w16) value_bytes (λ n. n < 2 ^ 16) (IsValueOf kinds.U16) (number_spells w16 (2 ^ 16) wide16) (λ n fits. (refl, record { kind_is = refl; in_range = fits }))
value_spells kinds.U32 = Spells-seen (number_at w32) values.U32 (to_be_bytes w32) value_bytes (λ n. n < 2 ^ 32) (IsValueOf kinds.U32) (number_spells w32 (2 ^ 32) wide32) (λ n fits. (refl, record { kind_is = refl; in_range = fits }))
value_spells kinds.U64 = Spells-seen (number_at w64) values.U64 (to_be_bytes w64) value_bytes (λ n. n < 2 ^ 64) (IsValueOf kinds.U64) (number_spells w64 (2 ^ 64) wide64) (λ n fits. (refl, record { kind_is = refl; in_range = fits }))
value_spells kinds.Text = Spells-seen text_at values.Text counted value_bytes IsText (IsValueOf kinds.Text) text_spells (λ text fits. (refl, record { kind_is = refl; in_range = fits }))
value_spells kinds.Bytes = Spells-seen block_at values.Bytes counted value_bytes (λ bytes. length bytes ≤ 255) (IsValueOf kinds.Bytes) block_spells (λ bytes fits. (refl, record { kind_is = refl; in_range = fits }))
value_spells kinds.Price = Spells-seen price_at values.Price price_bytes value_bytes HasPrice (IsValueOf kinds.Price) price_spells (λ price fits. (refl, record { kind_is = refl; in_range = fits }))
value_spells kinds.Moment = Spells-seen (number_at w64) values.Moment (to_be_bytes w64) value_bytes (λ n. n < 2 ^ 64) (IsValueOf kinds.Moment) (number_spells w64 (2 ^ 64) wide64) (λ n fits. (refl, record { kind_is = refl; in_range = fits }))
value_spells kinds.Numbers = Spells-seen list_at values.Numbers listed value_bytes AreNumbers (IsValueOf kinds.Numbers) list_spells (λ zs fits. (refl, record { kind_is = refl; in_range = fits }))

-- ---- kinds

tag_known : (kind : Kind) → kind_with_tag (tag_of kind) ≡ Some kind
tag_known kinds.Bool = refl
tag_known kinds.Char = refl
tag_known kinds.I8 = refl
tag_known kinds.I16 = refl
tag_known kinds.I32 = refl
tag_known kinds.I64 = refl
tag_known kinds.U8 = refl
tag_known kinds.U16 = refl
tag_known kinds.U32 = refl
tag_known kinds.U64 = refl
tag_known kinds.Text = refl
tag_known kinds.Bytes = refl
tag_known kinds.Price = refl
tag_known kinds.Moment = refl
tag_known kinds.Numbers = refl

abbrev some : {X : Type 0} → X → Option X
some x = Some x

abbrev none : {X : Type 0} → Option X
none = None

some_is : {X : Type 0} (a b : X) → some a ≡ some b → a ≡ b
some_is a b e = cc

pub none_is_some : {X : Type 0} (x : X) → none ≡ some x → ⊥
none_is_some x e = cc

-- a chain of tests, of which the first took the byte or the others did
pub byte_step : {X : Type 0} (byte_of : X → ℕ) (n : ℕ) (first x : X) (others : Option X) → cond (eqb n (byte_of first)) (Some first) others ≡ Some x → (others ≡ Some x → n ≡ byte_of x) → n ≡ byte_of x
byte_step byte_of n first x others e later =
    elim (cases_Bool (eqb n (byte_of first))) [
      | inl same ↦ let k : first ≡ x = some_is first x (sym (cond-true (eqb n (byte_of first)) (Some first) others same) ∙ e) in eqb-true _ _ same ∙ ap byte_of k
      | inr other ↦ later (sym (cond-false (eqb n (byte_of first)) (Some first) others other) ∙ e)
    ]

tag_step : (n : ℕ) (first kind : Kind) (others : Option Kind) → cond (eqb n (tag_of first)) (Some first) others ≡ Some kind → (others ≡ Some kind → n ≡ tag_of kind) → n ≡ tag_of kind
tag_step n first kind others = byte_step tag_of n first kind others

tag_of_known : (n : ℕ) (kind : Kind) → kind_with_tag n ≡ Some kind → n ≡ tag_of kind
tag_of_known n kind e =
    tag_step n kinds.Bool kind _ e (λ e. tag_step n kinds.Char kind _ e (λ e. tag_step n kinds.I8 kind _ e (λ e. tag_step n kinds.I16 kind _ e (
    λ e. tag_step n kinds.I32 kind _ e (λ e. tag_step n kinds.I64 kind _ e (λ e. tag_step n kinds.U8 kind _ e (λ e. tag_step n kinds.U16 kind _ e (
    λ e. tag_step n kinds.U32 kind _ e (λ e. tag_step n kinds.U64 kind _ e (λ e. tag_step n kinds.Text kind _ e (λ e. tag_step n kinds.Bytes kind _ e (
    λ e. tag_step n kinds.Price kind _ e (λ e. tag_step n kinds.Moment kind _ e (λ e. tag_step n kinds.Numbers kind _ e (λ e. absurd (none_is_some kind e))))))))))))))))

-- the kind of a field is one of this version
abbrev pub Carries : Version → FieldData → Type 0
Carries version f = is_kind_of version (kind_of f.value) ≡ true

kind_in_again : (version : Version) (kind : Kind) → is_kind_of version kind ≡ true → kind_in version (tag_of kind) ≡ Some kind
kind_in_again version kind own = ap (if_kind_of version) (tag_known kind) ∙ cond-true (is_kind_of version kind) (Some kind) None own

if_kind_is : (version : Version) (found : Option Kind) (kind : Kind) → if_kind_of version found ≡ Some kind → (found ≡ Some kind) × (is_kind_of version kind ≡ true)
if_kind_is version None kind e = absurd (none_is_some kind e)
if_kind_is version (Some k) kind e =
    elim (cases_Bool (is_kind_of version k)) [
      | inl own ↦
          let same : k ≡ kind = some_is k kind (sym (cond-true (is_kind_of version k) (Some k) None own) ∙ e) in
          (ap some same, ap (is_kind_of version) (sym same) ∙ own)
      | inr other ↦ absurd (none_is_some kind (sym (cond-false (is_kind_of version k) (Some k) None other) ∙ e))
    ]

kind_reads : (version : Version) (kind : Kind) → is_kind_of version kind ≡ true → Reads (kind_at version) (one (tag_of kind)) kind
unfolding kind_at
kind_reads version kind own = record {
  again = λ rest. ap (λ (k : Option Kind). known k (tag_of kind ∷ rest) rest) (kind_in_again version kind own);
  cut = λ front c rest e. ap (λ (bytes : List ℕ). byte_at bytes >>= λ tag. known (kind_in version tag.0) bytes tag.1) (front_of_one (tag_of kind) front c rest e);
}

pub known_is : {X : Type 0} (found : Option X) (bytes rest : List ℕ) (x : X) (after : List ℕ) → known found bytes rest ≡ Ok (x, after) → (found ≡ Some x) × (rest ≡ after)
known_is None bytes rest x after e = absurd cc
known_is {X} (Some k) bytes rest x after e = let made : X × List ℕ = (k, rest) in let same = ok_is made (x, after) e in (ap (λ (y : X × List ℕ). Some y.0) same, ap (λ (y : X × List ℕ). y.1) same)

kind_taken : (version : Version) (bytes : List ℕ) (kind : Kind) (rest : List ℕ) → IsBytes bytes → kind_at version bytes ≡ Ok (kind, rest) → (bytes ≡ one (tag_of kind) ++ rest) × IsBytes rest × (is_kind_of version kind ≡ true)
unfolding kind_at
kind_taken version bytes kind rest fits e =
    let a = bind_ok (byte_at bytes) (λ tag. known (kind_in version tag.0) bytes tag.1) (kind, rest) e in
    let p = byte_spells.takes bytes a.0.0 a.0.1 fits a.1 in
    let k = known_is (kind_in version a.0.0) bytes a.0.1 kind rest a.2 in
    let found = if_kind_is version (kind_with_tag a.0.0) kind k.0 in
    let tag : a.0.0 ≡ tag_of kind = tag_of_known a.0.0 kind found.0 in
    (p.0 ∙ ap (λ (n : ℕ). one n ++ a.0.1) tag ∙ ap (λ (r : List ℕ). one (tag_of kind) ++ r) k.1, subst IsBytes k.1 p.1, found.1)

kind_spells : (version : Version) → Spells (kind_at version) (λ kind. one (tag_of kind)) (λ kind. is_kind_of version kind ≡ true)
kind_spells version = record { takes = kind_taken version }

-- ---- names

abbrev is_missing : ℕ → ℕ → Bool
is_missing fid n = eqb n 0 && eqb fid 0

keyed_is_there : (fid : ℕ) (name : List ℕ) → IsKeyed fid name → is_missing fid (length name) ≡ false
keyed_is_there fid [] keyed = ne_eqb fid 0 (λ e. keyed.named e refl)
keyed_is_there fid (b ∷ name) keyed = and_left (eqb (suc (length name)) 0) (eqb fid 0) (ne_eqb (suc (length name)) 0 (λ e. omega arith))

there_is_keyed : (fid : ℕ) (name : List ℕ) → is_missing fid (length name) ≡ false → IsKeyed fid name
there_is_keyed fid name there = record { named = λ no_fid empty. both_ways (is_missing fid (length name)) there (rw (no_fid, empty) refl) }

name_reads : (fid : ℕ) (name : List ℕ) → IsNameText name → IsKeyed fid name → Reads (name_at fid) (counted name) name
unfolding name_at
name_reads fid name is_text keyed =
    Reads-then (limited_at 32) (λ bytes n rest. cond (is_missing fid n) (Err (fault_at rules.BadText bytes)) (letters_at is_name_byte n rest))
    (one (length name)) name (length name) name (limited_reads 32 (length name) is_text.short)
    (λ bytes. Reads-guard (is_missing fid (length name)) (fault_at rules.BadText bytes) (letters_at is_name_byte (length name)) name name (keyed_is_there fid name keyed)
    (letters_reads is_name_byte name is_text.letters))

-- the name of a field with this fid
record IsNameOf (fid : ℕ) (name : List ℕ) : Type 0 where
  text : IsNameText name
  keyed : IsKeyed fid name

name_spells : (fid : ℕ) → Spells (name_at fid) counted (IsNameOf fid)
unfolding name_at
name_spells fid =
    Spells-then (limited_at 32) (λ bytes n rest. cond (is_missing fid n) (Err (fault_at rules.BadText bytes)) (letters_at is_name_byte n rest))
    one (λ n name. name) counted (λ n. n ≤ 32) (λ n name. (is_missing fid n ≡ false) × ((length name ≡ n) × (list_all is_name_byte name ≡ true))) (IsNameOf fid)
    (limited_spells 32)
    (λ bytes n le. Spells-guard (is_missing fid n) (fault_at rules.BadText bytes) (letters_at is_name_byte n) (λ name. name) (λ name. (length name ≡ n) × (list_all is_name_byte name ≡ true)) (letters_spells is_name_byte n))
    (λ n name le letters. (
      ap (λ (k : ℕ). k ∷ name) (sym letters.1.0),
      record {
        text = record { short = omega arith; letters = letters.1.1 };
        keyed = there_is_keyed fid name (ap (is_missing fid) letters.1.0 ∙ letters.0);
      },
    ))

-- ---- fields

pub field_reads : (version : Version) (before : List FieldData) (f : FieldData) → Carries version f → IsField f → has_key (key_of f) before ≡ false → Reads (field_at version before) (field_bytes f) f
unfolding field_at
field_reads version before f own fits new =
    Reads-then (kind_at version) (λ bytes kind rest. number_at w16 rest >>= λ fid. name_at fid.0 fid.1 >>= λ name.
    seen_as (λ value. record { fid = fid.0; name = name.0; value = value }) (cond (has_key (key_from fid.0 name.0) before) (Err (fault_at rules.Repeated bytes)) (value_at kind name.1)))
    (one (tag_of (kind_of f.value))) (to_be_bytes w16 f.fid ++ (counted f.name ++ value_bytes f.value)) (kind_of f.value) f
    (kind_reads version (kind_of f.value) own)
    (λ bytes. Reads-then (number_at w16) (λ _ fid rest. name_at fid rest >>= λ name.
    seen_as (λ value. record { fid = fid; name = name.0; value = value }) (cond (has_key (key_from fid name.0) before) (Err (fault_at rules.Repeated bytes)) (value_at (kind_of f.value) name.1)))
    (to_be_bytes w16 f.fid) (counted f.name ++ value_bytes f.value) f.fid f
    (number_reads w16 (2 ^ 16) wide16 f.fid fits.fid)
    (λ _. Reads-then (name_at f.fid) (λ _ name rest.
    seen_as (λ value. record { fid = f.fid; name = name; value = value }) (cond (has_key (key_from f.fid name) before) (Err (fault_at rules.Repeated bytes)) (value_at (kind_of f.value) rest)))
    (counted f.name) (value_bytes f.value) f.name f
    (name_reads f.fid f.name fits.name fits.keyed)
    (λ _. Reads-seen (λ rest. cond (has_key (key_of f) before) (Err (fault_at rules.Repeated bytes)) (value_at (kind_of f.value) rest)) (λ value. record { fid = f.fid; name = f.name; value = value })
    (value_bytes f.value) f.value
    (Reads-guard (has_key (key_of f) before) (fault_at rules.Repeated bytes) (value_at (kind_of f.value)) (value_bytes f.value) f.value new (value_reads f.value fits.value)))))

-- a field of a version that may stand behind these
pub record IsNext (version : Version) (before : List FieldData) (f : FieldData) : Type 0 where
  pub field : IsField f
  pub own : Carries version f
  pub new : has_key (key_of f) before ≡ false

-- what is known of a field after its kind, its fid and its name were read, and the value behind them
record IsNamed (before : List FieldData) (kind : Kind) (fid : ℕ) (name : List ℕ) (f : FieldData) : Type 0 where
  fid_is : f.fid ≡ fid
  name_is : f.name ≡ name
  new : has_key (key_of f) before ≡ false
  value : IsValueOf kind f.value

-- the same after its kind and its fid
record IsNumbered (before : List FieldData) (kind : Kind) (fid : ℕ) (f : FieldData) : Type 0 where
  fid_is : f.fid ≡ fid
  name : IsNameOf fid f.name
  new : has_key (key_of f) before ≡ false
  value : IsValueOf kind f.value

-- the same after its kind
record IsTagged (version : Version) (before : List FieldData) (kind : Kind) (f : FieldData) : Type 0 where
  next : IsNext version before f
  kind_is : kind_of f.value ≡ kind

pub field_spells : (version : Version) (before : List FieldData) → Spells (field_at version before) field_bytes (IsNext version before)
unfolding field_at
field_spells version before =
    Spells-then (kind_at version) (λ bytes kind rest. number_at w16 rest >>= λ fid. name_at fid.0 fid.1 >>= λ name.
    seen_as (λ value. record { fid = fid.0; name = name.0; value = value }) (cond (has_key (key_from fid.0 name.0) before) (Err (fault_at rules.Repeated bytes)) (value_at kind name.1)))
    (λ kind. one (tag_of kind)) (λ kind f. to_be_bytes w16 f.fid ++ (counted f.name ++ value_bytes f.value)) field_bytes
    (λ kind. is_kind_of version kind ≡ true) (IsTagged version before) (IsNext version before)
    (kind_spells version)
    (λ bytes kind own. Spells-then (number_at w16) (λ _ fid rest. name_at fid rest >>= λ name.
    seen_as (λ value. record { fid = fid; name = name.0; value = value }) (cond (has_key (key_from fid name.0) before) (Err (fault_at rules.Repeated bytes)) (value_at kind name.1)))
    (to_be_bytes w16) (λ fid f. counted f.name ++ value_bytes f.value) (λ f. to_be_bytes w16 f.fid ++ (counted f.name ++ value_bytes f.value))
    (λ fid. fid < 2 ^ 16) (IsNumbered before kind) (IsTagged version before kind)
    (number_spells w16 (2 ^ 16) wide16)
    (λ _ fid lt. Spells-then (name_at fid) (λ _ name rest.
    seen_as (λ value. record { fid = fid; name = name; value = value }) (cond (has_key (key_from fid name) before) (Err (fault_at rules.Repeated bytes)) (value_at kind rest)))
    counted (λ name f. value_bytes f.value) (λ f. counted f.name ++ value_bytes f.value)
    (IsNameOf fid) (IsNamed before kind fid) (IsNumbered before kind fid)
    (name_spells fid)
    (λ _ name is_name. Spells-seen (λ rest. cond (has_key (key_from fid name) before) (Err (fault_at rules.Repeated bytes)) (value_at kind rest)) (λ value. record { fid = fid; name = name; value = value })
    value_bytes (λ f. value_bytes f.value) (λ value. (has_key (key_from fid name) before ≡ false) × IsValueOf kind value) (IsNamed before kind fid name)
    (Spells-guard (has_key (key_from fid name) before) (fault_at rules.Repeated bytes) (value_at kind) value_bytes (IsValueOf kind) (value_spells kind))
    (λ value p. (refl, record { fid_is = refl; name_is = refl; new = p.0; value = p.1 })))
    (λ name f is_name made. (
      ap (λ (n : List ℕ). counted n ++ value_bytes f.value) (sym made.name_is),
      record { fid_is = made.fid_is; name = subst (IsNameOf fid) (sym made.name_is) is_name; new = made.new; value = made.value },
    )))
    (λ fid f lt made. (
      ap (λ (n : ℕ). to_be_bytes w16 n ++ (counted f.name ++ value_bytes f.value)) (sym made.fid_is),
      record {
        next = record {
          field = record {
            fid = subst (λ (n : ℕ). n < 2 ^ 16) (sym made.fid_is) lt;
            name = made.name.text;
            keyed = subst (λ (n : ℕ). IsKeyed n f.name) (sym made.fid_is) made.name.keyed;
            value = made.value.in_range;
          };
          own = ap (is_kind_of version) made.value.kind_is ∙ own;
          new = made.new;
        };
        kind_is = made.value.kind_is;
      },
    )))
    (λ kind f _ made. (ap (λ (k : Kind). one (tag_of k) ++ (to_be_bytes w16 f.fid ++ (counted f.name ++ value_bytes f.value))) (sym made.kind_is), made.next))
