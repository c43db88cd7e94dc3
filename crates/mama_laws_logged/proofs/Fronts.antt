-- What a link leaves of a message whose numbers and texts fit their types: the message itself, or a front of its spelling, which
-- spells none.
use Rattle.std.specs.Prelude.{◌^◌, ◌<◌, nat_le, IsErr, Result, Ok, Err, if◌then◌else◌}
use Rattle.std.specs.List.{list_all, AllByRecursion}
use Rattle.std.specs.Int.{w8, w16, w32, w64}
use Rattle.std.specs.Int.RustNames.{FitsSigned}
use Rattle.std.proofs.Common.{◌≡◌, ℕ, ℤ, pos, negsuc, zero, suc, Bool, true, false, leb, List, [], ◌∷◌, ◌++◌, length, take, refl, sym, ap, ◌∙◌, arith}
use Rattle.std.proofs.lemmas.Bool.{and_parts, ltb-true, leb-false}
use Rattle.std.proofs.lemmas.List.Folds.{list_all-append}
use Rattle.mama_msg.specs.declared.value.Value.{Value}
use Rattle.mama_msg.specs.declared.value.Value.TheVariants as values
use Rattle.mama_msg.specs.Field.{FieldData}
use Rattle.mama_payload.specs.declared.fault.DecodeFault.{DecodeFault}
use Rattle.mama_payload.specs.declared.fault.DecodeFault.TheVariants as faults
use Rattle.mama_payload.specs.Spelling.{spelling}
use Rattle.mama_payload.specs.Spelled.{IsInRange, HasSpelling}
use Rattle.mama_payload.specs.Spelled as payload
use Rattle.mama_payload.specs.Reading.{decoded}
use Rattle.mama_payload.specs.Laws.{is_byte, HasBytes}
use Rattle.mama_payload.proofs.Messages.{decoded-shorter}
use Rattle.mama_payload.proofs.Bytes.{spellings-are-bytes}
use Rattle.mama_event.specs.declared.market.MarketMsg.{MarketMsg}
use Rattle.mama_event.specs.Arrival.{Arrival, ReplyArrival, piece_of, cut_body, cut_arrival, cut_reply, error_code, code_in, code_of}
use Rattle.mama_words.specs.declared.nums.Nums.{Nums}
use Rattle.mama_words.specs.Number.{is_within}
use Rattle.mama_words.specs.Value.{IsValue}
use Rattle.mama_words.specs.Field.{IsField}
use Rattle.mama_log_line.specs.Entering.{IsBody, IsBroken}
use Rattle.mama_laws_genuine.proofs.Elements.{all_weaker}
use Rattle.mama_laws_logged.proofs.Bodies.{distinct_apart}
use Rattle.mama_laws_logged.proofs.Fits.{IsSound, IsFront, Arrives, IsAnswered}

-- ---- a body has a spelling

within_i8 : (z : ℤ) → is_within (2 ^ 7) z ≡ true → FitsSigned w8 z
within_i8 (pos n) h = let lt = ltb-true n (2 ^ 7) h in omega (arith, lt)
within_i8 (negsuc n) h = let lt = ltb-true n (2 ^ 7) h in omega (arith, lt)

within_i16 : (z : ℤ) → is_within (2 ^ 15) z ≡ true → FitsSigned w16 z
within_i16 (pos n) h = let lt = ltb-true n (2 ^ 15) h in omega (arith, lt)
within_i16 (negsuc n) h = let lt = ltb-true n (2 ^ 15) h in omega (arith, lt)

within_i32 : (z : ℤ) → is_within (2 ^ 31) z ≡ true → FitsSigned w32 z
within_i32 (pos n) h = let lt = ltb-true n (2 ^ 31) h in omega (arith, lt)
within_i32 (negsuc n) h = let lt = ltb-true n (2 ^ 31) h in omega (arith, lt)

within_i64 : (z : ℤ) → is_within (2 ^ 63) z ≡ true → FitsSigned w64 z
within_i64 (pos n) h = let lt = ltb-true n (2 ^ 63) h in omega (arith, lt)
within_i64 (negsuc n) h = let lt = ltb-true n (2 ^ 63) h in omega (arith, lt)

all_within : (zs : List ℤ) → list_all (is_within (2 ^ 63)) zs ≡ true → AllByRecursion (FitsSigned w64) zs
all_within [] h = tt
all_within (z ∷ zs) h = let p = and_parts (is_within (2 ^ 63) z) (list_all (is_within (2 ^ 63)) zs) h in (within_i64 z p.0, all_within zs p.1)

value_in_range : (v : Value) → IsValue v → IsInRange v
value_in_range (values.Bool b) h = tt
value_in_range (values.Char n) h = h
value_in_range (values.I8 z) h = within_i8 z h
value_in_range (values.I16 z) h = within_i16 z h
value_in_range (values.I32 z) h = within_i32 z h
value_in_range (values.I64 z) h = within_i64 z h
value_in_range (values.U8 n) h = h
value_in_range (values.U16 n) h = h
value_in_range (values.U32 n) h = h
value_in_range (values.U64 n) h = h
value_in_range (values.Text t) h = h
value_in_range (values.Bytes bs) h = h.0
value_in_range (values.Price p) h = (within_i64 p.mantissa h.0, h.1)
value_in_range (values.Moment n) h = h
value_in_range (values.Numbers zs) h = (h.few, all_within zs h.within)

value_bytes : (v : Value) → IsValue v → HasBytes v
value_bytes (values.Bytes bs) h = h.1
value_bytes _ h = tt

field_spelled : (nums : Nums) (f : FieldData) → IsField nums f → payload.IsField f
field_spelled nums f h = record { fid = h.fid; name = h.name; keyed = h.keyed; value = value_in_range f.value h.value }

body_spelled : (nums : Nums) (body : List FieldData) → IsBody nums body → HasSpelling body
body_spelled nums body h = record {
  short = h.few;
  each = all_weaker (IsField nums) payload.IsField (field_spelled nums) body h.message.fields;
  distinct = distinct_apart body h.message.distinct;
}

body_bytes : (nums : Nums) (body : List FieldData) → IsBody nums body → list_all is_byte (spelling body) ≡ true
body_bytes nums body h =
    spellings-are-bytes body (body_spelled nums body h)
    (all_weaker (IsField nums) (λ (f : FieldData). HasBytes f.value) (λ f is. value_bytes f.value is.value) body h.message.fields)

-- ---- a front of a spelling spells nothing, and so does each front of it

-- the first elements of a list, and that one element follows at least
record Beginning (keep : ℕ) (bytes whole : List ℕ) : Type 0 where
  pub next : ℕ
  pub more : List ℕ
  pub split : whole ≡ take keep bytes ++ next ∷ more

begins : (keep : ℕ) (bytes : List ℕ) (next : ℕ) (more : List ℕ) → Beginning keep bytes (bytes ++ next ∷ more)
begins zero [] next more = record { next = next; more = more; split = refl }
begins (suc keep) [] next more = record { next = next; more = more; split = refl }
begins zero (b ∷ bytes) next more = record { next = b; more = bytes ++ next ∷ more; split = refl }
begins (suc keep) (b ∷ bytes) next more =
    let shorter = begins keep bytes next more in
    record { next = shorter.next; more = shorter.more; split = ap (λ (t : List ℕ). b ∷ t) shorter.split }

-- where a list has more elements than are kept, one follows at least
cut_begins : (keep : ℕ) (bytes : List ℕ) → keep < length bytes → Beginning keep bytes bytes
cut_begins keep [] more = absurd (omega arith)
cut_begins zero (b ∷ bytes) more = record { next = b; more = bytes; split = refl }
cut_begins (suc keep) (b ∷ bytes) more =
    let shorter = cut_begins keep bytes (omega arith) in
    record { next = shorter.next; more = shorter.more; split = ap (λ (t : List ℕ). b ∷ t) shorter.split }

front_cut : (nums : Nums) (keep : ℕ) (bytes : List ℕ) → IsFront nums bytes → IsFront nums (take keep bytes)
front_cut nums keep bytes h =
    let b = begins keep bytes h.next h.more in
    record { body = h.body; is = h.is; next = b.next; more = b.more; split = h.split ∙ b.split }

body_cut : (nums : Nums) (keep : ℕ) (body : List FieldData) → IsBody nums body → leb (length (spelling body)) keep ≡ false → IsFront nums (take keep (spelling body))
body_cut nums keep body h long =
    let b = cut_begins keep (spelling body) (leb-false (length (spelling body)) keep long) in
    record { body = body; is = h; next = b.next; more = b.more; split = b.split }

is_err : (r : Result (List FieldData) DecodeFault) (fault : DecodeFault) → r ≡ Err fault → IsErr r
is_err (Ok fields) fault e = absurd cc
is_err (Err other) fault e = refl

pub front_broken : (nums : Nums) (bytes : List ℕ) → IsFront nums bytes → IsBroken bytes
front_broken nums bytes h = record {
  each = (and_parts (list_all is_byte bytes) (list_all is_byte (h.next ∷ h.more))
      (sym (list_all-append is_byte bytes (h.next ∷ h.more)) ∙ ap (list_all is_byte) (sym h.split) ∙ body_bytes nums h.body h.is)).0;
  broken = is_err (decoded bytes) (faults.Truncated (length bytes)) (decoded-shorter h.body bytes h.next h.more (body_spelled nums h.body h.is) h.split);
}

-- ---- what a link passes on

arrives_if : (nums : Nums) (keep : ℕ) (m : MarketMsg) (fits : Bool) → leb (length (spelling m.body)) keep ≡ fits → IsSound nums m
    → Arrives nums (if fits then Ok m else Err (cut_body keep (piece_of m)))
arrives_if nums keep m true fits h = h
arrives_if nums keep m false long h = record { sender = h.msg.sender; seq = h.msg.seq; front = body_cut nums keep m.body h.msg.body long }

pub arrives_cut : (nums : Nums) (keep : ℕ) (a : Arrival) → Arrives nums a → Arrives nums (cut_arrival keep a)
arrives_cut nums keep (Ok m) h = arrives_if nums keep m (nat_le (length (spelling m.body)) keep) refl h
arrives_cut nums keep (Err p) h = record { sender = h.sender; seq = h.seq; front = front_cut nums keep p.body h.front }

answered_if : (nums : Nums) (keep : ℕ) (body : List FieldData) (fits : Bool) → leb (length (spelling body)) keep ≡ fits → IsBody nums body
    → IsAnswered nums (if fits then Ok body else Err (take keep (spelling body)))
answered_if nums keep body true fits h = h
answered_if nums keep body false long h = body_cut nums keep body h long

pub answered_cut : (nums : Nums) (keep : ℕ) (a : ReplyArrival) → IsAnswered nums a → IsAnswered nums (cut_reply keep a)
answered_cut nums keep (Ok body) h = answered_if nums keep body (nat_le (length (spelling body)) keep) refl h
answered_cut nums keep (Err bytes) h = front_cut nums keep bytes h

-- ---- codes of faults

error_small : (fault : DecodeFault) → error_code fault < 2 ^ 8
error_small (faults.Truncated place) = omega arith
error_small (faults.BadTag place) = omega arith
error_small (faults.BadText place) = omega arith
error_small (faults.Repeated place) = omega arith
error_small (faults.TooMany place) = omega arith
error_small (faults.Trailing place) = omega arith
error_small (faults.OldForm place) = omega arith
error_small faults.OutOfMemory = omega arith

code_small : (r : Result (List FieldData) DecodeFault) → code_in r < 2 ^ 8
code_small (Ok fields) = omega arith
code_small (Err fault) = error_small fault

pub code_fits : (bytes : List ℕ) → code_of bytes < 2 ^ 8
code_fits bytes = code_small (decoded bytes)
