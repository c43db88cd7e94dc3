-- What more bytes behind the input change, part by part.
use Rattle.std.proofs.Common.{◌≡◌, ◌≢◌, ℕ, zero, suc, ◌≤◌, Bool, true, false, cond, ltb, eqb, ◌&&◌, List, [], ◌∷◌, ◌++◌, length, take, drop, Option, Some, None, Ok, Err, refl, sym, ap, arith}
use Rattle.std.specs.Int.{Width, w8, w16, w32, w64, byte_len, from_be_bytes, cast_signed}
use Rattle.std.proofs.lemmas.Bool.{ltb-false, le-ltb}
use Rattle.std.proofs.lemmas.List.{length-append, length-drop, take-append-le, drop-append-le}
use Rattle.mama_msg.specs.declared.value.Value.TheVariants as values
use Rattle.mama_msg.specs.Name.{is_name_byte}
use Rattle.mama_msg.specs.Value.{is_printable}
use Rattle.mama_msg.specs.Field.{FieldData, key_from}
use Rattle.mama_msg.specs.Message.{has_key}
use Rattle.mama_payload.specs.declared.kind.Kind.{Kind}
use Rattle.mama_payload.specs.declared.kind.Kind.TheVariants as kinds
use Rattle.mama_payload.specs.declared.version.Version.{Version}
use Rattle.mama_payload.specs.declared.fault.Rule.TheVariants as rules
use Rattle.mama_payload.specs.declared.fault.Fault.{Fault}
use Rattle.mama_payload.specs.Stop.{fault_at}
use Rattle.mama_payload.specs.Reading.{◌>>=◌, seen_as, byte_at, limited_at, number_at, signed_at, bytes_at, letters_at, flag_at, text_at, block_at, price_at, numbers_at, list_at, value_at, kind_in, known, kind_at, name_at, field_at, fields_at, version_with_byte, version_at, has_old_form, message_at}
use Rattle.mama_payload.proofs.Steps.{Reader, truncated, guard_ok, ok_is}
use Rattle.mama_payload.proofs.Going.{Within, Goes, Goes-then, Goes-closed, Goes-ok, Goes-fails, Goes-cond, Goes-seen, Goes-like, read_as, failed_is}

-- ---- bytes and numbers

byte_ok : (bytes more : List ℕ) (n : ℕ) (rest : List ℕ) → byte_at bytes ≡ Ok (n, rest) → byte_at (bytes ++ more) ≡ Ok (n, rest ++ more)
byte_ok [] more n rest e = absurd cc
byte_ok (b ∷ bytes) more n rest e =
    let made : ℕ × List ℕ = (b, bytes) in
    ap (λ (r : ℕ × List ℕ). read_as r.0 (r.1 ++ more)) (ok_is made (n, rest) e)

byte_stops : (bytes : List ℕ) (f : Fault) → byte_at bytes ≡ Err f → truncated ≡ f
byte_stops [] f e = failed_is {X = ℕ × List ℕ} truncated f e
byte_stops (b ∷ bytes) f e = absurd cc

byte_shorter : (bytes : List ℕ) (n : ℕ) (rest : List ℕ) → byte_at bytes ≡ Ok (n, rest) → length rest ≤ length bytes
byte_shorter [] n rest e = absurd cc
byte_shorter (b ∷ bytes) n rest e =
    let made : ℕ × List ℕ = (b, bytes) in
    let same : bytes ≡ rest = ap (λ (r : ℕ × List ℕ). r.1) (ok_is made (n, rest) e) in
    omega (arith, ap length same)

byte_goes : Goes (λ _. byte_at)
byte_goes = record {
  ok = λ whole bytes more n rest e. byte_ok bytes more n rest e;
  err = λ whole bytes more f e other. absurd (other (sym (ap (λ (d : Fault). d.rule) (byte_stops bytes f e))));
  shorter = λ whole bytes n rest e. byte_shorter bytes n rest e;
  within = λ whole bytes f e le. omega (arith, ap (λ (d : Fault). d.left) (byte_stops bytes f e));
  end = λ whole bytes f e is. sym (ap (λ (d : Fault). d.left) (byte_stops bytes f e));
}

-- so many bytes, seen by view, or the end
abbrev front_at : {X : Type 0} → ℕ → (List ℕ → X) → Reader X
front_at n view bytes = cond (ltb (length bytes) n) (Err truncated) (Ok (view (take n bytes), drop n bytes))

front_stops : {X : Type 0} (b : Bool) (r : X × List ℕ) (f : Fault) → cond b (Err truncated) (Ok r) ≡ Err f → truncated ≡ f
front_stops {X} true r f e = failed_is {X = X × List ℕ} truncated f e
front_stops false r f e = absurd cc

front_goes : {X : Type 0} (n : ℕ) (view : List ℕ → X) → Goes (λ _. front_at n view)
front_goes {X} n view = record {
  ok = λ whole bytes more x rest e.
      let read : X × List ℕ = (view (take n bytes), drop n bytes) in
      let g = guard_ok (ltb (length bytes) n) truncated (Ok read) (x, rest) e in
      let le : n ≤ length bytes = ltb-false _ _ g.0 in
      let long : ltb (length (bytes ++ more)) n ≡ false = le-ltb _ _ (omega (arith, length-append bytes more)) in
      rw (long, take-append-le n bytes more le, drop-append-le n bytes more le) (ap (λ (r : X × List ℕ). read_as r.0 (r.1 ++ more)) (ok_is read (x, rest) g.1));
  err = λ whole bytes more f e other. absurd (other (sym (ap (λ (d : Fault). d.rule) (front_stops (ltb (length bytes) n) (view (take n bytes), drop n bytes) f e))));
  shorter = λ whole bytes x rest e.
      let read : X × List ℕ = (view (take n bytes), drop n bytes) in
      let g = guard_ok (ltb (length bytes) n) truncated (Ok read) (x, rest) e in
      let same : drop n bytes ≡ rest = ap (λ (r : X × List ℕ). r.1) (ok_is read (x, rest) g.1) in
      omega (arith, ap length same, length-drop n bytes);
  within = λ whole bytes f e le. omega (arith, ap (λ (d : Fault). d.left) (front_stops (ltb (length bytes) n) (view (take n bytes), drop n bytes) f e));
  end = λ whole bytes f e is. sym (ap (λ (d : Fault). d.left) (front_stops (ltb (length bytes) n) (view (take n bytes), drop n bytes) f e));
}

too_many : rules.TooMany ≢ rules.Truncated
too_many e = cc

bad_tag : rules.BadTag ≢ rules.Truncated
bad_tag e = cc

bad_text : rules.BadText ≢ rules.Truncated
bad_text e = cc

repeated : rules.Repeated ≢ rules.Truncated
repeated e = cc

old_form : rules.OldForm ≢ rules.Truncated
old_form e = cc

limited_goes : (limit : ℕ) → Goes (λ _. limited_at limit)
limited_goes limit =
    Goes-closed (λ whole bytes. byte_at bytes >>= λ n. cond (ltb limit n.0) (Err (fault_at rules.TooMany whole)) (Ok n))
    (Goes-then (λ _. byte_at) (λ whole n rest. cond (ltb limit n) (Err (fault_at rules.TooMany whole)) (Ok (n, rest))) byte_goes
    (λ n. Goes-cond (ltb limit n) (λ whole _. Err (fault_at rules.TooMany whole)) (λ _ rest. Ok (n, rest)) (Goes-fails rules.TooMany too_many) (Goes-ok n)))

number_goes : (w : Width) → Goes (λ _. number_at w)
number_goes w = front_goes (byte_len w) (from_be_bytes w)

bytes_goes : (n : ℕ) → Goes (λ _. bytes_at n)
bytes_goes n = front_goes n (λ block. block)

signed_goes : (w : Width) → Goes (λ _. signed_at w)
signed_goes w = Goes-seen (λ _. number_at w) (cast_signed w) (number_goes w)

letters_none : (test : ℕ → Bool) → Goes (λ _. letters_at test 0)
unfolding letters_at
letters_none test = Goes-ok []

letter_more : (test : ℕ → Bool) (n b : ℕ) → Goes (λ _. letters_at test n) → Goes (λ whole rest. cond (test b) (seen_as (λ letters. b ∷ letters) (letters_at test n rest)) (Err (fault_at rules.BadText whole)))
letter_more test n b others =
    Goes-cond (test b) (λ _ rest. seen_as (λ letters. b ∷ letters) (letters_at test n rest)) (λ whole _. Err (fault_at rules.BadText whole)) (Goes-seen (λ _. letters_at test n) (λ letters. b ∷ letters) others) (Goes-fails rules.BadText bad_text)

-- letters, as a byte and the letters after it
letters_by_byte : (test : ℕ → Bool) (n : ℕ) (bytes : List ℕ) → letters_at test (suc n) bytes ≡ byte_at bytes >>= λ b. cond (test b.0) (seen_as (λ letters. b.0 ∷ letters) (letters_at test n b.1)) (Err (fault_at rules.BadText bytes))
unfolding letters_at
letters_by_byte test n [] = refl
letters_by_byte test n (b ∷ bytes) = refl

letters_more : (test : ℕ → Bool) (n : ℕ) → Goes (λ _. letters_at test n) → Goes (λ _. letters_at test (suc n))
letters_more test n others =
    Goes-like (λ bytes. byte_at bytes >>= λ b. cond (test b.0) (seen_as (λ letters. b.0 ∷ letters) (letters_at test n b.1)) (Err (fault_at rules.BadText bytes))) (letters_at test (suc n)) (λ bytes. sym (letters_by_byte test n bytes))
    (Goes-closed (λ whole bytes. byte_at bytes >>= λ b. cond (test b.0) (seen_as (λ letters. b.0 ∷ letters) (letters_at test n b.1)) (Err (fault_at rules.BadText whole)))
    (Goes-then (λ _. byte_at) (λ whole b rest. cond (test b) (seen_as (λ letters. b ∷ letters) (letters_at test n rest)) (Err (fault_at rules.BadText whole))) byte_goes (λ b. letter_more test n b others)))

letters_goes : (test : ℕ → Bool) (n : ℕ) → Goes (λ _. letters_at test n)
letters_goes test zero = letters_none test
letters_goes test (suc n) = letters_more test n (letters_goes test n)

-- a flag, as a byte and what it says
abbrev flag_of : ℕ → Within Bool
flag_of zero whole rest = Ok (false, rest)
flag_of (suc zero) whole rest = Ok (true, rest)
flag_of (suc (suc b)) whole rest = Err (fault_at rules.BadTag whole)

flag_by_byte : (bytes : List ℕ) → (byte_at bytes >>= λ b. flag_of b.0 bytes b.1) ≡ flag_at bytes
flag_by_byte [] = refl
flag_by_byte (zero ∷ bytes) = refl
flag_by_byte (suc zero ∷ bytes) = refl
flag_by_byte (suc (suc b) ∷ bytes) = refl

flag_of_goes : (b : ℕ) → Goes (λ whole rest. flag_of b whole rest)
flag_of_goes zero = Goes-ok false
flag_of_goes (suc zero) = Goes-ok true
flag_of_goes (suc (suc b)) = Goes-fails rules.BadTag bad_tag

flag_goes : Goes (λ _. flag_at)
flag_goes =
    Goes-like (λ bytes. byte_at bytes >>= λ b. flag_of b.0 bytes b.1) flag_at flag_by_byte
    (Goes-closed (λ whole bytes. byte_at bytes >>= λ b. flag_of b.0 whole b.1) (Goes-then (λ _. byte_at) (λ whole b rest. flag_of b whole rest) byte_goes flag_of_goes))

text_goes : Goes (λ _. text_at)
unfolding text_at
text_goes = Goes-then (λ _. byte_at) (λ _ n rest. letters_at is_printable n rest) byte_goes (λ n. letters_goes is_printable n)

block_goes : Goes (λ _. block_at)
unfolding block_at
block_goes = Goes-then (λ _. byte_at) (λ _ n rest. bytes_at n rest) byte_goes (λ n. bytes_goes n)

price_goes : Goes (λ _. price_at)
unfolding price_at
price_goes =
    Goes-then (λ _. signed_at w64) (λ _ mantissa rest. seen_as (λ decimals. record { mantissa = mantissa; decimals = decimals }) (limited_at 18 rest)) (signed_goes w64)
    (λ mantissa. Goes-seen (λ _. limited_at 18) (λ decimals. record { mantissa = mantissa; decimals = decimals }) (limited_goes 18))

numbers_goes : (n : ℕ) → Goes (λ _. numbers_at n)
unfolding numbers_at
numbers_goes zero = Goes-ok []
numbers_goes (suc n) =
    Goes-then (λ _. signed_at w64) (λ _ z rest. seen_as (λ zs. z ∷ zs) (numbers_at n rest)) (signed_goes w64) (λ z. Goes-seen (λ _. numbers_at n) (λ zs. z ∷ zs) (numbers_goes n))

list_goes : Goes (λ _. list_at)
unfolding list_at
list_goes = Goes-then (λ _. limited_at 24) (λ _ n rest. numbers_at n rest) (limited_goes 24) (λ n. numbers_goes n)

value_goes : (kind : Kind) → Goes (λ _. value_at kind)
unfolding value_at
value_goes kinds.Bool = Goes-seen (λ _. flag_at) values.Bool flag_goes
value_goes kinds.Char = Goes-seen (λ _. byte_at) values.Char byte_goes
value_goes kinds.I8 = Goes-seen (λ _. signed_at w8) values.I8 (signed_goes w8)
value_goes kinds.I16 = Goes-seen (λ _. signed_at w16) values.I16 (signed_goes w16)
value_goes kinds.I32 = Goes-seen (λ _. signed_at w32) values.I32 (signed_goes w32)
value_goes kinds.I64 = Goes-seen (λ _. signed_at w64) values.I64 (signed_goes w64)
value_goes kinds.U8 = Goes-seen (λ _. byte_at) values.U8 byte_goes
value_goes kinds.U16 = Goes-seen (λ _. number_at w16) values.U16 (number_goes w16)
value_goes kinds.U32 = Goes-seen (λ _. number_at w32) values.U32 (number_goes w32)
value_goes kinds.U64 = Goes-seen (λ _. number_at w64) values.U64 (number_goes w64)
value_goes kinds.Text = Goes-seen (λ _. text_at) values.Text text_goes
value_goes kinds.Bytes = Goes-seen (λ _. block_at) values.Bytes block_goes
value_goes kinds.Price = Goes-seen (λ _. price_at) values.Price price_goes
value_goes kinds.Moment = Goes-seen (λ _. number_at w64) values.Moment (number_goes w64)
value_goes kinds.Numbers = Goes-seen (λ _. list_at) values.Numbers list_goes

known_goes : {X : Type 0} (found : Option X) → Goes (λ whole rest. known found whole rest)
known_goes None = Goes-fails rules.BadTag bad_tag
known_goes (Some x) = Goes-ok x

kind_goes : (version : Version) → Goes (λ _. kind_at version)
unfolding kind_at
kind_goes version =
    Goes-closed (λ whole bytes. byte_at bytes >>= λ tag. known (kind_in version tag.0) whole tag.1)
    (Goes-then (λ _. byte_at) (λ whole tag rest. known (kind_in version tag) whole rest) byte_goes (λ tag. known_goes (kind_in version tag)))

name_goes : (fid : ℕ) → Goes (λ _. name_at fid)
unfolding name_at
name_goes fid =
    Goes-closed (λ whole bytes. limited_at 32 bytes >>= λ n. cond (eqb n.0 0 && eqb fid 0) (Err (fault_at rules.BadText whole)) (letters_at is_name_byte n.0 n.1))
    (Goes-then (λ _. limited_at 32) (λ whole n rest. cond (eqb n 0 && eqb fid 0) (Err (fault_at rules.BadText whole)) (letters_at is_name_byte n rest)) (limited_goes 32)
    (λ n. Goes-cond (eqb n 0 && eqb fid 0) (λ whole _. Err (fault_at rules.BadText whole)) (λ _. letters_at is_name_byte n) (Goes-fails rules.BadText bad_text) (letters_goes is_name_byte n)))

-- a field, of which the bytes are the end of all that may be faulty
abbrev field_within : Version → List FieldData → Within FieldData
field_within version before whole bytes =
    kind_at version bytes >>= λ kind. number_at w16 kind.1 >>= λ fid. name_at fid.0 fid.1 >>= λ name.
    seen_as (λ value. record { fid = fid.0; name = name.0; value = value }) (cond (has_key (key_from fid.0 name.0) before) (Err (fault_at rules.Repeated whole)) (value_at kind.0 name.1))

field_goes : (version : Version) (before : List FieldData) → Goes (λ _. field_at version before)
unfolding field_at
field_goes version before =
    Goes-closed (field_within version before)
    (Goes-then (λ _. kind_at version) (λ whole kind rest. number_at w16 rest >>= λ fid. name_at fid.0 fid.1 >>= λ name.
    seen_as (λ value. record { fid = fid.0; name = name.0; value = value }) (cond (has_key (key_from fid.0 name.0) before) (Err (fault_at rules.Repeated whole)) (value_at kind name.1)))
    (kind_goes version)
    (λ kind. Goes-then (λ _. number_at w16) (λ whole fid rest. name_at fid rest >>= λ name.
    seen_as (λ value. record { fid = fid; name = name.0; value = value }) (cond (has_key (key_from fid name.0) before) (Err (fault_at rules.Repeated whole)) (value_at kind name.1)))
    (number_goes w16)
    (λ fid. Goes-then (λ _. name_at fid) (λ whole name rest.
    seen_as (λ value. record { fid = fid; name = name; value = value }) (cond (has_key (key_from fid name) before) (Err (fault_at rules.Repeated whole)) (value_at kind rest)))
    (name_goes fid)
    (λ name. Goes-seen (λ whole rest. cond (has_key (key_from fid name) before) (Err (fault_at rules.Repeated whole)) (value_at kind rest)) (λ value. record { fid = fid; name = name; value = value })
    (Goes-cond (has_key (key_from fid name) before) (λ whole _. Err (fault_at rules.Repeated whole)) (λ _. value_at kind) (Goes-fails rules.Repeated repeated) (value_goes kind))))))

fields_goes : (version : Version) (n : ℕ) (before : List FieldData) → Goes (λ _. fields_at version n before)
unfolding fields_at
fields_goes version zero before = Goes-ok before
fields_goes version (suc n) before =
    Goes-then (λ _. field_at version before) (λ _ f rest. fields_at version n (before ++ f ∷ []) rest) (field_goes version before) (λ f. fields_goes version n (before ++ f ∷ []))

version_goes : Goes (λ _. version_at)
unfolding version_at
version_goes =
    Goes-closed (λ whole bytes. byte_at bytes >>= λ byte. known (version_with_byte byte.0) whole byte.1)
    (Goes-then (λ _. byte_at) (λ whole byte rest. known (version_with_byte byte) whole rest) byte_goes (λ byte. known_goes (version_with_byte byte)))

-- a message, of which the bytes are the end of all that may be faulty
abbrev message_within : Within (List FieldData)
message_within whole bytes =
    version_at bytes >>= λ version. limited_at 64 version.1 >>= λ count. fields_at version.0 count.0 [] count.1 >>= λ fields.
    cond (has_old_form version.0 fields.0) (Err (fault_at rules.OldForm whole)) (Ok fields)

pub message_goes : Goes (λ _. message_at)
unfolding message_at
message_goes =
    Goes-closed message_within
    (Goes-then (λ _. version_at) (λ whole version rest. limited_at 64 rest >>= λ count. fields_at version count.0 [] count.1 >>= λ fields. cond (has_old_form version fields.0) (Err (fault_at rules.OldForm whole)) (Ok fields))
    version_goes
    (λ version. Goes-then (λ _. limited_at 64) (λ whole count rest. fields_at version count [] rest >>= λ fields. cond (has_old_form version fields.0) (Err (fault_at rules.OldForm whole)) (Ok fields))
    (limited_goes 64)
    (λ count. Goes-then (λ _. fields_at version count []) (λ whole fields rest. cond (has_old_form version fields) (Err (fault_at rules.OldForm whole)) (Ok (fields, rest)))
    (fields_goes version count [])
    (λ fields. Goes-cond (has_old_form version fields) (λ whole _. Err (fault_at rules.OldForm whole)) (λ _ rest. Ok (fields, rest)) (Goes-fails rules.OldForm old_form) (Goes-ok fields)))))
