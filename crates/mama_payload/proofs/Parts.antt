-- The parts of a field: each is read as it is spelled, and spelled as it is read.
use Rattle.std.proofs.Common.{◌≡◌, ℕ, ℤ, zero, suc, ◌%◌, ◌^◌, ◌<◌, ◌≤◌, Bool, true, false, cond, ltb, ◌&&◌, List, [], ◌∷◌, ◌++◌, length, take, drop, Result, Ok, Err, refl, sym, ap, subst, ◌∙◌, append_assoc, arith}
use Rattle.std.specs.List.{list_all, flat_map, AllByRecursion}
use Rattle.std.specs.Int.{Width, w8, w16, w32, w64, byte_len, from_be_bytes, to_be_bytes, cast_signed, cast_unsigned}
use Rattle.std.specs.Int.RustNames.{FitsSigned}
use mir.Val.{bits}
use Rattle.std.proofs.lemmas.Bool.{ltb-false, le-ltb, and_from}
use Rattle.std.proofs.lemmas.List.{take_at, drop_at, take-append-drop, length-append, length-take}
use Rattle.std.proofs.lemmas.List.Concat.{flat_map-cons}
use Rattle.std.proofs.lemmas.Nat.{be_bytes_2, be_bytes_4, be_bytes_8, from_be_bytes-to_be_bytes_2, from_be_bytes-to_be_bytes_4, from_be_bytes-to_be_bytes_8}
use Rattle.std.proofs.lemmas.Int.{to_z-of_z, of_z-to_z}
use Rattle.std.proofs.Math.Facts.{Fits-of_z, sfits_to_z}
use Rattle.mama_payload.specs.declared.fault.Fault.{Fault}
use Rattle.mama_payload.specs.declared.fault.Rule.TheVariants as rules
use Rattle.mama_msg.specs.declared.value.Value.TheVariants as values
use Rattle.mama_payload.specs.Spelling.{signed, value_bytes}
use Rattle.mama_payload.specs.Stop.{fault_at}
use Rattle.mama_payload.specs.Reading.{seen_as, byte_at, limited_at, number_at, signed_at, bytes_at, letters_at, flag_at, numbers_at}
use Rattle.mama_payload.proofs.Steps.{IsBytes, IsBytes-take, IsBytes-drop, IsBytes-rest, truncated, bind_ok, guard_ok, ok_is, Reads, Reads-then, Reads-seen, Spells, Spells-seen}

abbrev pub one : ℕ → List ℕ
one n = n ∷ []

-- a front of one byte is empty
pub front_of_one : (n : ℕ) (front : List ℕ) (c : ℕ) (rest : List ℕ) → one n ≡ front ++ c ∷ rest → front ≡ []
front_of_one n [] c rest e = refl
front_of_one n (x ∷ []) c rest e = absurd cc
front_of_one n (x ∷ y ∷ front) c rest e = absurd cc

abbrev nothing : List ℕ
nothing = []

pub nothing_before : (front : List ℕ) (c : ℕ) (rest : List ℕ) → nothing ≡ front ++ c ∷ rest → ⊥
nothing_before [] c rest e = cc
nothing_before (x ∷ front) c rest e = cc

-- nothing stands for what is known without reading
pub nothing_reads : {X : Type 0} (x : X) → Reads (λ bytes. Ok (x, bytes)) nothing x
nothing_reads x = record { again = λ rest. refl; cut = λ front c rest e. absurd (nothing_before front c rest e) }

pub and_parts : (a b : Bool) → (a && b) ≡ true → (a ≡ true) × (b ≡ true)
and_parts true b e = (refl, e)
and_parts false b e = absurd cc

-- a test that passed
pub choice_ok : {A : Type 0} (b : Bool) (d : Fault) (r : Result A Fault) (y : A) → cond b r (Err d) ≡ Ok y → (b ≡ true) × (r ≡ Ok y)
choice_ok true d r y e = (refl, e)
choice_ok false d r y e = absurd cc

-- ---- a byte

pub byte_reads : (n : ℕ) → Reads byte_at (one n) n
byte_reads n = record {
  again = λ rest. refl;
  cut = λ front c rest e. ap byte_at (front_of_one n front c rest e);
}

byte_taken : (bytes : List ℕ) (n : ℕ) (rest : List ℕ) → IsBytes bytes → byte_at bytes ≡ Ok (n, rest) → (bytes ≡ one n ++ rest) × IsBytes rest × (n < 2 ^ 8)
byte_taken [] n rest fits e = absurd cc
byte_taken (b ∷ bytes) n rest fits e =
    subst (λ (x : ℕ × List ℕ). (b ∷ bytes ≡ one x.0 ++ x.1) × IsBytes x.1 × (x.0 < 2 ^ 8)) (ok_is (b, bytes) (n, rest) e) (refl, IsBytes-rest b bytes fits, fits 0)

pub byte_spells : Spells byte_at one (λ n. n < 2 ^ 8)
byte_spells = record { takes = byte_taken }

-- ---- a byte up to a limit

pub limited_reads : (limit n : ℕ) → n ≤ limit → Reads (limited_at limit) (one n) n
limited_reads limit n le =
    let within : ltb limit n ≡ false = le-ltb _ _ le in
    record {
      again = λ rest. rw within refl;
      cut = λ front c rest e. ap (limited_at limit) (front_of_one n front c rest e);
    }

limited_taken : (limit : ℕ) (bytes : List ℕ) (n : ℕ) (rest : List ℕ) → IsBytes bytes → limited_at limit bytes ≡ Ok (n, rest) → (bytes ≡ one n ++ rest) × IsBytes rest × (n ≤ limit)
limited_taken limit bytes n rest fits e =
    let a = bind_ok (byte_at bytes) (λ n. cond (ltb limit n.0) (Err (fault_at rules.TooMany bytes)) (Ok n)) (n, rest) e in
    let g = guard_ok (ltb limit a.0.0) (fault_at rules.TooMany bytes) (Ok a.0) (n, rest) a.2 in
    let p = byte_taken bytes a.0.0 a.0.1 fits a.1 in
    let le : a.0.0 ≤ limit = ltb-false _ _ g.0 in
    subst (λ (x : ℕ × List ℕ). (bytes ≡ one x.0 ++ x.1) × IsBytes x.1 × (x.0 ≤ limit)) (ok_is a.0 (n, rest) g.1) (p.0, p.1, le)

pub limited_spells : (limit : ℕ) → Spells (limited_at limit) one (λ n. n ≤ limit)
limited_spells limit = record { takes = limited_taken limit }

-- ---- numbers

pub record IsWide (w : Width) (limit : ℕ) : Type 0 where
  pub len : (n : ℕ) → length (to_be_bytes w n) ≡ byte_len w
  pub back : (bytes : List ℕ) → length bytes ≡ byte_len w → IsBytes bytes → to_be_bytes w (from_be_bytes w bytes) ≡ bytes
  pub again : (n : ℕ) → n < limit → from_be_bytes w (to_be_bytes w n) ≡ n
  pub below : (bytes : List ℕ) → IsBytes bytes → from_be_bytes w bytes < limit

one_byte_back : (bytes : List ℕ) → length bytes ≡ 1 → IsBytes bytes → to_be_bytes w8 (from_be_bytes w8 bytes) ≡ bytes
one_byte_back [] len fits = absurd (omega arith)
one_byte_back (b ∷ []) len fits = let lt : b < 256 = fits 0 in let m : b % 256 ≡ b = omega arith in ap one m
one_byte_back (b ∷ c ∷ bytes) len fits = absurd (omega arith)

pub wide8 : IsWide w8 (2 ^ 8)
wide8 = record {
  len = λ n. refl;
  back = one_byte_back;
  again = λ n lt. omega arith;
  below = λ bytes fits. fits 0;
}

pub wide16 : IsWide w16 (2 ^ 16)
wide16 = record {
  len = λ n. refl;
  back = λ bytes len fits. be_bytes_2 bytes _ len fits refl;
  again = λ n lt. from_be_bytes-to_be_bytes_2 n lt;
  below = λ bytes fits. omega (arith, fits 0, fits 1);
}

pub wide32 : IsWide w32 (2 ^ 32)
wide32 = record {
  len = λ n. refl;
  back = λ bytes len fits. be_bytes_4 bytes _ len fits refl;
  again = λ n lt. from_be_bytes-to_be_bytes_4 n lt;
  below = λ bytes fits. omega (arith, fits 0, fits 1, fits 2, fits 3);
}

pub wide64 : IsWide w64 (2 ^ 64)
wide64 = record {
  len = λ n. refl;
  back = λ bytes len fits. be_bytes_8 bytes _ len fits refl;
  again = λ n lt. from_be_bytes-to_be_bytes_8 n lt;
  below = λ bytes fits. omega (arith, fits 0, fits 1, fits 2, fits 3, fits 4, fits 5, fits 6, fits 7);
}

number_cut : (w : Width) (text front : List ℕ) (c : ℕ) (rest : List ℕ) → length text ≡ byte_len w → text ≡ front ++ c ∷ rest → number_at w front ≡ Err truncated
number_cut w text front c rest len e =
    let short : length front < byte_len w = omega (arith, length-append front (c ∷ rest), ap length e) in
    let test : ltb (length front) (byte_len w) ≡ true = grind arith in
    rw test refl

pub number_reads : (w : Width) (limit : ℕ) → IsWide w limit → (n : ℕ) → n < limit → Reads (number_at w) (to_be_bytes w n) n
number_reads w limit wide n lt =
    let len = wide.len n in
    record {
      again = λ rest.
          let long : ltb (length (to_be_bytes w n ++ rest)) (byte_len w) ≡ false = le-ltb _ _ (omega (arith, length-append (to_be_bytes w n) rest)) in
          rw (long, take_at (to_be_bytes w n) rest (byte_len w) len, drop_at (to_be_bytes w n) rest (byte_len w) len, wide.again n lt) refl;
      cut = λ front c rest e. number_cut w (to_be_bytes w n) front c rest len e;
    }

number_taken : (w : Width) (limit : ℕ) → IsWide w limit → (bytes : List ℕ) (n : ℕ) (rest : List ℕ) → IsBytes bytes → number_at w bytes ≡ Ok (n, rest) → (bytes ≡ to_be_bytes w n ++ rest) × IsBytes rest × (n < limit)
number_taken w limit wide bytes n rest fits e =
    let read : ℕ × List ℕ = (from_be_bytes w (take (byte_len w) bytes), drop (byte_len w) bytes) in
    let g = guard_ok (ltb (length bytes) (byte_len w)) truncated (Ok read) (n, rest) e in
    let long : byte_len w ≤ length bytes = ltb-false _ _ g.0 in
    let front : to_be_bytes w read.0 ≡ take (byte_len w) bytes = wide.back (take (byte_len w) bytes) (omega (arith, length-take (byte_len w) bytes)) (IsBytes-take (byte_len w) bytes fits) in
    subst (λ (x : ℕ × List ℕ). (bytes ≡ to_be_bytes w x.0 ++ x.1) × IsBytes x.1 × (x.0 < limit)) (ok_is read (n, rest) g.1)
    (rw front (sym (take-append-drop (byte_len w) bytes)), IsBytes-drop (byte_len w) bytes fits, wide.below (take (byte_len w) bytes) (IsBytes-take (byte_len w) bytes fits))

pub number_spells : (w : Width) (limit : ℕ) → IsWide w limit → Spells (number_at w) (to_be_bytes w) (λ n. n < limit)
number_spells w limit wide = record { takes = number_taken w limit wide }

pub signed_reads : (w : Width) → IsWide w (2 ^ bits w) → (z : ℤ) → FitsSigned w z → Reads (signed_at w) (signed w z) z
signed_reads w wide z fits =
    let back : cast_signed w (cast_unsigned w z) ≡ z = to_z-of_z w z fits in
    let below : cast_unsigned w z < 2 ^ bits w = (Fits-of_z fits).fits in
    subst (λ (y : ℤ). Reads (signed_at w) (signed w z) y) back (Reads-seen (number_at w) (cast_signed w) (signed w z) (cast_unsigned w z) (number_reads w (2 ^ bits w) wide (cast_unsigned w z) below))

pub signed_spells : (w : Width) → IsWide w (2 ^ bits w) → Spells (signed_at w) (signed w) (FitsSigned w)
signed_spells w wide = Spells-seen (number_at w) (cast_signed w) (to_be_bytes w) (signed w) (λ n. n < 2 ^ bits w) (FitsSigned w) (number_spells w (2 ^ bits w) wide)
    (λ n lt. (ap (to_be_bytes w) (sym (of_z-to_z w n lt)), sfits_to_z (record { fits = lt })))

-- ---- bytes of any kind

pub bytes_reads : (block : List ℕ) → Reads (bytes_at (length block)) block block
bytes_reads block = record {
  again = λ rest.
      let long : ltb (length (block ++ rest)) (length block) ≡ false = le-ltb _ _ (omega (arith, length-append block rest)) in
      rw (long, take_at block rest (length block) refl, drop_at block rest (length block) refl) refl;
  cut = λ front c rest e.
      let short : length front < length block = omega (arith, length-append front (c ∷ rest), ap length e) in
      let test : ltb (length front) (length block) ≡ true = grind arith in
      rw test refl;
}

bytes_taken : (n : ℕ) (bytes block rest : List ℕ) → IsBytes bytes → bytes_at n bytes ≡ Ok (block, rest) → (bytes ≡ block ++ rest) × IsBytes rest × (length block ≡ n)
bytes_taken n bytes block rest fits e =
    let read : List ℕ × List ℕ = (take n bytes, drop n bytes) in
    let g = guard_ok (ltb (length bytes) n) truncated (Ok read) (block, rest) e in
    let long : n ≤ length bytes = ltb-false _ _ g.0 in
    subst (λ (x : List ℕ × List ℕ). (bytes ≡ x.0 ++ x.1) × IsBytes x.1 × (length x.0 ≡ n)) (ok_is read (block, rest) g.1)
    (sym (take-append-drop n bytes), IsBytes-drop n bytes fits, omega (arith, length-take n bytes))

pub bytes_spells : (n : ℕ) → Spells (bytes_at n) (λ block. block) (λ block. length block ≡ n)
bytes_spells n = record { takes = bytes_taken n }

-- ---- letters

pub letters_again : (test : ℕ → Bool) (letters rest : List ℕ) → list_all test letters ≡ true → letters_at test (length letters) (letters ++ rest) ≡ Ok (letters, rest)
unfolding letters_at
letters_again test [] rest all = refl
letters_again test (b ∷ letters) rest all =
    let both = and_parts (test b) (list_all test letters) all in
    rw (both.0, letters_again test letters rest both.1) refl

letters_cut : (test : ℕ → Bool) (letters front : List ℕ) (c : ℕ) (rest : List ℕ) → list_all test letters ≡ true → letters ≡ front ++ c ∷ rest → letters_at test (length letters) front ≡ Err truncated
unfolding letters_at
letters_cut test [] [] c rest all e = absurd cc
letters_cut test [] (x ∷ front) c rest all e = absurd cc
letters_cut test (b ∷ letters) [] c rest all e = refl
letters_cut test (b ∷ letters) (x ∷ front) c rest all e =
    let both = and_parts (test b) (list_all test letters) all in
    let same : b ≡ x = cc in
    let others : letters ≡ front ++ c ∷ rest = cc in
    let passes : test x ≡ true = ap test (sym same) ∙ both.0 in
    rw (passes, letters_cut test letters front c rest both.1 others) refl

letters_taken : (test : ℕ → Bool) (n : ℕ) (bytes letters rest : List ℕ) → IsBytes bytes → letters_at test n bytes ≡ Ok (letters, rest) → (bytes ≡ letters ++ rest) × IsBytes rest × ((length letters ≡ n) × (list_all test letters ≡ true))
unfolding letters_at
letters_taken test zero bytes letters rest fits e =
    subst (λ (x : List ℕ × List ℕ). (bytes ≡ x.0 ++ x.1) × IsBytes x.1 × ((length x.0 ≡ 0) × (list_all test x.0 ≡ true))) (ok_is ([], bytes) (letters, rest) e) (refl, fits, (refl, refl))
letters_taken test (suc n) [] letters rest fits e = absurd cc
letters_taken test (suc n) (b ∷ bytes) letters rest fits e =
    let g = choice_ok (test b) (fault_at rules.BadText (b ∷ bytes)) (seen_as (λ others. b ∷ others) (letters_at test n bytes)) (letters, rest) e in
    let a = bind_ok (letters_at test n bytes) (λ x. Ok (b ∷ x.0, x.1)) (letters, rest) g.1 in
    let p = letters_taken test n bytes a.0.0 a.0.1 (IsBytes-rest b bytes fits) a.1 in
    let made : List ℕ × List ℕ = (b ∷ a.0.0, a.0.1) in
    subst (λ (x : List ℕ × List ℕ). (b ∷ bytes ≡ x.0 ++ x.1) × IsBytes x.1 × ((length x.0 ≡ suc n) × (list_all test x.0 ≡ true))) (ok_is made (letters, rest) a.2)
    (ap (λ (r : List ℕ). b ∷ r) p.0, p.1, (ap suc p.2.0, and_from (test b) (list_all test a.0.0) g.0 p.2.1))

pub letters_reads : (test : ℕ → Bool) (letters : List ℕ) → list_all test letters ≡ true → Reads (letters_at test (length letters)) letters letters
letters_reads test letters all = record {
  again = λ rest. letters_again test letters rest all;
  cut = λ front c rest e. letters_cut test letters front c rest all e;
}

pub letters_spells : (test : ℕ → Bool) (n : ℕ) → Spells (letters_at test n) (λ letters. letters) (λ letters. (length letters ≡ n) × (list_all test letters ≡ true))
letters_spells test n = record { takes = letters_taken test n }

-- ---- a flag

pub flag_reads : (b : Bool) → Reads flag_at (value_bytes (values.Bool b)) b
flag_reads false = record { again = λ rest. refl; cut = λ front c rest e. ap flag_at (front_of_one 0 front c rest e) }
flag_reads true = record { again = λ rest. refl; cut = λ front c rest e. ap flag_at (front_of_one 1 front c rest e) }

flag_taken : (bytes : List ℕ) (b : Bool) (rest : List ℕ) → IsBytes bytes → flag_at bytes ≡ Ok (b, rest) → (bytes ≡ value_bytes (values.Bool b) ++ rest) × IsBytes rest × Unit {0}
flag_taken [] b rest fits e = absurd cc
flag_taken (zero ∷ bytes) b rest fits e =
    subst (λ (x : Bool × List ℕ). (0 ∷ bytes ≡ value_bytes (values.Bool x.0) ++ x.1) × IsBytes x.1 × Unit {0}) (ok_is (false, bytes) (b, rest) e) (refl, IsBytes-rest 0 bytes fits, tt)
flag_taken (suc zero ∷ bytes) b rest fits e =
    subst (λ (x : Bool × List ℕ). (1 ∷ bytes ≡ value_bytes (values.Bool x.0) ++ x.1) × IsBytes x.1 × Unit {0}) (ok_is (true, bytes) (b, rest) e) (refl, IsBytes-rest 1 bytes fits, tt)
flag_taken (suc (suc n) ∷ bytes) b rest fits e = absurd cc

pub flag_spells : Spells flag_at (λ b. value_bytes (values.Bool b)) (λ b. Unit {0})
flag_spells = record { takes = flag_taken }

-- ---- lists of numbers

pub numbers_reads : (zs : List ℤ) → AllByRecursion (FitsSigned w64) zs → Reads (numbers_at (length zs)) (flat_map (signed w64) zs) zs
unfolding numbers_at
numbers_reads [] fits = nothing_reads []
numbers_reads (z ∷ zs) fits =
    let text : signed w64 z ++ flat_map (signed w64) zs ≡ flat_map (signed w64) (z ∷ zs) = sym (flat_map-cons (signed w64) z zs) in
    subst (λ (t : List ℕ). Reads (numbers_at (suc (length zs))) t (z ∷ zs)) text
    (Reads-then (signed_at w64) (λ _ z rest. seen_as (λ others. z ∷ others) (numbers_at (length zs) rest)) (signed w64 z) (flat_map (signed w64) zs) z (z ∷ zs) (signed_reads w64 wide64 z fits.0)
    (λ _. Reads-seen (numbers_at (length zs)) (λ others. z ∷ others) (flat_map (signed w64) zs) zs (numbers_reads zs fits.1)))

numbers_taken : (n : ℕ) (bytes : List ℕ) (zs : List ℤ) (rest : List ℕ) → IsBytes bytes → numbers_at n bytes ≡ Ok (zs, rest)
    → (bytes ≡ flat_map (signed w64) zs ++ rest) × IsBytes rest × ((length zs ≡ n) × AllByRecursion (FitsSigned w64) zs)
unfolding numbers_at
numbers_taken zero bytes zs rest fits e =
    let made : List ℤ × List ℕ = ([], bytes) in
    subst (λ (x : List ℤ × List ℕ). (bytes ≡ flat_map (signed w64) x.0 ++ x.1) × IsBytes x.1 × ((length x.0 ≡ 0) × AllByRecursion (FitsSigned w64) x.0)) (ok_is made (zs, rest) e) (refl, fits, (refl, tt))
numbers_taken (suc n) bytes zs rest fits e =
    let a = bind_ok (signed_at w64 bytes) (λ z. seen_as (λ others. z.0 ∷ others) (numbers_at n z.1)) (zs, rest) e in
    let p = (signed_spells w64 wide64).takes bytes a.0.0 a.0.1 fits a.1 in
    let b = bind_ok (numbers_at n a.0.1) (λ x. Ok (a.0.0 ∷ x.0, x.1)) (zs, rest) a.2 in
    let q = numbers_taken n a.0.1 b.0.0 b.0.1 p.1 b.1 in
    let made : List ℤ × List ℕ = (a.0.0 ∷ b.0.0, b.0.1) in
    let text : bytes ≡ flat_map (signed w64) (a.0.0 ∷ b.0.0) ++ b.0.1 =
    p.0 ∙ ap (λ (r : List ℕ). signed w64 a.0.0 ++ r) q.0 ∙ sym (append_assoc (signed w64 a.0.0) (flat_map (signed w64) b.0.0) b.0.1) ∙ ap (λ (t : List ℕ). t ++ b.0.1) (sym (flat_map-cons (signed w64) a.0.0 b.0.0)) in
    subst (λ (x : List ℤ × List ℕ). (bytes ≡ flat_map (signed w64) x.0 ++ x.1) × IsBytes x.1 × ((length x.0 ≡ suc n) × AllByRecursion (FitsSigned w64) x.0)) (ok_is made (zs, rest) b.2)
    (text, q.1, (ap suc q.2.0, (p.2, q.2.1)))

pub numbers_spells : (n : ℕ) → Spells (numbers_at n) (flat_map (signed w64)) (λ zs. (length zs ≡ n) × AllByRecursion (FitsSigned w64) zs)
numbers_spells n = record { takes = numbers_taken n }
