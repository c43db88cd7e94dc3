-- Messages: what is written is read, what is read is written so, and what faults there are beside.
use Rattle.std.proofs.Common.{◌≡◌, ℕ, zero, suc, ◌-◌, ◌≤◌, Bool, true, false, cond, List, [], ◌∷◌, ◌++◌, length, Some, Result, Ok, Err, refl, sym, ap, subst, ◌∙◌, append_assoc, arith, ◌⊎◌, inl, inr}
use Rattle.std.specs.Prelude.{IfOk, not}
use Rattle.std.specs.List.{flat_map, AllByRecursion}
use Rattle.std.proofs.lemmas.Bool.{or_parts, or_from, not-true, not_from_false}
use Rattle.std.proofs.lemmas.List.{append-nil, length-append}
use Rattle.std.proofs.lemmas.List.Concat.{flat_map-cons}
use Rattle.mama_msg.specs.Field.{FieldData}
use Rattle.mama_msg.specs.Message.{AreDistinct}
use Rattle.mama_payload.specs.declared.fault.Fault.{Fault}
use Rattle.mama_payload.specs.declared.fault.Rule.TheVariants as rules
use Rattle.mama_payload.specs.declared.fault.DecodeFault.{DecodeFault}
use Rattle.mama_payload.specs.declared.fault.DecodeFault.TheVariants as faults
use Rattle.mama_payload.specs.declared.version.Version.{Version}
use Rattle.mama_payload.specs.declared.version.Version.TheVariants as versions
use Rattle.mama_payload.specs.Spelling.{kind_of, is_numbers, has_numbers, version_of, first_byte, field_bytes, spelling}
use Rattle.mama_payload.specs.Spelled.{IsField, HasSpelling}
use Rattle.mama_payload.specs.Stop.{fault_at}
use Rattle.mama_payload.specs.Reading.{◌>>=◌, byte_at, limited_at, known, field_at, fields_at, version_with_byte, version_at, has_old_form, message_at, ended, placed, decoded}
use Rattle.mama_payload.proofs.Steps.{IsBytes, truncated, bind_ok, guard_ok, ok_is, Reads, Reads-then, Reads-guard}
use Rattle.mama_payload.proofs.Parts.{one, nothing_reads, nothing_before, byte_spells, front_of_one, limited_reads, limited_spells}
use Rattle.mama_payload.proofs.Keys.{next_is_new, distinct_push}
use Rattle.mama_payload.proofs.Fields.{Carries, byte_step, none_is_some, known_is, field_reads, field_spells}

-- ---- the fields of a message

fields_reads : (version : Version) (fs before : List FieldData) → AllByRecursion (Carries version) fs → AllByRecursion IsField fs → AreDistinct (before ++ fs) → Reads (fields_at version (length fs) before) (flat_map field_bytes fs) (before ++ fs)
unfolding fields_at
fields_reads version [] before own each distinct = record {
  again = λ rest. ap (λ (all : List FieldData). Ok (all, rest)) (sym (append-nil before));
  cut = λ front c rest e. absurd (nothing_before front c rest e);
}
fields_reads version (f ∷ fs) before own each distinct =
    let regrouped : (before ++ f ∷ []) ++ fs ≡ before ++ f ∷ fs = append_assoc before (f ∷ []) fs in
    let first = field_reads version before f own.0 each.0 (next_is_new before f fs distinct) in
    let others = fields_reads version fs (before ++ f ∷ []) own.1 each.1 (subst AreDistinct (sym regrouped) distinct) in
    let both = Reads-then (field_at version before) (λ _ f rest. fields_at version (length fs) (before ++ f ∷ []) rest) (field_bytes f) (flat_map field_bytes fs) f ((before ++ f ∷ []) ++ fs) first (λ _. others) in
    let text : field_bytes f ++ flat_map field_bytes fs ≡ flat_map field_bytes (f ∷ fs) = sym (flat_map-cons field_bytes f fs) in
    subst (λ (t : List ℕ). Reads (fields_at version (suc (length fs)) before) t (before ++ f ∷ fs)) text
    (subst (λ (all : List FieldData). Reads (fields_at version (suc (length fs)) before) (field_bytes f ++ flat_map field_bytes fs) all) regrouped both)

-- what was read behind these fields
record IsRead (version : Version) (n : ℕ) (before : List FieldData) (bytes : List ℕ) (all : List FieldData) (rest : List ℕ) : Type 0 where
  others : List FieldData
  all_is : all ≡ before ++ others
  parts : bytes ≡ flat_map field_bytes others ++ rest
  rest_fits : IsBytes rest
  count : length others ≡ n
  own : AllByRecursion (Carries version) others
  each : AllByRecursion IsField others
  distinct : AreDistinct all

fields_taken : (version : Version) (n : ℕ) (before : List FieldData) (bytes : List ℕ) (all : List FieldData) (rest : List ℕ) → IsBytes bytes → AreDistinct before → fields_at version n before bytes ≡ Ok (all, rest) → IsRead version n before bytes all rest
unfolding fields_at
fields_taken version zero before bytes all rest fits distinct e =
    let made : List FieldData × List ℕ = (before, bytes) in
    subst (λ (x : List FieldData × List ℕ). IsRead version 0 before bytes x.0 x.1) (ok_is made (all, rest) e) (record {
      others = [];
      all_is = sym (append-nil before);
      parts = refl;
      rest_fits = fits;
      count = refl;
      own = tt;
      each = tt;
      distinct = distinct;
    })
fields_taken version (suc n) before bytes all rest fits distinct e =
    let a = bind_ok (field_at version before bytes) (λ f. fields_at version n (before ++ f.0 ∷ []) f.1) (all, rest) e in
    let f = a.0.0 in
    let p = (field_spells version before).takes bytes f a.0.1 fits a.1 in
    let q = fields_taken version n (before ++ f ∷ []) a.0.1 all rest p.1 (distinct_push before f distinct p.2.new) a.2 in
    record {
      others = f ∷ q.others;
      all_is = q.all_is ∙ append_assoc before (f ∷ []) q.others;
      parts = p.0 ∙ ap (λ (r : List ℕ). field_bytes f ++ r) q.parts ∙ sym (append_assoc (field_bytes f) (flat_map field_bytes q.others) rest) ∙ ap (λ (t : List ℕ). t ++ rest) (sym (flat_map-cons field_bytes f q.others));
      rest_fits = q.rest_fits;
      count = ap suc q.count;
      own = (p.2.own, q.own);
      each = (p.2.field, q.each);
      distinct = q.distinct;
    }

-- ---- versions

all_new : (fs : List FieldData) → AllByRecursion (Carries versions.Two) fs
all_new [] = tt
all_new (f ∷ fs) = (refl, all_new fs)

all_old : (fs : List FieldData) → has_numbers fs ≡ false → AllByRecursion (Carries versions.One) fs
all_old [] none = tt
all_old (f ∷ fs) none =
    let p = or_parts (is_numbers (kind_of f.value)) (has_numbers fs) none in
    (not_from_false (is_numbers (kind_of f.value)) p.0, all_old fs p.1)

none_new : (fs : List FieldData) → AllByRecursion (Carries versions.One) fs → has_numbers fs ≡ false
none_new [] own = refl
none_new (f ∷ fs) own = or_from (is_numbers (kind_of f.value)) (has_numbers fs) (not-true (is_numbers (kind_of f.value)) own.0) (none_new fs own.1)

abbrev if_new : Bool → Version
if_new new = cond new versions.Two versions.One

carried : (new : Bool) (fs : List FieldData) → has_numbers fs ≡ new → AllByRecursion (Carries (if_new new)) fs × (has_old_form (if_new new) fs ≡ false)
carried true fs e = (all_new fs, ap not e)
carried false fs e = (all_old fs e, refl)

-- the version of a message has all its fields, and the message has no older form
own_version : (fs : List FieldData) → AllByRecursion (Carries (version_of fs)) fs × (has_old_form (version_of fs) fs ≡ false)
own_version fs = carried (has_numbers fs) fs refl

by_not : (b : Bool) → not b ≡ false → b ≡ true
by_not true e = refl
by_not false e = absurd cc

-- a version that has all fields of a message with no older form is its own
version_is : (version : Version) (fs : List FieldData) → AllByRecursion (Carries version) fs → has_old_form version fs ≡ false → version ≡ version_of fs
version_is versions.One fs own e = sym (ap if_new (none_new fs own))
version_is versions.Two fs own e = sym (ap if_new (by_not (has_numbers fs) e))

-- ---- a message

version_reads : (version : Version) → Reads version_at (one (first_byte version)) version
unfolding version_at
version_reads versions.One = record { again = λ rest. refl; cut = λ front c rest e. ap version_at (front_of_one 1 front c rest e) }
version_reads versions.Two = record { again = λ rest. refl; cut = λ front c rest e. ap version_at (front_of_one 2 front c rest e) }

first_byte_known : (n : ℕ) (version : Version) → version_with_byte n ≡ Some version → n ≡ first_byte version
first_byte_known n version e =
    byte_step first_byte n versions.One version _ e (λ e. byte_step first_byte n versions.Two version _ e (λ e. absurd (none_is_some version e)))

version_taken : (bytes : List ℕ) (version : Version) (rest : List ℕ) → IsBytes bytes → version_at bytes ≡ Ok (version, rest) → (bytes ≡ first_byte version ∷ rest) × IsBytes rest
unfolding version_at
version_taken bytes version rest fits e =
    let a = bind_ok (byte_at bytes) (λ byte. known (version_with_byte byte.0) bytes byte.1) (version, rest) e in
    let p = byte_spells.takes bytes a.0.0 a.0.1 fits a.1 in
    let k = known_is (version_with_byte a.0.0) bytes a.0.1 version rest a.2 in
    let byte : a.0.0 ≡ first_byte version = first_byte_known a.0.0 version k.0 in
    (p.0 ∙ ap (λ (n : ℕ). one n ++ a.0.1) byte ∙ ap (λ (r : List ℕ). first_byte version ∷ r) k.1, subst IsBytes k.1 p.1)

pub message_reads : (m : List FieldData) → HasSpelling m → Reads message_at (spelling m) m
unfolding message_at
message_reads m fits =
    let version = version_of m in
    let text : flat_map field_bytes m ++ [] ≡ flat_map field_bytes m = append-nil (flat_map field_bytes m) in
    subst (λ (t : List ℕ). Reads message_at (first_byte version ∷ length m ∷ t) m) text
    (Reads-then version_at (λ bytes version rest. limited_at 64 rest >>= λ count. fields_at version count.0 [] count.1 >>= λ fields. cond (has_old_form version fields.0) (Err (fault_at rules.OldForm bytes)) (Ok fields))
    (one (first_byte version)) (length m ∷ (flat_map field_bytes m ++ [])) version m (version_reads version)
    (λ bytes. Reads-then (limited_at 64) (λ _ count rest. fields_at version count [] rest >>= λ fields. cond (has_old_form version fields.0) (Err (fault_at rules.OldForm bytes)) (Ok fields))
    (one (length m)) (flat_map field_bytes m ++ []) (length m) m (limited_reads 64 (length m) fits.short)
    (λ _. Reads-then (fields_at version (length m) []) (λ _ fields rest. cond (has_old_form version fields) (Err (fault_at rules.OldForm bytes)) (Ok (fields, rest)))
    (flat_map field_bytes m) [] m m (fields_reads version m [] (own_version m).0 fits.each fits.distinct)
    (λ _. Reads-guard (has_old_form version m) (fault_at rules.OldForm bytes) (λ rest. Ok (m, rest)) [] m (own_version m).1 (nothing_reads m)))))

pub message_taken : (bytes : List ℕ) (m : List FieldData) (rest : List ℕ) → IsBytes bytes → message_at bytes ≡ Ok (m, rest) → (bytes ≡ spelling m ++ rest) × HasSpelling m
unfolding message_at
message_taken bytes m rest fits e =
    let a = bind_ok (version_at bytes) (λ version. limited_at 64 version.1 >>= λ count. fields_at version.0 count.0 [] count.1 >>= λ fields. cond (has_old_form version.0 fields.0) (Err (fault_at rules.OldForm bytes)) (Ok fields)) (m, rest) e in
    let version = a.0.0 in
    let b = bind_ok (limited_at 64 a.0.1) (λ count. fields_at version count.0 [] count.1 >>= λ fields. cond (has_old_form version fields.0) (Err (fault_at rules.OldForm bytes)) (Ok fields)) (m, rest) a.2 in
    let c = bind_ok (fields_at version b.0.0 [] b.0.1) (λ fields. cond (has_old_form version fields.0) (Err (fault_at rules.OldForm bytes)) (Ok fields)) (m, rest) b.2 in
    let g = guard_ok (has_old_form version c.0.0) (fault_at rules.OldForm bytes) (Ok c.0) (m, rest) c.2 in
    let same : c.0 ≡ (m, rest) = ok_is c.0 (m, rest) g.1 in
    let form : has_old_form version m ≡ false = ap (λ (x : List FieldData × List ℕ). has_old_form version x.0) (sym same) ∙ g.0 in
    let p = version_taken bytes version a.0.1 fits a.1 in
    let q = (limited_spells 64).takes a.0.1 b.0.0 b.0.1 p.1 b.1 in
    let r = fields_taken version b.0.0 [] b.0.1 m rest q.1 tt (c.1 ∙ g.1) in
    let count : b.0.0 ≡ length m = sym r.count ∙ ap length (sym r.all_is) in
    let own : version ≡ version_of m = version_is version m (subst (AllByRecursion (Carries version)) (sym r.all_is) r.own) form in
    let whole_text : bytes ≡ first_byte version ∷ b.0.0 ∷ (flat_map field_bytes r.others ++ rest) = p.0 ∙ ap (λ (t : List ℕ). first_byte version ∷ t) (q.0 ∙ ap (λ (t : List ℕ). b.0.0 ∷ t) r.parts) in (
      whole_text ∙ ap (λ (k : ℕ). first_byte version ∷ k ∷ (flat_map field_bytes r.others ++ rest)) count ∙ ap (λ (fs : List FieldData). first_byte version ∷ length m ∷ (flat_map field_bytes fs ++ rest)) (sym r.all_is)
          ∙ ap (λ (v : Version). first_byte v ∷ length m ∷ (flat_map field_bytes m ++ rest)) own,
      record { short = subst (λ (k : ℕ). k ≤ 64) count q.2; each = subst (AllByRecursion IsField) (sym r.all_is) r.each; distinct = r.distinct },
    )

-- ---- all of the bytes

-- what is spelled is read
pub decoded-spelling : (m : List FieldData) → HasSpelling m → decoded (spelling m) ≡ Ok m
decoded-spelling m fits =
    let read : message_at (spelling m) ≡ Ok (m, []) = ap message_at (sym (append-nil (spelling m))) ∙ (message_reads m fits).again [] in
    rw read refl

-- more than what is spelled is not read: the first byte after it is Trailing
pub decoded-longer : (m : List FieldData) (b : ℕ) (more : List ℕ) → HasSpelling m → decoded (spelling m ++ b ∷ more) ≡ Err (faults.Trailing (length (spelling m)))
decoded-longer m b more fits =
    let place : length (spelling m ++ b ∷ more) - suc (length more) ≡ length (spelling m) = omega (arith, length-append (spelling m) (b ∷ more)) in
    rw ((message_reads m fits).again (b ∷ more), place) refl

-- less than what is spelled is Truncated at its end
pub decoded-shorter : (m : List FieldData) (front : List ℕ) (b : ℕ) (more : List ℕ) → HasSpelling m → spelling m ≡ front ++ b ∷ more → decoded front ≡ Err (faults.Truncated (length front))
decoded-shorter m front b more fits e =
    let read : message_at front ≡ Err truncated = (message_reads m fits).cut front b more e in
    let place : length front - 0 ≡ length front = omega arith in
    rw (read, place) refl

whole_taken : (bytes : List ℕ) (read : Result (List FieldData × List ℕ) Fault) (m : List FieldData) → message_at bytes ≡ read → placed (length bytes) (read >>= ended) ≡ Ok m → message_at bytes ≡ Ok (m, [])
whole_taken bytes (Ok (fields, [])) m is e =
    let same : fields ≡ m = cc in
    is ∙ ap (λ (x : List FieldData). Ok (x, [])) same
whole_taken bytes (Ok (fields, b ∷ rest)) m is e = absurd cc
whole_taken bytes (Err f) m is e = absurd cc

-- what is read is spelled so
pub decoded_taken : (bytes : List ℕ) (m : List FieldData) → IsBytes bytes → decoded bytes ≡ Ok m → HasSpelling m × (bytes ≡ spelling m)
decoded_taken bytes m fits e =
    let p = message_taken bytes m [] fits (whole_taken bytes (message_at bytes) m refl e) in
    (p.1, p.0 ∙ append-nil (spelling m))

-- no spelling begins another
pub spellings_apart : (a b : List FieldData) (x y : List ℕ) → HasSpelling a → HasSpelling b → spelling a ++ x ≡ spelling b ++ y → (a ≡ b) × (x ≡ y)
spellings_apart a b x y fits others e =
    let first : List FieldData × List ℕ = (a, x) in
    let same = ok_is first (b, y) (sym ((message_reads a fits).again x) ∙ ap message_at e ∙ (message_reads b others).again y) in
    (ap (λ (r : List FieldData × List ℕ). r.0) same, ap (λ (r : List FieldData × List ℕ). r.1) same)

pub spellings_equal : (a b : List FieldData) → HasSpelling a → HasSpelling b → spelling a ≡ spelling b → a ≡ b
spellings_equal a b fits others e =
    let longer : spelling a ++ [] ≡ spelling b ++ [] = ap (λ (t : List ℕ). t ++ []) e in
    (spellings_apart a b [] [] fits others longer).0

-- ---- what `decode` ensures

-- the answer is what reading gives, unless memory ran out
abbrev pub IsAnswer : List ℕ → Result (List FieldData) DecodeFault → Type 0
IsAnswer bytes answer = (answer ≡ Err faults.OutOfMemory) ⊎ (answer ≡ decoded bytes)

pub found_is : (bytes : List ℕ) (answer : Result (List FieldData) DecodeFault) → IsBytes bytes → IsAnswer bytes answer → IfOk answer (λ m. HasSpelling m × (bytes ≡ spelling m))
found_is bytes (Ok m) fits (inl e) = absurd cc
found_is bytes (Ok m) fits (inr e) = decoded_taken bytes m fits (sym e)
found_is bytes (Err fault) fits is = tt

pub only_is : (bytes : List ℕ) (answer : Result (List FieldData) DecodeFault) → IsAnswer bytes answer → (m : List FieldData) → HasSpelling m → bytes ≡ spelling m → (answer ≡ Err faults.OutOfMemory) ⊎ (answer ≡ Ok m)
only_is bytes answer (inl e) m fits spelled = inl e
only_is bytes answer (inr e) m fits spelled = inr (e ∙ ap decoded spelled ∙ decoded-spelling m fits)
