-- Fields one after another, as loops read and write them.
use Rattle.std.proofs.Common.{◌≡◌, ℕ, ℤ, suc, ◌+◌, ◌-◌, ◌<◌, ◌≤◌, true, false, ◌||◌, List, [], ◌∷◌, ◌++◌, length, take, drop, set, append_assoc, Some, Result, Ok, Err, refl, sym, ap, ◌∙◌, arith}
use Rattle.std.specs.List.{flat_map, AllByRecursion, slice_get}
use Rattle.std.proofs.lemmas.Grind.{flat_map-append}
use Rattle.std.proofs.lemmas.List.{append-nil, take_more, take_more_set, take-append-drop}
use Rattle.std.proofs.lemmas.List.Folds.{list_any-append}
use Rattle.std.proofs.lemmas.Bool.{or_left, or_right, or_from}
use Rattle.std.specs.Int.{w64}
use Rattle.std.proofs.lemmas.Option.{slice_get_within, get_or_from_slice_get}
use Rattle.std.proofs.lemmas.List.Concat.{flat_map-cons}
use Rattle.mama_msg.specs.Field.{FieldData}
use Rattle.mama_payload.specs.declared.version.Version.{Version}
use Rattle.mama_payload.specs.declared.fault.Fault.{Fault}
use Rattle.mama_payload.specs.declared.fault.Stop.{Stop}
use Rattle.mama_payload.specs.declared.fault.Stop.TheVariants as stops
use Rattle.mama_payload.specs.Giving.{Stops}
use Rattle.mama_payload.specs.Reading.{seen_as, signed_at, field_at, fields_at, numbers_at}
use Rattle.mama_payload.specs.Spelling.{kind_of, is_numbers, has_numbers}

-- ---- reading

pub goes_on : (version : Version) (count i : ℕ) (before : List FieldData) (bytes : List ℕ) (f : FieldData) (after : List ℕ) (total : Result (List FieldData × List ℕ) Fault)
    → i < count → field_at version before bytes ≡ Ok (f, after) → fields_at version (count - i) before bytes ≡ total → fields_at version (count - (i + 1)) (before ++ f ∷ []) after ≡ total
unfolding fields_at
goes_on version count i before bytes f after total lt read so_far =
    let k : count - i ≡ suc (count - (i + 1)) = omega arith in
    let one : fields_at version (count - i) before bytes ≡ fields_at version (count - (i + 1)) (before ++ f ∷ []) after = rw (k, read) refl in
    sym one ∙ so_far

pub stops_there : (stop : Stop) (version : Version) (count i : ℕ) (before : List FieldData) (bytes : List ℕ) (total : Result (List FieldData × List ℕ) Fault)
    → i < count → Stops stop (field_at version before bytes) → fields_at version (count - i) before bytes ≡ total → Stops stop total
unfolding fields_at
stops_there stops.OutOfMemory version count i before bytes total lt read so_far = tt
stops_there (stops.Fault fault) version count i before bytes total lt read so_far =
    let k : count - i ≡ suc (count - (i + 1)) = omega arith in
    let one : fields_at version (count - i) before bytes ≡ Err fault = rw (k, read) refl in
    sym so_far ∙ one

pub is_done : (version : Version) (count i : ℕ) (all : List FieldData) (bytes : List ℕ) (total : Result (List FieldData × List ℕ) Fault)
    → count ≤ i → fields_at version (count - i) all bytes ≡ total → total ≡ Ok (all, bytes)
unfolding fields_at
is_done version count i all bytes total le so_far =
    let k : count - i ≡ 0 = omega arith in
    let one : fields_at version (count - i) all bytes ≡ Ok (all, bytes) = rw k refl in
    sym so_far ∙ one

-- ---- reading numbers

-- the numbers so far, before what reading gives
abbrev pub behind : List ℤ → Result (List ℤ × List ℕ) Fault → Result (List ℤ × List ℕ) Fault
behind front read = seen_as (λ (zs : List ℤ). front ++ zs) read

pub behind_none : (read : Result (List ℤ × List ℕ) Fault) → behind [] read ≡ read
behind_none (Ok x) = refl
behind_none (Err f) = refl

behind_more : (front : List ℤ) (z : ℤ) (read : Result (List ℤ × List ℕ) Fault) → behind front (seen_as (λ (zs : List ℤ). z ∷ zs) read) ≡ behind (front ++ z ∷ []) read
behind_more front z (Ok x) = ap (λ (zs : List ℤ). Ok (zs, x.1)) (sym (append_assoc front (z ∷ []) x.0))
behind_more front z (Err f) = refl

pub number_on : (count i : ℕ) (zs : List ℤ) (bytes : List ℕ) (z : ℤ) (after : List ℕ) (total : Result (List ℤ × List ℕ) Fault)
    → i < count → i < length zs → signed_at w64 bytes ≡ Ok (z, after) → behind (take i zs) (numbers_at (count - i) bytes) ≡ total → behind (take (i + 1) (set zs i z)) (numbers_at (count - (i + 1)) after) ≡ total
unfolding numbers_at
number_on count i zs bytes z after total lt within read so_far =
    let k : count - i ≡ suc (count - (i + 1)) = omega arith in
    let one : numbers_at (count - i) bytes ≡ seen_as (λ (others : List ℤ). z ∷ others) (numbers_at (count - (i + 1)) after) = rw (k, read) refl in
    ap (λ (front : List ℤ). behind front (numbers_at (count - (i + 1)) after)) (take_more_set zs i z within)
    ∙ sym (behind_more (take i zs) z (numbers_at (count - (i + 1)) after)) ∙ sym (ap (behind (take i zs)) one) ∙ so_far

pub number_stops : (stop : Stop) (count i : ℕ) (front : List ℤ) (bytes : List ℕ) (total : Result (List ℤ × List ℕ) Fault)
    → i < count → Stops stop (signed_at w64 bytes) → behind front (numbers_at (count - i) bytes) ≡ total → Stops stop total
unfolding numbers_at
number_stops stops.OutOfMemory count i front bytes total lt read so_far = tt
number_stops (stops.Fault fault) count i front bytes total lt read so_far =
    let k : count - i ≡ suc (count - (i + 1)) = omega arith in
    let one : numbers_at (count - i) bytes ≡ Err fault = rw (k, read) refl in
    sym so_far ∙ ap (behind front) one

pub numbers_done : (count i : ℕ) (zs : List ℤ) (bytes : List ℕ) (total : Result (List ℤ × List ℕ) Fault)
    → count ≡ i → behind (take i zs) (numbers_at (count - i) bytes) ≡ total → total ≡ Ok (take count zs, bytes)
unfolding numbers_at
numbers_done count i zs bytes total is so_far =
    let k : count - i ≡ 0 = omega arith in
    let one : numbers_at (count - i) bytes ≡ Ok ([], bytes) = rw k refl in
    sym so_far ∙ ap (behind (take i zs)) one ∙ ap (λ (front : List ℤ). Ok (front, bytes)) (append-nil (take i zs) ∙ ap (λ (n : ℕ). take n zs) (sym is))

-- ---- writing

pub take-next : {X : Type 0} (xs : List X) (i : ℕ) (x : X) → slice_get xs i ≡ Some x → take (i + 1) xs ≡ take i xs ++ x ∷ []
take-next xs i x at = take_more xs i x (slice_get_within xs i x at) ∙ ap (λ y. take i xs ++ y ∷ []) (get_or_from_slice_get xs i x x at)

pub flat_map-push : {X : Type 0} (f : X → List ℕ) (xs : List X) (x : X) → flat_map f (xs ++ x ∷ []) ≡ flat_map f xs ++ f x
flat_map-push f xs x = flat_map-append f xs (x ∷ []) ∙ ap (λ (t : List ℕ). flat_map f xs ++ t) (flat_map-cons f x [] ∙ append-nil (f x))

pub each_push : {X : Type 0} (P : X → Type 0) (xs : List X) (x : X) → AllByRecursion P xs → P x → AllByRecursion P (xs ++ x ∷ [])
each_push P [] x each last = (last, tt)
each_push P (y ∷ xs) x each last = (each.0, each_push P xs x each.1 last)

-- ---- looking for numbers

pub has_more : (m : List FieldData) (i : ℕ) (f : FieldData) → slice_get m i ≡ Some f → has_numbers (take (i + 1) m) ≡ (has_numbers (take i m) || (is_numbers (kind_of f.value) || false))
has_more m i f at = ap has_numbers (take-next m i f at) ∙ list_any-append (λ (f : FieldData). is_numbers (kind_of f.value)) (take i m) (f ∷ [])

has_split : (m : List FieldData) (i : ℕ) → has_numbers m ≡ (has_numbers (take i m) || has_numbers (drop i m))
has_split m i = ap has_numbers (sym (take-append-drop i m)) ∙ list_any-append (λ (f : FieldData). is_numbers (kind_of f.value)) (take i m) (drop i m)

pub has_found : (m : List FieldData) (i : ℕ) (f : FieldData) → slice_get m i ≡ Some f → is_numbers (kind_of f.value) ≡ true → true ≡ has_numbers m
has_found m i f at is =
    let front : has_numbers (take (i + 1) m) ≡ true = has_more m i f at ∙ or_right (has_numbers (take i m)) (is_numbers (kind_of f.value) || false) (or_left (is_numbers (kind_of f.value)) false is) in
    sym (has_split m (i + 1) ∙ or_left (has_numbers (take (i + 1) m)) (has_numbers (drop (i + 1) m)) front)

pub has_not : (m : List FieldData) (i : ℕ) (f : FieldData) → slice_get m i ≡ Some f → is_numbers (kind_of f.value) ≡ false → has_numbers (take i m) ≡ false → has_numbers (take (i + 1) m) ≡ false
has_not m i f at is so_far = has_more m i f at ∙ or_from (has_numbers (take i m)) (is_numbers (kind_of f.value) || false) so_far (or_from (is_numbers (kind_of f.value)) false is refl)
