-- Keys that are distinct, in the words of keyed lists.
use Rattle.std.specs.Prelude.{◌≡◌, ℕ, ◌+◌, ◌<◌, Bool, true, false, ◌||◌, List, [], ◌∷◌, ◌++◌, length, take, drop, Result, Ok, Err, OnOk, OnErr, refl, if◌then◌else◌}
use Rattle.std.proofs.Common.{ap, sym, ◌∙◌, subst, get_or, true≢false}
use Rattle.std.proofs.lemmas.List.{take-append-drop, take_more, drop_more}
use Rattle.std.proofs.lemmas.Bool.{or_left, or_right}
use Rattle.std.proofs.lemmas.List.Folds.{list_any-append}
use Rattle.mama_msg.specs.declared.field.Key.{Key}
use Rattle.mama_msg.specs.Field.{FieldData, key_of, same_key}
use Rattle.mama_msg.specs.Keys.{same_key-Decides}
use Rattle.mama_msg.specs.Message.{AreDistinct, has_key, updated}
use Rattle.mama_msg.proofs.KeyedLists.{split, has_push, Apart, Apart-put, Apart_push}

-- the two ways to say that keys are distinct
pub Apart-from_distinct : (m : List FieldData) → AreDistinct m → Apart key_of same_key same_key-Decides m
Apart-from_distinct [] d = tt
Apart-from_distinct (f ∷ fs) d = (d.0, Apart-from_distinct fs d.1)

pub AreDistinct-from_apart : (m : List FieldData) → Apart key_of same_key same_key-Decides m → AreDistinct m
AreDistinct-from_apart [] d = tt
AreDistinct-from_apart (f ∷ fs) d = (d.0, AreDistinct-from_apart fs d.1)

pub AreDistinct-updated : (m : List FieldData) (f : FieldData) → AreDistinct m → AreDistinct (updated m f)
AreDistinct-updated m f d = AreDistinct-from_apart (updated m f) (Apart-put key_of same_key same_key-Decides m f (Apart-from_distinct m d))

-- one more at the end, with a new key
pub AreDistinct_push : (m : List FieldData) (f : FieldData) → AreDistinct m → has_key (key_of f) m ≡ false → AreDistinct (m ++ f ∷ [])
AreDistinct_push m f d new = AreDistinct-from_apart (m ++ f ∷ []) (Apart_push key_of same_key same_key-Decides m f (Apart-from_distinct m d) new)

-- no field before another has its key
pub new_behind : (m : List FieldData) (f : FieldData) (rest : List FieldData) → AreDistinct (m ++ f ∷ rest) → has_key (key_of f) m ≡ true → ⊥
new_behind [] f rest d there = cc
new_behind (g ∷ gs) f rest d there =
    let parts : has_key (key_of g) (gs ++ f ∷ rest) ≡ (has_key (key_of g) gs || has_key (key_of g) (f ∷ rest)) = list_any-append (λ x. same_key (key_of x) (key_of g)) gs (f ∷ rest) in
    split (same_key (key_of g) (key_of f))
    (λ s.
    let back : same_key (key_of f) (key_of g) ≡ true = (same_key-Decides (key_of f) (key_of g)).1 (sym ((same_key-Decides (key_of g) (key_of f)).0 s)) in
    true≢false (sym (parts ∙ or_right (has_key (key_of g) gs) (has_key (key_of g) (f ∷ rest)) (or_left (same_key (key_of f) (key_of g)) (has_key (key_of g) rest) back)) ∙ d.0))
    (λ s. new_behind gs f rest d.1 (sym (ap (λ c. c || has_key (key_of f) gs) s) ∙ there))

or_false : (b : Bool) → (b || false) ≡ b
or_false true = refl
or_false false = refl

-- an index to which the key of one more field is put has the keys of all
pub has_key_push : (q : Key) (m : List FieldData) (f : FieldData) (old new : Bool) → old ≡ has_key q m → new ≡ (if same_key (key_of f) q then true else old) → new ≡ has_key q (m ++ f ∷ [])
has_key_push q m f old new was now =
    let pushed : has_key q (m ++ f ∷ []) ≡ (has_key q m || same_key (key_of f) q) = has_push key_of same_key same_key-Decides q m f in
    split (same_key (key_of f) q)
    (λ s. now ∙ ap (λ c. if c then true else old) s ∙ sym (pushed ∙ or_right (has_key q m) (same_key (key_of f) q) s))
    (λ s. now ∙ ap (λ c. if c then true else old) s ∙ was ∙ sym (pushed ∙ ap (λ c. has_key q m || c) s ∙ or_false (has_key q m)))

pub distinct_put : {A E : Type 0} (r : Result A E) (m n : List FieldData) (f : FieldData) → OnOk r (n ≡ updated m f) → OnErr r (n ≡ m) → AreDistinct m → AreDistinct n
distinct_put (Ok x) m n f ok err d = subst AreDistinct (sym ok) (AreDistinct-updated m f d)
distinct_put (Err x) m n f ok err d = subst AreDistinct (sym err) d

-- the same by places of a list
pub repeated_at : (m : List FieldData) (i : ℕ) (f : FieldData) → i < length m → f ≡ get_or m i f → has_key (key_of f) (take i m) ≡ true → AreDistinct m → ⊥
repeated_at m i f within is there d =
    let whole : m ≡ take i m ++ f ∷ drop (i + 1) m =
    sym (take-append-drop i m) ∙ ap (λ (xs : List FieldData). take i m ++ xs) (drop_more m i f within ∙ ap (λ (x : FieldData). x ∷ drop (i + 1) m) (sym is)) in
    new_behind (take i m) f (drop (i + 1) m) (subst AreDistinct whole d) there

one_more : (m : List FieldData) (i : ℕ) (f : FieldData) → i < length m → f ≡ get_or m i f → take (i + 1) m ≡ take i m ++ f ∷ []
one_more m i f within is = take_more m i f within ∙ ap (λ (x : FieldData). take i m ++ x ∷ []) (sym is)

pub distinct_more : (m : List FieldData) (i : ℕ) (f : FieldData) → i < length m → f ≡ get_or m i f → has_key (key_of f) (take i m) ≡ false → AreDistinct (take i m) → AreDistinct (take (i + 1) m)
distinct_more m i f within is new d = subst AreDistinct (sym (one_more m i f within is)) (AreDistinct_push (take i m) f d new)

pub has_key_more : (q : Key) (m : List FieldData) (i : ℕ) (f : FieldData) (old new : Bool) → i < length m → f ≡ get_or m i f → old ≡ has_key q (take i m) → new ≡ (if same_key (key_of f) q then true else old) → new ≡ has_key q (take (i + 1) m)
has_key_more q m i f old new within is was now = has_key_push q (take i m) f old new was now ∙ ap (has_key q) (sym (one_more m i f within is))
