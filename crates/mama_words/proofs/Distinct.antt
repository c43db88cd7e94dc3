-- Fields of which no two have one key.
use Rattle.std.proofs.Common.{◌≡◌, true, List, [], ◌∷◌, Ok, Err, refl}
use Rattle.std.specs.Prelude.{not}
use Rattle.std.proofs.lemmas.Bool.{and_parts, and_from, not-true, not_from_false, false_from_ne_true}
use Rattle.mama_msg.specs.Field.{FieldData, key_of}
use Rattle.mama_msg.specs.Message.{AreDistinct, has_key}
use Rattle.mama_words.specs.Field.{are_distinct, distinct_or_fault}

are_distinct-true : (fs : List FieldData) → AreDistinct fs → are_distinct fs ≡ true
are_distinct-true [] d = refl
are_distinct-true (f ∷ fs) d = and_from (not (has_key (key_of f) fs)) (are_distinct fs) (not_from_false (has_key (key_of f) fs) d.0) (are_distinct-true fs d.1)

AreDistinct-true : (fs : List FieldData) → are_distinct fs ≡ true → AreDistinct fs
AreDistinct-true [] e = tt
AreDistinct-true (f ∷ fs) e =
    let parts = and_parts (not (has_key (key_of f) fs)) (are_distinct fs) e in
    (not-true (has_key (key_of f) fs) parts.0, AreDistinct-true fs parts.1)

pub accepted : (fs : List FieldData) → AreDistinct fs → distinct_or_fault fs ≡ Ok fs
accepted fs d = rw (are_distinct-true fs d) refl

pub refused : (fs : List FieldData) → ¬ AreDistinct fs → distinct_or_fault fs ≡ Err 8
refused fs none = rw (false_from_ne_true (are_distinct fs) (λ e. none (AreDistinct-true fs e))) refl
