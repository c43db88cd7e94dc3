-- What the laws of keyed lists say of messages.
use Rattle.std.specs.Prelude.{◌≡◌, ℕ, ◌+◌, ◌≤◌, Bool, false, cond, not, Result, Ok, Err, OnOk, OnErr, List, [], ◌∷◌, length, refl, fold, count_by, Some, if◌then◌else◌, slice_get}
use Rattle.std.proofs.Common.{ap, sym, ◌∙◌, subst, arith}
use Rattle.std.proofs.lemmas.List.Sums.{sum_by-cons}
use Rattle.mama_msg.specs.declared.field.Key.{Key}
use Rattle.mama_msg.specs.Field.{FieldData, key_of, same_key}
use Rattle.mama_msg.specs.Keys.{same_key-Decides}
use Rattle.mama_msg.specs.Message.{AreDistinct, has_key, with_key, updated, apply}
use Rattle.mama_msg.proofs.KeyedLists.{fold_put, Apart-merged, merged_nil, merged_cons, at_key-merged}
use Rattle.mama_msg.proofs.Merging.{merged_merged, merged_self, merged_from_nil, slice_get-merged_kept, slice_get-merged_replaced, length-merged}
use Rattle.mama_msg.proofs.DistinctKeys.{Apart-from_distinct, AreDistinct-from_apart}

pub fold-updated : (m u : List FieldData) → AreDistinct u → fold updated m u ≡ apply m u
fold-updated m u d = fold_put key_of same_key same_key-Decides m u (Apart-from_distinct u d)

pub apply-from_nil : (u : List FieldData) → apply [] u ≡ u
apply-from_nil u = merged_from_nil key_of same_key same_key-Decides u

pub apply-nil : (m : List FieldData) → apply m [] ≡ m
apply-nil m = merged_nil key_of same_key same_key-Decides m

pub apply-self : (m : List FieldData) → AreDistinct m → apply m m ≡ m
apply-self m d = merged_self key_of same_key same_key-Decides m (Apart-from_distinct m d)

pub apply-apply : (m u v : List FieldData) → AreDistinct v → apply (apply m u) v ≡ apply m (apply u v)
apply-apply m u v d = merged_merged key_of same_key same_key-Decides m u v (Apart-from_distinct v d)

pub AreDistinct-apply : (m u : List FieldData) → AreDistinct m → AreDistinct u → AreDistinct (apply m u)
AreDistinct-apply m u d e = AreDistinct-from_apart (apply m u) (Apart-merged key_of same_key same_key-Decides m u (Apart-from_distinct m d) (Apart-from_distinct u e))

pub with_key-apply : (k : Key) (m u : List FieldData) → AreDistinct u → with_key k (apply m u) ≡ (if has_key k u then with_key k u else with_key k m)
with_key-apply k m u d = at_key-merged key_of same_key same_key-Decides k m u (Apart-from_distinct u d)

pub slice_get-apply_kept : (m u : List FieldData) (i : ℕ) (f : FieldData) → slice_get m i ≡ Some f → has_key (key_of f) u ≡ false → slice_get (apply m u) i ≡ Some f
slice_get-apply_kept m u i f h absent = slice_get-merged_kept key_of same_key same_key-Decides m u i f h absent

pub slice_get-apply_replaced : (m u : List FieldData) (i : ℕ) (f g : FieldData) → slice_get m i ≡ Some f → with_key (key_of f) u ≡ Some g → slice_get (apply m u) i ≡ Some g
slice_get-apply_replaced m u i f g h found = slice_get-merged_replaced key_of same_key same_key-Decides m u i f g h found

pub length-apply : (m u : List FieldData) → length (apply m u) ≡ length m + count_by (λ f. not (has_key (key_of f) m)) u
length-apply m u = length-merged key_of same_key same_key-Decides m u

-- the first field put in, and then the others
pub apply-cons : (m : List FieldData) (f : FieldData) (fs : List FieldData) → has_key (key_of f) fs ≡ false → apply (updated m f) fs ≡ apply m (f ∷ fs)
apply-cons m f fs absent = merged_cons key_of same_key same_key-Decides m f fs absent

pub apply-one : (m : List FieldData) (f : FieldData) → updated m f ≡ apply m (f ∷ [])
apply-one m f = fold-updated m (f ∷ []) (refl, tt)

-- a field with a new key finds room where there is room for all
pub room_first : (m : List FieldData) (f : FieldData) (fs : List FieldData) → has_key (key_of f) m ≡ false → length m + 1 ≤ length (apply m (f ∷ fs))
room_first m f fs new =
    let test : FieldData → Bool = λ x. not (has_key (key_of x) m) in
    let whole : length (apply m (f ∷ fs)) ≡ length m + (1 + count_by test fs) =
    length-apply m (f ∷ fs)
    ∙ ap (λ (n : ℕ). length m + n) (sum_by-cons (λ (x : FieldData). cond (test x) 1 0) f fs ∙ ap (λ (b : Bool). cond (not b) 1 0 + count_by test fs) new) in
    omega arith

-- what an update leaves has distinct keys, whether memory was found or not
pub distinct_applied : {A E : Type 0} (r : Result A E) (m n u : List FieldData) → OnOk r (n ≡ apply m u) → OnErr r (n ≡ m) → AreDistinct m → AreDistinct u → AreDistinct n
distinct_applied (Ok x) m n u ok err d e = subst AreDistinct (sym ok) (AreDistinct-apply m u d e)
distinct_applied (Err x) m n u ok err d e = subst AreDistinct (sym err) d

-- the length after an update, by the new keys that were counted
pub len_applied : (m u x y : List FieldData) (l n : ℕ) → l ≡ length m → n ≡ count_by (λ f. not (has_key (key_of f) x)) y → x ≡ m → y ≡ u → l + n ≡ length (apply m u)
len_applied m u x y l n size counted own other =
    ap (λ (k : ℕ). k + n) size
    ∙ ap (λ (k : ℕ). length m + k) (counted ∙ ap (λ (xs : List FieldData). count_by (λ (f : FieldData). not (has_key (key_of f) xs)) y) own ∙ ap (count_by (λ (f : FieldData). not (has_key (key_of f) m))) other)
    ∙ sym (length-apply m u)
