-- What changes do to the rows and the number of sets.
use Rattle.std.proofs.Common.{◌≡◌, ℕ, ◌+◌, Bool, true, false, cond, List, [], ◌∷◌, ◌++◌, length, fold, Option, Some, None, refl, sym, ap, ◌∙◌, subst, true≢false, append_assoc, append-nil, length-append, arith}
use Rattle.std.proofs.lemmas.List.Sums.{fold-append}
use Rattle.indexmap.specs.IndexMap.{insert_entry}
use Rattle.mama_event.specs.declared.ids.SubId.{SubId}
use Rattle.mama_event.specs.Object.{same_sub}
use Rattle.mama_event.specs.EqualityLaws.{same_sub-Decides}
use Rattle.mama_board.specs.declared.change.Change.{Change}
use Rattle.mama_board.specs.declared.change.Change.TheVariants.{Set, Seal}
use Rattle.mama_board.specs.declared.image_set.ImageSet.{ImageSet}
use Rattle.mama_board.specs.declared.row.Row.{Row}
use Rattle.mama_board.specs.Images.{ImagesValue, row_at, after_set, after_seal, after_change, sets_in}
use Rattle.mama_board.specs.Rows.{row, row_in}
use Rattle.mama_board.specs.Rule.{AreImagesOf}

same_choice : {A : Type 0} (b : Bool) (x y z : A) → cond b x z ≡ cond b x (cond b y z)
same_choice true x y z = refl
same_choice false x y z = refl

-- of two tests that do not both hold, either may come first
apart_choices : {A : Type 0} (a b : Bool) (x y z : A) → (a ≡ true → b ≡ true → ⊥) → cond a y (cond b x z) ≡ cond b x (cond a y z)
apart_choices true true x y z apart = absurd (apart refl refl)
apart_choices true false x y z apart = refl
apart_choices false true x y z apart = refl
apart_choices false false x y z apart = refl

-- the row after an entry is inserted before it is known whether the first entry is that of its key
inserted : (sub key : SubId) (r : Row) (e : SubId × Row) (es : List (SubId × Row)) (here : Bool) → same_sub key e.0 ≡ here
    → row_at sub (insert_entry same_sub es key r) ≡ cond (same_sub sub key) (Some r) (row_at sub es)
    → row_at sub (cond here ((e.0, r) ∷ es) (e ∷ insert_entry same_sub es key r)) ≡ cond (same_sub sub key) (Some r) (row_at sub (e ∷ es))
inserted sub key r e es true is ih =
    let same : key ≡ e.0 = (same_sub-Decides key e.0).0 is in
    subst (λ (k : SubId). cond (same_sub sub e.0) (Some r) (row_at sub es) ≡ cond (same_sub sub k) (Some r) (cond (same_sub sub e.0) (Some e.1) (row_at sub es))) (sym same)
    (same_choice (same_sub sub e.0) (Some r) (Some e.1) (row_at sub es))
inserted sub key r e es false is ih =
    ap (λ (t : Option Row). cond (same_sub sub e.0) (Some e.1) t) ih
    ∙ apart_choices (same_sub sub e.0) (same_sub sub key) (Some r) (Some e.1) (row_at sub es)
    (λ a b. true≢false (sym ((same_sub-Decides key e.0).1 (sym ((same_sub-Decides sub key).0 b) ∙ (same_sub-Decides sub e.0).0 a)) ∙ is))

-- after an entry is inserted, the row of its key is the entry's, and the others are as before
pub row_inserted : (sub key : SubId) (r : Row) (es : List (SubId × Row)) → row_at sub (insert_entry same_sub es key r) ≡ cond (same_sub sub key) (Some r) (row_at sub es)
row_inserted sub key r [] = refl
row_inserted sub key r (e ∷ es) = inserted sub key r e es (same_sub key e.0) refl (row_inserted sub key r es)

-- the row after one set more
pub row_more : (sub : SubId) (sets : List ImageSet) (set : ImageSet) → row sub (sets ++ set ∷ []) ≡ cond (same_sub sub set.sub) (Some (row_in set)) (row sub sets)
row_more sub sets set = fold-append (λ (found : Option Row) (s : ImageSet). cond (same_sub sub s.sub) (Some (row_in s)) found) None sets (set ∷ [])

-- one set more, in the list and in the images
images_set : (sets : List ImageSet) (images : ImagesValue) (set : ImageSet) → AreImagesOf sets images → AreImagesOf (sets ++ set ∷ []) (after_set images set)
images_set sets images set h = record {
  version = ap (λ (n : ℕ). n + 1) h.version ∙ sym (length-append sets (set ∷ []));
  rows = λ sub. row_inserted sub set.sub (row_in set) images.rows ∙ (ap (λ (t : Option Row). cond (same_sub sub set.sub) (Some (row_in set)) t) (h.rows sub) ∙ sym (row_more sub sets set));
}

-- the images after some changes are those after the sets among them
pub images_after : (changes : List Change) (sets : List ImageSet) (images : ImagesValue) → AreImagesOf sets images → AreImagesOf (sets ++ sets_in changes) (fold after_change images changes)
images_after [] sets images h = subst (λ (l : List ImageSet). AreImagesOf l images) (sym (append-nil sets)) h
images_after (Set set ∷ changes) sets images h =
    subst (λ (l : List ImageSet). AreImagesOf l (fold after_change (after_set images set) changes)) (append_assoc sets (set ∷ []) (sets_in changes))
    (images_after changes (sets ++ set ∷ []) (after_set images set) (images_set sets images set h))
images_after (Seal ∷ changes) sets images h = images_after changes sets (after_seal images) (record { version = h.version; rows = h.rows })

-- changes count the sets among them
pub version_after : (changes : List Change) (images : ImagesValue) → (fold after_change images changes).version ≡ images.version + length (sets_in changes)
version_after [] images = omega arith
version_after (Set set ∷ changes) images = let h : (fold after_change (after_set images set) changes).version ≡ (images.version + 1) + length (sets_in changes) = version_after changes (after_set images set) in omega arith
version_after (Seal ∷ changes) images = version_after changes (after_seal images)

pub sets_in-append : (changes more : List Change) → sets_in (changes ++ more) ≡ sets_in changes ++ sets_in more
sets_in-append [] more = refl
sets_in-append (Set set ∷ changes) more = ap (λ (l : List ImageSet). set ∷ l) (sets_in-append changes more)
sets_in-append (Seal ∷ changes) more = sets_in-append changes more

-- the mark of the seal is as the last change says
pub unsealed_by_set : (images : ImagesValue) (changes : List Change) (set : ImageSet) → (fold after_change images (changes ++ Set set ∷ [])).sealed ≡ false
unsealed_by_set images changes set = ap (λ (i : ImagesValue). i.sealed) (fold-append after_change images changes (Set set ∷ []))

pub sealed_by_seal : (images : ImagesValue) (changes : List Change) → (fold after_change images (changes ++ Seal ∷ [])).sealed ≡ true
sealed_by_seal images changes = ap (λ (i : ImagesValue). i.sealed) (fold-append after_change images changes (Seal ∷ []))
