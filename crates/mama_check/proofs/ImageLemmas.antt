-- The images of a record, object by object: where they stand in the order of the objects, each object keeps its image
-- exactly where the whole list is the one that is wanted.
use Rattle.std.specs.Prelude.{slice_get, None, Some, if◌then◌else◌}
use Rattle.std.specs.List.{flat_map}
use Rattle.std.proofs.Common.{◌≡◌, ℕ, zero, suc, Bool, true, false, List, [], ◌∷◌, ◌++◌, map, refl, sym, ◌∙◌, ap, subst, true≢false}
use Rattle.std.proofs.lemmas.List.Elements.{filter-append}
use Rattle.mama_event.specs.Object.{same_sub, same_object}
use Rattle.mama_event.specs.EqualityLaws.{same_sub-Decides}
use Rattle.mama_event.specs.declared.ids.SubId.{SubId}
use Rattle.mama_event.specs.declared.ids.ObjectId.{ObjectId}
use Rattle.mama_event.specs.declared.ids.ObjectId.TheVariants.{Sub, Timer, Inbox}
use Rattle.mama_record.specs.RunData.{LastImage}
use Rattle.mama_rules_rounds.specs.Client.{Planned}
use Rattle.mama_rules_legal.specs.Form.{in_order}
use Rattle.mama_check.specs.Images.{images_for, own_rest, first_for, rest_for}
use Rattle.mama_check.proofs.Alone.{names, times, AreAlone, alone_rest, alone_here, absent_here, absent_rest, absent_at}

abbrev pub object_of : Planned → ObjectId
object_of p = p.object

abbrev pub sub_of : LastImage → SubId
sub_of i = i.sub

-- the images stand in the order of the objects
pub record Stand (ps : List Planned) (images : List LastImage) : Type 0 where
  pub stands : in_order (map object_of ps) (map sub_of images) ≡ true

-- ---- ids

same_is : (a b : SubId) → same_sub a b ≡ true → a ≡ b
same_is a b h = (same_sub-Decides a b).0 h

pub is_same : (a b : SubId) → a ≡ b → same_sub a b ≡ true
is_same a b h = (same_sub-Decides a b).1 h

turned : (a b : SubId) → same_sub a b ≡ true → same_sub b a ≡ true
turned a b h = is_same b a (sym (same_is a b h))

not_turned : (a b : SubId) → same_sub a b ≡ false → same_sub b a ≡ false
not_turned a b h = at (same_sub b a) refl
  where
    at : (d : Bool) → same_sub b a ≡ d → d ≡ false
    at true is = absurd (true≢false (sym (turned b a is) ∙ h))
    at false is = refl

-- what is no first subscription's is no second's that is the same
not_of : (o : ObjectId) (a b : SubId) → same_object o (Sub a) ≡ true → same_object o (Sub b) ≡ false → same_sub a b ≡ false
not_of o a b one other = at (same_sub a b) refl
  where
    at : (d : Bool) → same_sub a b ≡ d → d ≡ false
    at true is = absurd (true≢false (sym (sym (ap (λ (x : SubId). same_object o (Sub x)) (same_is a b is)) ∙ one) ∙ other))
    at false is = refl

-- ---- images

choice : {A : Type 0} (b d : Bool) (x y : A) → b ≡ d → (if b then x else y) ≡ (if d then x else y)
choice b d x y is = ap (λ (e : Bool). if e then x else y) is

skip : (s : SubId) (i : LastImage) (images : List LastImage) → same_sub i.sub s ≡ false → images_for (Sub s) (i ∷ images) ≡ images_for (Sub s) images
skip s i images other = choice (same_sub i.sub s) false (i ∷ images_for (Sub s) images) (images_for (Sub s) images) other

keep : (s : SubId) (i : LastImage) (images : List LastImage) → same_sub i.sub s ≡ true → images_for (Sub s) (i ∷ images) ≡ i ∷ images_for (Sub s) images
keep s i images own = choice (same_sub i.sub s) true (i ∷ images_for (Sub s) images) (images_for (Sub s) images) own

-- the head is passed over with the object that it is of, or else the object has none
head_with : (p : Planned) (ps : List Planned) (i : LastImage) (images : List LastImage) → Stand (p ∷ ps) (i ∷ images) → same_object p.object (Sub i.sub) ≡ true → Stand ps images
head_with p ps i images order own = record {
  stands = sym (choice (same_object p.object (Sub i.sub)) true (in_order (map object_of ps) (map sub_of images)) (in_order (map object_of ps) (map sub_of (i ∷ images))) own) ∙ order.stands;
}

head_not : (p : Planned) (ps : List Planned) (i : LastImage) (images : List LastImage) → Stand (p ∷ ps) (i ∷ images) → same_object p.object (Sub i.sub) ≡ false → Stand ps (i ∷ images)
head_not p ps i images order other = record {
  stands = sym (choice (same_object p.object (Sub i.sub)) false (in_order (map object_of ps) (map sub_of images)) (in_order (map object_of ps) (map sub_of (i ∷ images))) other) ∙ order.stands;
}

-- a subscription that is not among the objects has no image
pub absent : (s : SubId) (ps : List Planned) (images : List LastImage) → times s ps ≡ 0 → Stand ps images → images_for (Sub s) images ≡ []
absent s ps [] none order = refl
absent s [] (i ∷ images) none order = absurd (true≢false (sym order.stands))
absent s (p ∷ ps) (i ∷ images) none order =
    at (same_object p.object (Sub i.sub)) refl (absent s ps images (absent_rest s p ps none)) (absent s ps (i ∷ images) (absent_rest s p ps none))
  where
    at : (b : Bool) → same_object p.object (Sub i.sub) ≡ b → (Stand ps images → images_for (Sub s) images ≡ []) → (Stand ps (i ∷ images) → images_for (Sub s) (i ∷ images) ≡ [])
        → images_for (Sub s) (i ∷ images) ≡ []
    at true is behind here = skip s i images (not_of p.object i.sub s is (absent_here s p ps none)) ∙ behind (head_with p ps i images order is)
    at false is behind here = here (head_not p ps i images order is)

-- what is known where an object is passed: its images are those at the head, and those of later objects are behind them
pub record IsPassed (o : ObjectId) (ps : List Planned) (images : List LastImage) : Type 0 where
  pub own : images_for o images ≡ first_for o images
  pub order : Stand ps (rest_for o images)
  pub others : (k : ℕ) (p : Planned) → slice_get ps k ≡ Some p → images_for p.object images ≡ images_for p.object (rest_for o images)

-- of another subscription, or of no subscription, the image at the head is not
others_skip : (i : LastImage) (images : List LastImage) (o : ObjectId) → same_object o (Sub i.sub) ≡ false → images_for o (i ∷ images) ≡ images_for o images
others_skip i images (Sub t) other = skip t i images (not_turned t i.sub other)
others_skip i images (Timer t) other = refl
others_skip i images (Inbox t) other = refl

passed_sub : (s : SubId) (p : Planned) (ps : List Planned) (images : List LastImage) → p.object ≡ Sub s → times s ps ≡ 0 → Stand (p ∷ ps) images → IsPassed (Sub s) ps images
passed_sub s p ps [] is none order = record { own = refl; order = record { stands = refl }; others = λ k q at. refl }
passed_sub s p ps (i ∷ images) is none order = at (same_sub i.sub s) refl
  where
    named : same_object p.object (Sub i.sub) ≡ same_sub s i.sub
    named = ap (λ (o : ObjectId). same_object o (Sub i.sub)) is

    at : (b : Bool) → same_sub i.sub s ≡ b → IsPassed (Sub s) ps (i ∷ images)
    at true own =
        let left : Stand ps images = head_with p ps i images order (named ∙ turned i.sub s own) in
        let rest : own_rest s (i ∷ images) ≡ images = choice (same_sub i.sub s) true images (i ∷ images) own in
        let alone : images_for (Sub s) images ≡ [] = absent s ps images none left in
        record {
          own = keep s i images own ∙ ap (λ (is : List LastImage). i ∷ is) alone ∙ sym (choice (same_sub i.sub s) true (i ∷ []) [] own);
          order = subst (λ (is : List LastImage). Stand ps is) (sym rest) left;
          others = λ k q there.
              let other : same_object q.object (Sub s) ≡ false = absent_at s ps k q none there in
              let other_head : same_object q.object (Sub i.sub) ≡ false = ap (λ (x : SubId). same_object q.object (Sub x)) (same_is i.sub s own) ∙ other in
              others_skip i images q.object other_head ∙ ap (λ (is : List LastImage). images_for q.object is) (sym rest);
        }
    at false other =
        let left : Stand ps (i ∷ images) = head_not p ps i images order (named ∙ not_turned i.sub s other) in
        let rest : own_rest s (i ∷ images) ≡ i ∷ images = choice (same_sub i.sub s) false images (i ∷ images) other in
        record {
          own = absent s ps (i ∷ images) none left ∙ sym (choice (same_sub i.sub s) false (i ∷ []) [] other);
          order = subst (λ (is : List LastImage). Stand ps is) (sym rest) left;
          others = λ k q there. ap (λ (is : List LastImage). images_for q.object is) (sym rest);
        }

-- an object that has no image is passed over
passed_other : (o : ObjectId) (p : Planned) (ps : List Planned) (images : List LastImage) → ((i : LastImage) → same_object p.object (Sub i.sub) ≡ false) → Stand (p ∷ ps) images → Stand ps images
passed_other o p ps [] none order = record { stands = refl }
passed_other o p ps (i ∷ images) none order = head_not p ps i images order (none i)

pub passed : (p : Planned) (ps : List Planned) (images : List LastImage) → AreAlone (p ∷ ps) → Stand (p ∷ ps) images → IsPassed p.object ps images
passed p ps images alone order = at p.object refl
  where
    at : (o : ObjectId) → p.object ≡ o → IsPassed o ps images
    at (Sub s) is = passed_sub s p ps images is (alone_here s p ps alone (ap (λ (o : ObjectId). same_object o (Sub s)) is ∙ is_same s s refl)) order
    at (Timer t) is = record { own = refl; order = passed_other (Timer t) p ps images (λ i. ap (λ (o : ObjectId). same_object o (Sub i.sub)) is) order; others = λ k q there. refl }
    at (Inbox t) is = record { own = refl; order = passed_other (Inbox t) p ps images (λ i. ap (λ (o : ObjectId). same_object o (Sub i.sub)) is) order; others = λ k q there. refl }

-- ---- the whole list

-- each of some objects has the images that it is to have
abbrev pub HaveOwn : (Planned → List LastImage) → List Planned → List LastImage → Type 0
HaveOwn f ps images = (k : ℕ) (p : Planned) → slice_get ps k ≡ Some p → images_for p.object images ≡ f p

split : (o : ObjectId) (images : List LastImage) → images ≡ first_for o images ++ rest_for o images
split (Sub s) [] = refl
split (Sub s) (i ∷ images) = at (same_sub i.sub s)
  where
    at : (b : Bool) → i ∷ images ≡ (if b then i ∷ [] else []) ++ (if b then images else i ∷ images)
    at true = refl
    at false = refl
split (Timer t) images = refl
split (Inbox t) images = refl

pub all_own : (f : Planned → List LastImage) (ps : List Planned) (images : List LastImage) → AreAlone ps → Stand ps images → HaveOwn f ps images → images ≡ flat_map f ps
all_own f [] [] alone order own = refl
all_own f [] (i ∷ images) alone order own = absurd (true≢false (sym order.stands))
all_own f (p ∷ ps) images alone order own =
    let pass : IsPassed p.object ps images = passed p ps images alone order in
    split p.object images
    ∙ ap (λ (is : List LastImage). is ++ rest_for p.object images) (sym pass.own ∙ own 0 p refl)
    ∙ ap (λ (is : List LastImage). f p ++ is)
    (all_own f ps (rest_for p.object images) (alone_rest p ps alone) pass.order (λ k q there. sym (pass.others k q there) ∙ own (suc k) q there))

-- what is wanted of an object is its own alone
pub record AreOwn (f : Planned → List LastImage) : Type 0 where
  pub own : (p : Planned) → images_for p.object (f p) ≡ f p
  pub other : (p : Planned) (s : SubId) → names s p ≡ false → images_for (Sub s) (f p) ≡ []

for_append : (o : ObjectId) (xs ys : List LastImage) → images_for o (xs ++ ys) ≡ images_for o xs ++ images_for o ys
for_append (Sub s) xs ys = filter-append (λ (i : LastImage). same_sub i.sub s) xs ys
for_append (Timer t) xs ys = refl
for_append (Inbox t) xs ys = refl

module _ (f : Planned → List LastImage) (fits : AreOwn f) where
  none_of : (s : SubId) (ps : List Planned) → times s ps ≡ 0 → images_for (Sub s) (flat_map f ps) ≡ []
  none_of s [] none = refl
  none_of s (p ∷ ps) none =
      for_append (Sub s) (f p) (flat_map f ps)
      ∙ ap (λ (is : List LastImage). is ++ images_for (Sub s) (flat_map f ps)) (fits.other p s (absent_here s p ps none))
      ∙ none_of s ps (absent_rest s p ps none)

  nothing : (xs : List LastImage) → xs ++ [] ≡ xs
  nothing [] = refl
  nothing (x ∷ xs) = ap (λ (ys : List LastImage). x ∷ ys) (nothing xs)

  first_own : (p : Planned) (ps : List Planned) → AreAlone (p ∷ ps) → (o : ObjectId) → p.object ≡ o → images_for o (f p) ≡ f p → images_for o (f p ++ flat_map f ps) ≡ f p
  first_own p ps alone (Sub s) is own =
      for_append (Sub s) (f p) (flat_map f ps)
      ∙ ap (λ (is : List LastImage). images_for (Sub s) (f p) ++ is)
      (none_of s ps (alone_here s p ps alone (ap (λ (o : ObjectId). same_object o (Sub s)) is ∙ is_same s s refl)))
      ∙ nothing (images_for (Sub s) (f p)) ∙ own
  first_own p ps alone (Timer t) is own = own
  first_own p ps alone (Inbox t) is own = own

  -- a later object has none of the first one's
  not_first : (p q : Planned) (ps : List Planned) (k : ℕ) → AreAlone (p ∷ ps) → slice_get ps k ≡ Some q → (o : ObjectId) → q.object ≡ o → images_for o (f p) ≡ []
  not_first p q ps k alone there (Sub s) is = fits.other p s (at (names s p) refl)
    where
      at : (b : Bool) → names s p ≡ b → b ≡ false
      at true named = absurd (true≢false (sym (ap (λ (o : ObjectId). same_object o (Sub s)) is ∙ is_same s s refl) ∙ absent_at s ps k q (alone_here s p ps alone named) there))
      at false named = refl
  not_first p q ps k alone there (Timer t) is = refl
  not_first p q ps k alone there (Inbox t) is = refl

  pub each_own : (ps : List Planned) → AreAlone ps → HaveOwn f ps (flat_map f ps)
  each_own [] alone k p there = let no : None ≡ Some p = there in absurd cc
  each_own (q ∷ ps) alone zero p there =
      let here : Some q ≡ Some p = there in
      let same : q ≡ p = cc in
      subst (λ (x : Planned). images_for x.object (f q ++ flat_map f ps) ≡ f x) same (first_own q ps alone q.object refl (fits.own q))
  each_own (q ∷ ps) alone (suc k) p there =
      for_append p.object (f q) (flat_map f ps)
      ∙ ap (λ (is : List LastImage). is ++ images_for p.object (flat_map f ps)) (not_first q p ps k alone there p.object refl)
      ∙ each_own ps (alone_rest q ps alone) k p there
