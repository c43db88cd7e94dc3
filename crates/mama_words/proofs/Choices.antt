-- Answers by cases: which way a test went, and what a step gave.
use Rattle.std.proofs.Common.{◌≡◌, ℕ, Bool, true, false, cond, List, Option, Some, None, Result, Ok, Err, refl, ap, inl, inr}
use Rattle.std.specs.Prelude.{◌⊎◌, option_map, option_and_then}
use Rattle.std.specs.Str.{bytes_eq}
use Rattle.std.proofs.lemmas.Slice.Eq.{bytes_eq-Decides}
use Rattle.mama_words.specs.Reading.{◌>>=◌, or_fault, both}

abbrev some : {A : Type 0} → A → Option A
some x = Some x

pub some_is : {A : Type 0} (x y : A) → some x ≡ some y → x ≡ y
some_is x y e = cc

abbrev done : {A : Type 0} → A → Result A ℕ
done x = Ok x

pub ok_is : {A : Type 0} (x y : A) → done x ≡ done y → x ≡ y
ok_is x y e = cc

-- which way a test went
pub chosen : {A : Type 0} (b : Bool) (x y z : A) → cond b x y ≡ z → ((b ≡ true) × (x ≡ z)) ⊎ ((b ≡ false) × (y ≡ z))
chosen true x y z e = inl (refl, e)
chosen false x y z e = inr (refl, e)

-- a test that gave a value where the other way gives none
pub chosen_some : {A : Type 0} (b : Bool) (x y : A) → cond b (Some x) None ≡ Some y → (b ≡ true) × (x ≡ y)
chosen_some true x y e = (refl, cc)
chosen_some false x y e = absurd cc

pub chosen_other : {A : Type 0} (b : Bool) (r : Option A) (y : A) → cond b None r ≡ Some y → (b ≡ false) × (r ≡ Some y)
chosen_other true r y e = absurd cc
chosen_other false r y e = (refl, e)

pub guard_ok : {A : Type 0} (b : Bool) (n : ℕ) (x y : A) → cond b (Ok x) (Err n) ≡ Ok y → (b ≡ true) × (x ≡ y)
guard_ok true n x y e = (refl, cc)
guard_ok false n x y e = absurd cc

pub guard_bad : {A : Type 0} (b : Bool) (n : ℕ) (x y : A) → cond b (Err n) (Ok x) ≡ Ok y → (b ≡ false) × (x ≡ y)
guard_bad true n x y e = absurd cc
guard_bad false n x y e = (refl, cc)

pub guard_step : {A : Type 0} (b : Bool) (n : ℕ) (r : Result A ℕ) (y : A) → cond b r (Err n) ≡ Ok y → (b ≡ true) × (r ≡ Ok y)
guard_step true n r y e = (refl, e)
guard_step false n r y e = absurd cc

-- the value of a step that had no fault
pub bind_ok : {A B : Type 0} (r : Result A ℕ) (f : A → Result B ℕ) (y : B) → (r >>= f) ≡ Ok y → (x : A) × (r ≡ Ok x) × (f x ≡ Ok y)
bind_ok (Ok x) f y e = (x, refl, e)
bind_ok (Err n) f y e = absurd cc

pub or_fault_ok : {A : Type 0} (n : ℕ) (o : Option A) (x : A) → or_fault n o ≡ Ok x → o ≡ Some x
or_fault_ok n None x e = absurd cc
or_fault_ok n (Some y) x e = ap (λ v. Some v) (ok_is y x e)

-- the same, where the step is an option
pub step_ok : {A B : Type 0} (n : ℕ) (o : Option A) (f : A → Result B ℕ) (y : B) → (or_fault n o >>= f) ≡ Ok y → (x : A) × (o ≡ Some x) × (f x ≡ Ok y)
step_ok n None f y e = absurd cc
step_ok n (Some x) f y e = (x, refl, e)

pub both_ok : {A B : Type 0} (r : Result A ℕ) (s : Result B ℕ) (z : A × B) → both r s ≡ Ok z → (r ≡ Ok z.0) × (s ≡ Ok z.1)
both_ok {A} {B} (Ok x) (Ok y) z e = let h = ok_is (x, y) z e in (ap (λ (p : A × B). Ok p.0) h, ap (λ (p : A × B). Ok p.1) h)
both_ok (Ok x) (Err n) z e = absurd cc
both_ok (Err m) (Ok y) z e = absurd cc
both_ok (Err m) (Err n) z e = absurd cc

pub map_some : {A B : Type 0} (f : A → B) (o : Option A) (y : B) → option_map f o ≡ Some y → (x : A) × (o ≡ Some x) × (f x ≡ y)
map_some f None y e = absurd cc
map_some f (Some x) y e = (x, refl, some_is (f x) y e)

pub and_then_some : {A B : Type 0} (f : A → Option B) (o : Option A) (y : B) → option_and_then f o ≡ Some y → (x : A) × (o ≡ Some x) × (f x ≡ Some y)
and_then_some f None y e = absurd cc
and_then_some f (Some x) y e = (x, refl, e)

-- texts that are equal
pub same_text : (a b : List ℕ) → bytes_eq a b ≡ true → a ≡ b
same_text a b e = (bytes_eq-Decides a b).0 e

pub text_same : (a b : List ℕ) → a ≡ b → bytes_eq a b ≡ true
text_same a b e = (bytes_eq-Decides a b).1 e
