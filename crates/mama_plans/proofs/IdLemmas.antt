-- Ids are compared by kind and numbers.
use Rattle.std.specs.Prelude.{Option, Some}
use Rattle.std.specs.Map.{lookup}
use Rattle.std.proofs.Common.{◌≡◌, ℕ, Bool, true, cond, ◌&&◌, ◌==◌, List, [], ◌∷◌, refl, ap, ◌∙◌, arith}
use Rattle.std.proofs.lemmas.Bool.{eqb-true, and_parts}
use Rattle.std.proofs.lemmas.Bool.Decides.{nat_tests}
use Rattle.mama_event.specs.contracts.ids.ObjectIdPartialEq.TheImpl.{eq-value}
use Rattle.mama_event.specs.declared.ids.ObjectId.{ObjectId}
use Rattle.mama_event.specs.declared.ids.ObjectId.TheVariants.{Sub, Timer, Inbox}
use Rattle.mama_event.specs.Object.{same_object}

pub same_ids : (a b : ObjectId) → eq-value.it a b ≡ same_object a b
same_ids (Sub a) (Sub b) = refl
same_ids (Sub a) (Timer b) = refl
same_ids (Sub a) (Inbox b) = refl
same_ids (Timer a) (Sub b) = refl
same_ids (Timer a) (Timer b) = refl
same_ids (Timer a) (Inbox b) = refl
same_ids (Inbox a) (Sub b) = refl
same_ids (Inbox a) (Timer b) = refl
same_ids (Inbox a) (Inbox b) = refl

eq_sym : (a b : ℕ) → (a == b) ≡ (b == a)
eq_sym a b = grind (arith, nat_tests)

both_sym : (a b c d : ℕ) → (a == b && c == d) ≡ (b == a && d == c)
both_sym a b c d = ap (λ (x : Bool). x && c == d) (eq_sym a b) ∙ ap (λ (x : Bool). b == a && x) (eq_sym c d)

pub same_object_sym : (a b : ObjectId) → same_object a b ≡ same_object b a
same_object_sym (Sub a) (Sub b) = both_sym a.client b.client a.number b.number
same_object_sym (Sub a) (Timer b) = refl
same_object_sym (Sub a) (Inbox b) = refl
same_object_sym (Timer a) (Sub b) = refl
same_object_sym (Timer a) (Timer b) = both_sym a.client b.client a.number b.number
same_object_sym (Timer a) (Inbox b) = refl
same_object_sym (Inbox a) (Sub b) = refl
same_object_sym (Inbox a) (Timer b) = refl
same_object_sym (Inbox a) (Inbox b) = both_sym a.client b.client a.number b.number

same_by : (a b c d : ℕ) → (a == b && c == d) ≡ true → (a ≡ b) × (c ≡ d)
same_by a b c d h = let parts = and_parts (a == b) (c == d) h in (eqb-true a b parts.0, eqb-true c d parts.1)

-- one object is the same value
pub same_object_true : (a b : ObjectId) → same_object a b ≡ true → a ≡ b
same_object_true (Sub a) (Sub b) h =
    let parts = same_by a.client b.client a.number b.number h in
    ap (λ (c : ℕ). Sub (record { client = c; number = a.number })) parts.0 ∙ ap (λ (n : ℕ). Sub (record { client = b.client; number = n })) parts.1
same_object_true (Sub a) (Timer b) h = cc
same_object_true (Sub a) (Inbox b) h = cc
same_object_true (Timer a) (Sub b) h = cc
same_object_true (Timer a) (Timer b) h =
    let parts = same_by a.client b.client a.number b.number h in
    ap (λ (c : ℕ). Timer (record { client = c; number = a.number })) parts.0 ∙ ap (λ (n : ℕ). Timer (record { client = b.client; number = n })) parts.1
same_object_true (Timer a) (Inbox b) h = cc
same_object_true (Inbox a) (Sub b) h = cc
same_object_true (Inbox a) (Timer b) h = cc
same_object_true (Inbox a) (Inbox b) h =
    let parts = same_by a.client b.client a.number b.number h in
    ap (λ (c : ℕ). Inbox (record { client = c; number = a.number })) parts.0 ∙ ap (λ (n : ℕ). Inbox (record { client = b.client; number = n })) parts.1

-- tests that agree find the same
pub lookup_same : {K X : Type 0} (p q : K → Bool) (es : List (K × X)) → ((k : K) → p k ≡ q k) → lookup p es ≡ lookup q es
lookup_same p q [] same = refl
lookup_same p q (e ∷ es) same =
    ap (λ (b : Bool). cond b (Some e.1) (lookup p es)) (same e.0) ∙ ap (λ (r : Option _). cond (q e.0) (Some e.1) r) (lookup_same p q es same)
