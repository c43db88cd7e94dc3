-- Numbers under keys, with one number put in.
use Rattle.std.proofs.Common.{◌≡◌, ℕ, Bool, true, false, cond, eqb, ltb, List, [], ◌∷◌, Option, Some, refl, sym, ap, subst, ◌∙◌}
use Rattle.std.specs.Prelude.{unwrap_or}
use Rattle.std.specs.Map.{lookup}
use Rattle.std.specs.Ordering.{nat_cmp}
use Rattle.std.specs.BTreeMap.{is_at, insert_entry}
use Rattle.std.proofs.lemmas.Bool.{eqb-true, eqb-false, eq-eqb, ne_eqb}
use Rattle.mama_link.proofs.FaultLemmas.{is_at-nat_cmp}
use Rattle.mama_script.specs.Before.{number_at}

-- the number under a key
abbrev at : ℕ → List (ℕ × ℕ) → ℕ
at key [] = 0
at key (e ∷ es) = cond (eqb key e.0) e.1 (at key es)

number_step : (here : Bool) (n : ℕ) (rest : Option ℕ) → unwrap_or (cond here (Some n) rest) 0 ≡ cond here n (unwrap_or rest 0)
number_step true n rest = refl
number_step false n rest = refl

number_is : (key : ℕ) (es : List (ℕ × ℕ)) → number_at key es ≡ at key es
number_is key [] = refl
number_is key (e ∷ es) =
    number_step (is_at (nat_cmp key) e.0) e.1 (lookup (is_at (nat_cmp key)) es)
    ∙ ap (λ (b : Bool). cond b e.1 (number_at key es)) (is_at-nat_cmp key e.0)
    ∙ ap (λ (n : ℕ). cond (eqb key e.0) e.1 n) (number_is key es)

flip_false : (a b : ℕ) (test : Bool) → eqb b a ≡ test → eqb a b ≡ test
flip_false a b true e = eq-eqb a b (sym (eqb-true b a e))
flip_false a b false e = ne_eqb a b (λ same. eqb-false b a e (sym same))

flip : (a b : ℕ) → eqb a b ≡ eqb b a
flip a b = flip_false a b (eqb b a) refl

same_key : (here : Bool) (n m : ℕ) (rest : ℕ) → cond here n rest ≡ cond here n (cond here m rest)
same_key true n m rest = refl
same_key false n m rest = refl

other_key : (here there : Bool) (n m rest : ℕ) → (here ≡ true → there ≡ true → ⊥) → cond there m (cond here n rest) ≡ cond here n (cond there m rest)
other_key true true n m rest apart = absurd (apart refl refl)
other_key true false n m rest apart = refl
other_key false true n m rest apart = refl
other_key false false n m rest apart = refl

at_step : (key k n : ℕ) (e : ℕ × ℕ) (es : List (ℕ × ℕ)) (less same : Bool) → ltb k e.0 ≡ less → eqb k e.0 ≡ same
    → at key (insert_entry nat_cmp es k n) ≡ cond (eqb key k) n (at key es) → at key (insert_entry nat_cmp (e ∷ es) k n) ≡ cond (eqb key k) n (at key (e ∷ es))
at_step key k n e es true same p q more = rw p refl
at_step key k n e es false true p q more =
    rw (p, q) (let alike : k ≡ e.0 = eqb-true k e.0 q in subst (λ (x : ℕ). cond (eqb key e.0) n (at key es) ≡ cond (eqb key x) n (cond (eqb key e.0) e.1 (at key es))) (sym alike) (same_key (eqb key e.0) n e.1 (at key es)))
at_step key k n e es false false p q more =
    rw (p, q) (ap (λ (x : ℕ). cond (eqb key e.0) e.1 x) more ∙ other_key (eqb key k) (eqb key e.0) n e.1 (at key es) (λ a b. eqb-false k e.0 q (sym (eqb-true key k a) ∙ eqb-true key e.0 b)))

at_insert : (key : ℕ) (es : List (ℕ × ℕ)) (k n : ℕ) → at key (insert_entry nat_cmp es k n) ≡ cond (eqb key k) n (at key es)
at_insert key [] k n = refl
at_insert key (e ∷ es) k n = at_step key k n e es (ltb k e.0) (eqb k e.0) refl refl (at_insert key es k n)

pub number_at-insert : (key : ℕ) (es : List (ℕ × ℕ)) (k n : ℕ) → number_at key (insert_entry nat_cmp es k n) ≡ cond (eqb k key) n (number_at key es)
number_at-insert key es k n =
    number_is key (insert_entry nat_cmp es k n) ∙ at_insert key es k n ∙ ap (λ (b : Bool). cond b n (at key es)) (flip key k) ∙ ap (λ (x : ℕ). cond (eqb k key) n x) (sym (number_is key es))
