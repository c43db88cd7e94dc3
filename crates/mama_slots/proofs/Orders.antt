-- The order of places: only one place ties with a place.
use Rattle.std.proofs.Common.{◌≡◌, ℕ, Bool, ◌&&◌, ◌==◌, refl, ap, ◌∙◌, arith, Ordering, Less, Equal, Greater}
use Rattle.std.specs.Ordering.{nat_cmp, ordering_then, is_eq}
use Rattle.std.proofs.lemmas.Bool.Decides.{nat_tests}
use Rattle.mama_slots.specs.Slots.{place_cmp}

pub is_eq-nat_cmp : (a c : ℕ) → is_eq (nat_cmp a c) ≡ (a == c)
is_eq-nat_cmp a c = grind (arith, nat_tests)

pub is_eq-then : (o p : Ordering) → is_eq (ordering_then o p) ≡ (is_eq o && is_eq p)
is_eq-then Less p = refl
is_eq-then Equal p = refl
is_eq-then Greater p = refl

pub place_ties : (a c : ℕ × ℕ) → is_eq (place_cmp a c) ≡ ((a.0 == c.0) && (a.1 == c.1))
place_ties a c = is_eq-then (nat_cmp a.0 c.0) (nat_cmp a.1 c.1)
    ∙ ap (λ (b : Bool). b && is_eq (nat_cmp a.1 c.1)) (is_eq-nat_cmp a.0 c.0)
    ∙ ap (λ (b : Bool). (a.0 == c.0) && b) (is_eq-nat_cmp a.1 c.1)
