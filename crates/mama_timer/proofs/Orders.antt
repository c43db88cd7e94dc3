-- The orders of ids and of due moments are total, and only one id ties with an id.
use Rattle.std.proofs.Common.{◌≡◌, ℕ, Bool, true, ◌&&◌, ◌==◌, sym, ap, ◌∙◌, arith}
use Rattle.std.specs.Ordering.{nat_cmp, is_eq}
use Rattle.std.specs.Cmp.{IsTotalOrder}
use Rattle.std.proofs.lemmas.Bool.{and_parts, eqb-true}
use Rattle.std.proofs.lemmas.Bool.Decides.{nat_tests}
use Rattle.std.proofs.lemmas.Cmp.{nat_cmp_total, on_total, then_total}
use Rattle.mama_event.specs.declared.ids.TimerId.{TimerId}
use Rattle.mama_event.specs.Object.{same_timer}
use Rattle.mama_timer.specs.Order.{timer_cmp, due_cmp}
use Rattle.mama_slots.proofs.Orders.{is_eq-nat_cmp, is_eq-then}

pub timer_cmp_total : IsTotalOrder timer_cmp
timer_cmp_total = then_total (on_total (λ (t : TimerId). t.client) nat_cmp_total) (on_total (λ (t : TimerId). t.number) nat_cmp_total)

pub due_cmp_total : IsTotalOrder due_cmp
due_cmp_total = then_total (on_total (λ (k : ℕ × TimerId). k.0) nat_cmp_total) (on_total (λ (k : ℕ × TimerId). k.1) timer_cmp_total)

-- an id ties with itself alone
pub timer_ties : (a c : TimerId) → is_eq (timer_cmp a c) ≡ same_timer a c
timer_ties a c = is_eq-then (nat_cmp a.client c.client) (nat_cmp a.number c.number)
    ∙ ap (λ (b : Bool). b && is_eq (nat_cmp a.number c.number)) (is_eq-nat_cmp a.client c.client)
    ∙ ap (λ (b : Bool). (a.client == c.client) && b) (is_eq-nat_cmp a.number c.number)

pub due_ties : (a c : ℕ × TimerId) → is_eq (due_cmp a c) ≡ ((a.0 == c.0) && same_timer a.1 c.1)
due_ties a c = is_eq-then (nat_cmp a.0 c.0) (timer_cmp a.1 c.1)
    ∙ ap (λ (b : Bool). b && is_eq (timer_cmp a.1 c.1)) (is_eq-nat_cmp a.0 c.0)
    ∙ ap (λ (b : Bool). (a.0 == c.0) && b) (timer_ties a.1 c.1)

-- one timer is one id
pub same_timer-is : (a c : TimerId) → same_timer a c ≡ true → a ≡ c
same_timer-is a c h =
    let parts = and_parts (a.client == c.client) (a.number == c.number) h in
    let client = eqb-true a.client c.client parts.0 in
    let number = eqb-true a.number c.number parts.1 in
    λ i. record { client = client i; number = number i }

pub same_timer-itself : (a : TimerId) → same_timer a a ≡ true
same_timer-itself a = grind (arith, nat_tests)

pub same_timer-flips : (a c : TimerId) → same_timer a c ≡ same_timer c a
same_timer-flips a c = grind (arith, nat_tests)

-- ids that tie are one, and so are due moments
pub timer_tied : (a c : TimerId) → is_eq (timer_cmp a c) ≡ true → a ≡ c
timer_tied a c h = same_timer-is a c (sym (timer_ties a c) ∙ h)

pub due_tied : (a c : ℕ × TimerId) → is_eq (due_cmp a c) ≡ true → a ≡ c
due_tied a c h =
    let parts = and_parts (a.0 == c.0) (same_timer a.1 c.1) (sym (due_ties a c) ∙ h) in
    let moment = eqb-true a.0 c.0 parts.0 in
    let timer = same_timer-is a.1 c.1 parts.1 in
    λ i. (moment i, timer i)
