-- How many orders of a plan are for one call, row by row.
use Rattle.std.specs.Prelude.{Option, Some, None, nat_eq, unwrap_or}
use Rattle.std.proofs.Common.{◌≡◌, ℕ, ◌+◌, ◌<◌, ◌≤◌, Bool, cond, List, [], ◌∷◌, length, take, get_or, refl, ap, sym, ◌∙◌, subst, inl, inr, length-append, arith}
use Rattle.std.proofs.lemmas.Bool.{cases_eq, eq-eqb, ne_eqb}
use Rattle.std.proofs.lemmas.List.{take_all}
use Rattle.mama_event.specs.declared.order.PlanRow.{PlanRow}
use Rattle.mama_event.specs.Plan.{planned}
use Rattle.mama_listener.specs.Plan.{HasFewRows}
use Rattle.mama_listener.proofs.Plans.{planned_taken, planned_left, room_for_planned}

-- the counts of the first rows, of which none is above 8
pub record AreCounts (count : ℕ → Option ℕ) (rows : List PlanRow) (i : ℕ) : Type 0 where
  pub each : (call : ℕ) → unwrap_or (count call) 0 ≡ length (planned (take i rows) call)
  pub most : (call : ℕ) → length (planned (take i rows) call) ≤ 8

pub counts_more : (count more : ℕ → Option ℕ) (rows : List PlanRow) (i : ℕ) (row : PlanRow) → AreCounts count rows i → i < length rows → row ≡ get_or rows i row
    → unwrap_or (count row.call) 0 < 8 → ((call : ℕ) → more call ≡ cond (nat_eq row.call call) (Some (unwrap_or (count row.call) 0 + 1)) (count call))
    → AreCounts more rows (i + 1)
counts_more count more rows i row counts within here below updated = record {
  each = λ call. elim (cases_eq row.call call) [
    | inl same ↦
        ap (λ (x : Option ℕ). unwrap_or x 0) (updated call ∙ ap (λ (b : Bool). cond b (Some (unwrap_or (count row.call) 0 + 1)) (count call)) (eq-eqb row.call call same))
        ∙ ap (λ (n : ℕ). n + 1) (ap (λ (c : ℕ). unwrap_or (count c) 0) same ∙ counts.each call)
        ∙ sym (taken call same)
    | inr other ↦
        ap (λ (x : Option ℕ). unwrap_or x 0) (updated call ∙ ap (λ (b : Bool). cond b (Some (unwrap_or (count row.call) 0 + 1)) (count call)) (ne_eqb row.call call other))
        ∙ counts.each call ∙ sym (left call other)
  ];
  most = λ call. elim (cases_eq row.call call) [
    | inl same ↦ omega (arith, taken call same, counts.each call, ap (λ (c : ℕ). unwrap_or (count c) 0) same, below)
    | inr other ↦ omega (arith, left call other, counts.most call)
  ];
}
  where
    taken : (call : ℕ) → row.call ≡ call → length (planned (take (i + 1) rows) call) ≡ length (planned (take i rows) call) + 1
    taken call same =
        ap length (planned_taken rows i row call within (ap (λ (r : PlanRow). r.call) (sym here) ∙ same))
        ∙ length-append (planned (take i rows) call) ((get_or rows i row).order ∷ [])

    left : (call : ℕ) → (row.call ≡ call → ⊥) → length (planned (take (i + 1) rows) call) ≡ length (planned (take i rows) call)
    left call other = ap length (planned_left rows i row call within (λ same. other (ap (λ (r : PlanRow). r.call) here ∙ same)))

pub counts_none : (count : ℕ → Option ℕ) (rows : List PlanRow) → ((call : ℕ) → count call ≡ None) → AreCounts count rows 0
counts_none count rows none = record { each = λ call. ap (λ (x : Option ℕ). unwrap_or x 0) (none call) ∙ sym (nothing rows call); most = λ call. omega (arith, ap (λ (n : ℕ). n) (nothing rows call)) }
  where
    nothing : (rs : List PlanRow) (call : ℕ) → length (planned (take 0 rs) call) ≡ 0
    nothing [] call = refl
    nothing (r ∷ rs) call = refl

pub few_counted : (count : ℕ → Option ℕ) (rows : List PlanRow) (i : ℕ) → AreCounts count rows i → length rows ≤ i → HasFewRows rows
few_counted count rows i counts whole = record { most = λ call. subst (λ (rs : List PlanRow). length (planned rs call) ≤ 8) (take_all i rows whole) (counts.most call) }

-- a row whose call had 8 orders before it is one too many
pub one_too_many : (count : ℕ → Option ℕ) (rows : List PlanRow) (i : ℕ) (row : PlanRow) → AreCounts count rows i → i < length rows → row ≡ get_or rows i row
    → 8 ≤ unwrap_or (count row.call) 0 → HasFewRows rows → ⊥
one_too_many count rows i row counts within here many few =
    omega (arith, counts.each row.call, room_for_planned rows i row row.call few within (ap (λ (r : PlanRow). r.call) (sym here)), many)
