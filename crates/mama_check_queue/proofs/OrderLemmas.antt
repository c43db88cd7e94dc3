-- The orders of plans, row by row and object by object.
use Rattle.std.specs.Prelude.{Option, Some, None, nat_eq, unwrap_or, is_some, if◌then◌else◌}
use Rattle.std.specs.Map.{lookup}
use Rattle.std.specs.Option.{option_or}
use Rattle.std.proofs.Common.{◌≡◌, ℕ, zero, suc, ◌+◌, ◌<◌, ◌≤◌, ◌==◌, Bool, true, false, cond, List, [], ◌∷◌, ◌++◌, length, map, filter, take, get_or, refl, ap, sym, ◌∙◌, subst, inl, inr, true≢false, arith}
use Rattle.std.proofs.lemmas.Bool.{cases_eq, eq-eqb, ne_eqb}
use Rattle.std.proofs.lemmas.List.{take_more, take_all, map-append}
use Rattle.mama_journal.specs.Journal.{first_said}
use Rattle.mama_event.specs.declared.ids.ObjectId.{ObjectId}
use Rattle.mama_event.specs.declared.order.Order.{Order}
use Rattle.mama_event.specs.declared.order.PlanRow.{PlanRow}
use Rattle.mama_event.specs.Object.{same_object}
use Rattle.mama_event.specs.Plan.{planned}
use Rattle.mama_listener.proofs.Plans.{planned_taken, planned_left}
use Rattle.mama_rules_rounds.specs.Client.{Planned}
use Rattle.mama_rules_rounds.specs.Setting.{plan_in, rows_of}
use Rattle.mama_plans.specs.declared.plans.PlannedObject.{PlannedObject}
use Rattle.mama_plans.specs.Plans.{planned_object, planned_objects, IsFew, AreFew}
use Rattle.indexmap.specs.IndexMap.{IndexMap, get}
use Rattle.mama_dispatch.proofs.DeedLemmas.{same_object-true}
use Rattle.mama_check_queue.specs.Orders.{IsPlanOf, AreFound}

-- ---- the rows of one plan

-- the orders of the first rows are found by their calls
pub record AreGiven (found : ℕ → Option (List Order)) (rows : List PlanRow) (i : ℕ) : Type 0 where
  pub each : (call : ℕ) → unwrap_or (found call) [] ≡ planned (take i rows) call

pub given_none : (found : ℕ → Option (List Order)) (rows : List PlanRow) → ((call : ℕ) → found call ≡ None) → AreGiven found rows 0
given_none found rows none = record { each = λ call. ap (λ (x : Option (List Order)). unwrap_or x []) (none call) ∙ sym (nothing rows call) }
  where
    nothing : (rs : List PlanRow) (call : ℕ) → planned (take 0 rs) call ≡ []
    nothing [] call = refl
    nothing (r ∷ rs) call = refl

pub given_more : (found more : ℕ → Option (List Order)) (rows : List PlanRow) (i : ℕ) (row : PlanRow) (orders : List Order) → AreGiven found rows i → i < length rows → row ≡ get_or rows i row
    → orders ≡ unwrap_or (found row.call) [] ++ row.order ∷ [] → ((call : ℕ) → more call ≡ cond (nat_eq row.call call) (Some orders) (found call)) → AreGiven more rows (i + 1)
given_more found more rows i row orders given within here is updated = record {
  each = λ call. elim (cases_eq row.call call) [
    | inl same ↦
        ap (λ (x : Option (List Order)). unwrap_or x []) (updated call ∙ ap (λ (b : Bool). cond b (Some orders) (found call)) (eq-eqb row.call call same))
        ∙ is ∙ ap (λ (c : ℕ). unwrap_or (found c) [] ++ row.order ∷ []) same
        ∙ ap (λ (os : List Order). os ++ row.order ∷ []) (given.each call)
        ∙ ap (λ (r : PlanRow). planned (take i rows) call ++ r.order ∷ []) here
        ∙ sym (planned_taken rows i row call within (ap (λ (r : PlanRow). r.call) (sym here) ∙ same))
    | inr other ↦
        ap (λ (x : Option (List Order)). unwrap_or x []) (updated call ∙ ap (λ (b : Bool). cond b (Some orders) (found call)) (ne_eqb row.call call other))
        ∙ given.each call ∙ sym (planned_left rows i row call within (λ same. other (ap (λ (r : PlanRow). r.call) here ∙ same)))
  ];
}

pub given_all : (found : ℕ → Option (List Order)) (rows : List PlanRow) (i : ℕ) → AreGiven found rows i → length rows ≤ i → (call : ℕ) → unwrap_or (found call) [] ≡ planned rows call
given_all found rows i given whole call = given.each call ∙ ap (λ (rs : List PlanRow). planned rs call) (take_all i rows whole)

-- the orders so far leave room for the next row's
fewer : (rows : List PlanRow) (i : ℕ) (row : PlanRow) (call : ℕ) → i < length rows → row ≡ get_or rows i row → row.call ≡ call
    → suc (length (planned (take i rows) call)) ≤ length (planned rows call)
fewer [] i row call within here same = absurd (omega (arith, within))
fewer (first ∷ rows) zero row call within here same = own (first.call == call) (eq-eqb first.call call (ap (λ (r : PlanRow). r.call) (sym here) ∙ same))
  where
    own : (b : Bool) → b ≡ true
        → 1 ≤ length (map (λ (r : PlanRow). r.order) (if b then first ∷ filter (λ (r : PlanRow). r.call == call) rows else filter (λ (r : PlanRow). r.call == call) rows))
    own true is = omega arith
    own false is = absurd (true≢false (sym is))
fewer (first ∷ rows) (suc i) row call within here same = more (first.call == call) (fewer rows i row call (omega (arith, within)) here same)
  where
    more : (b : Bool) → suc (length (planned (take i rows) call)) ≤ length (planned rows call)
        → suc (length (map (λ (r : PlanRow). r.order) (if b then first ∷ filter (λ (r : PlanRow). r.call == call) (take i rows) else filter (λ (r : PlanRow). r.call == call) (take i rows))))
        ≤ length (map (λ (r : PlanRow). r.order) (if b then first ∷ filter (λ (r : PlanRow). r.call == call) rows else filter (λ (r : PlanRow). r.call == call) rows))
    more true less = omega (arith, less)
    more false less = less

pub has_room : (found : ℕ → Option (List Order)) (rows : List PlanRow) (i : ℕ) (row : PlanRow) (orders : List Order) → AreGiven found rows i → i < length rows → row ≡ get_or rows i row
    → orders ≡ unwrap_or (found row.call) [] → IsFew rows → length orders < 8
has_room found rows i row orders given within here are few =
    let so_far : length orders ≡ length (planned (take i rows) row.call) = ap (λ (os : List Order). length os) (are ∙ given.each row.call) in
    let less : suc (length (planned (take i rows) row.call)) ≤ length (planned rows row.call) = fewer rows i row row.call within here refl in
    let all : length (planned rows row.call) ≤ 8 = few row.call in
    omega arith

-- the plan of one object of some
pub few_at : (objects : List PlannedObject) (i : ℕ) (p : PlannedObject) → i < length objects → p ≡ get_or objects i p → AreFew (planned_objects objects) → IsFew (planned_object p).plan
few_at [] i p within here few = absurd (omega (arith, within))
few_at (x ∷ objects) zero p within here few = subst (λ (o : PlannedObject). IsFew (planned_object o).plan) (sym here) few.0
few_at (x ∷ objects) (suc i) p within here few = few_at objects i p (omega (arith, within)) here few.1

-- ---- all objects

-- tests that agree find the same
pub lookup_same : {K X : Type 0} (p q : K → Bool) (es : List (K × X)) → ((k : K) → p k ≡ q k) → lookup p es ≡ lookup q es
lookup_same p q [] same = refl
lookup_same p q (e ∷ es) same =
    ap (λ (b : Bool). cond b (Some e.1) (lookup p es)) (same e.0) ∙ ap (λ (r : Option _). cond (q e.0) (Some e.1) r) (lookup_same p q es same)

-- no plan is found
pub found_none : {S T : Type 0} (m : IndexMap ObjectId (IndexMap ℕ (List Order) S) T) (objects : List PlannedObject) → m.entries ≡ [] → AreFound m (planned_objects (take 0 objects))
found_none {S} m objects none = record {
  each = λ o. subst (λ (f : Option (IndexMap ℕ (List Order) S)). IsPlanOf f (first_said (plan_in o) (planned_objects (take 0 objects)))) (sym (ap (lookup (same_object o)) none)) (nothing o objects);
}
  where
    nothing : (o : ObjectId) (ps : List PlannedObject) → IsPlanOf {S = S} None (first_said (plan_in o) (planned_objects (take 0 ps)))
    nothing o [] = tt
    nothing o (p ∷ ps) = tt

said_push : (o : ObjectId) (ps : List Planned) (p : Planned) → first_said (plan_in o) (ps ++ p ∷ []) ≡ option_or (first_said (plan_in o) ps) (plan_in o p)
said_push o [] p = none_after (plan_in o p)
  where
    none_after : (m : Option (List PlanRow)) → option_or m None ≡ m
    none_after None = refl
    none_after (Some k) = refl
said_push o (f ∷ fs) p = ap (option_or (plan_in o f)) (said_push o fs p) ∙ or_after (plan_in o f) (first_said (plan_in o) fs) (plan_in o p)
  where
    or_after : (a b c : Option (List PlanRow)) → option_or a (option_or b c) ≡ option_or (option_or a b) c
    or_after None b c = refl
    or_after (Some k) b c = refl

next_new : {S : Type 0} (f : Option (IndexMap ℕ (List Order) S)) (g : Option (List PlanRow)) (b : Bool) (new : IndexMap ℕ (List Order) S) (rows : List PlanRow) → IsPlanOf f g → (b ≡ true → is_some f ≡ false)
    → ((call : ℕ) → unwrap_or (get nat_eq new call) [] ≡ planned rows call) → IsPlanOf (cond b (Some new) f) (option_or g (if b then Some rows else None))
next_new None None true new rows known absent is = is
next_new None (Some r) true new rows known absent is = absurd known
next_new (Some m) g true new rows known absent is = absurd (true≢false (absent refl))
next_new None None false new rows known absent is = tt
next_new None (Some r) false new rows known absent is = absurd known
next_new (Some m) None false new rows known absent is = absurd known
next_new (Some m) (Some r) false new rows known absent is = known

next_kept : {S : Type 0} (f : Option (IndexMap ℕ (List Order) S)) (g : Option (List PlanRow)) (b : Bool) (rows : List PlanRow) → IsPlanOf f g → (b ≡ true → is_some f ≡ true)
    → IsPlanOf f (option_or g (if b then Some rows else None))
next_kept None None true rows known there = absurd (true≢false (sym (there refl)))
next_kept None None false rows known there = tt
next_kept None (Some r) b rows known there = absurd known
next_kept (Some m) None b rows known there = absurd known
next_kept (Some m) (Some r) b rows known there = known

-- an object more, which was not there
pub found_new : {S T : Type 0} (m n : IndexMap ObjectId (IndexMap ℕ (List Order) S) T) (before : List Planned) (p : Planned) (new : IndexMap ℕ (List Order) S)
    → AreFound m before → is_some (get same_object m p.object) ≡ false → ((call : ℕ) → unwrap_or (get nat_eq new call) [] ≡ planned p.plan call)
    → ((o : ObjectId) → get same_object n o ≡ cond (same_object p.object o) (Some new) (get same_object m o)) → AreFound n (before ++ p ∷ [])
found_new {S} m n before p new found absent is updated = record {
  each = λ o.
      let g : Option (List PlanRow) = first_said (plan_in o) before in
      let next : IsPlanOf (cond (same_object p.object o) (Some new) (get same_object m o)) (option_or g (plan_in o p)) =
      next_new (get same_object m o) g (same_object p.object o) new p.plan (found.each o) (λ same. ap (λ (x : ObjectId). is_some (get same_object m x)) (sym (same_object-true p.object o same)) ∙ absent) is in
      subst (λ (x : Option (List PlanRow)). IsPlanOf (get same_object n o) x) (sym (said_push o before p))
      (subst (λ (f : Option (IndexMap ℕ (List Order) S)). IsPlanOf f (option_or g (plan_in o p))) (sym (updated o)) next);
}

-- an object more, which was there
pub found_kept : {S T : Type 0} (m : IndexMap ObjectId (IndexMap ℕ (List Order) S) T) (before : List Planned) (p : Planned) → AreFound m before → is_some (get same_object m p.object) ≡ true
    → AreFound m (before ++ p ∷ [])
found_kept {S} m before p found there = record {
  each = λ o.
      subst (λ (x : Option (List PlanRow)). IsPlanOf (get same_object m o) x) (sym (said_push o before p))
      (next_kept (get same_object m o) (first_said (plan_in o) before) (same_object p.object o) p.plan (found.each o) (λ same. ap (λ (x : ObjectId). is_some (get same_object m x)) (sym (same_object-true p.object o same)) ∙ there));
}

-- the plans of one object more of some
pub found_more : {S T : Type 0} (m : IndexMap ObjectId (IndexMap ℕ (List Order) S) T) (objects : List PlannedObject) (i : ℕ) (p : PlannedObject) → i < length objects → p ≡ get_or objects i p
    → AreFound m (planned_objects (take i objects) ++ planned_object p ∷ []) → AreFound m (planned_objects (take (i + 1) objects))
found_more m objects i p within here found =
    subst (λ (ps : List Planned). AreFound m ps)
    (sym (ap planned_objects (take_more objects i p within ∙ ap (λ (x : PlannedObject). take i objects ++ x ∷ []) (sym here)) ∙ map-append planned_object (take i objects) (p ∷ []))) found

pub found_all : {S T : Type 0} (m : IndexMap ObjectId (IndexMap ℕ (List Order) S) T) (objects : List PlannedObject) (i : ℕ) → AreFound m (planned_objects (take i objects)) → length objects ≤ i
    → AreFound m (planned_objects objects)
found_all m objects i found whole = subst (λ (ps : List PlannedObject). AreFound m (planned_objects ps)) (take_all i objects whole) found

-- the orders that are found are the plan's
pub orders_found : {S : Type 0} (f : Option (IndexMap ℕ (List Order) S)) (m : IndexMap ℕ (List Order) S) (g : Option (List PlanRow)) (call : ℕ) → f ≡ Some m → IsPlanOf f g → unwrap_or (get nat_eq m call) [] ≡ planned (rows_of g) call
orders_found None m g call is known = cc is
orders_found (Some n) m None call is known = absurd known
orders_found {S} (Some n) m (Some rows) call is known =
    let same : n ≡ m = cc in ap (λ (x : IndexMap ℕ (List Order) S). unwrap_or (get nat_eq x call) []) (sym same) ∙ known call

pub orders_none : {S : Type 0} (f : Option (IndexMap ℕ (List Order) S)) (g : Option (List PlanRow)) (call : ℕ) → f ≡ None → IsPlanOf f g → [] ≡ planned (rows_of g) call
orders_none None None call is known = refl
orders_none None (Some rows) call is known = absurd known
orders_none (Some n) g call is known = cc is
