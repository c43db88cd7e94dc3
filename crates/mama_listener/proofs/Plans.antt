-- The orders of a plan for one call, row by row.
use Rattle.std.specs.Prelude.{filter, map, not, if◌then◌else◌, Some, Result, Ok, Err, is_ok, OnOk}
use Rattle.std.specs.Ordering.{nat_cmp, is_lt, is_le, is_some_and}
use Rattle.std.specs.List.{IsAllAdjacentAnswer}
use Rattle.std.proofs.lemmas.List.Sorted.{IsNonDecreasingBy-from_all_adjacent}
use Rattle.std.specs.List.Sorted.{IsNonDecreasingBy, IsStableByKey}
use Rattle.std.proofs.Common.{◌≡◌, ℕ, zero, suc, ◌+◌, ◌<◌, ◌≤◌, Bool, true, false, cond, ◌&&◌, ◌==◌, List, [], ◌∷◌, ◌++◌, length, take, drop, get_or, refl, ap, sym, ◌∙◌, inl, inr, append-nil, append_assoc, length-append, arith}
use Rattle.std.proofs.lemmas.List.{take_more, take_all, take-append-drop, get_or_default}
use Rattle.std.proofs.lemmas.Bool.{ne_eqb, eq-eqb, cases_eq, false≢true}
use Rattle.std.proofs.lemmas.Grind.{common_steps}
use Rattle.mama_event.specs.declared.order.Order.{Order}
use Rattle.mama_event.specs.declared.order.Order.TheVariants as order
use Rattle.mama_event.specs.declared.order.PlanRow.{PlanRow}
use Rattle.mama_event.specs.Plan.{planned}
use Rattle.mama_listener.specs.Passed.{IsPassed}
use Rattle.mama_listener.specs.Plan.{call_of, HasFewRows, IsSameByCall}

-- the order of a row, if it is for this call
abbrev pub given_by : ℕ → PlanRow → List Order
given_by call row = if row.call == call then row.order ∷ [] else []

pub planned-cons : (row : PlanRow) (rows : List PlanRow) (call : ℕ) → planned (row ∷ rows) call ≡ given_by call row ++ planned rows call
planned-cons row rows call =
    let rest : List PlanRow = filter (λ (r : PlanRow). r.call == call) rows in
    elim (row.call == call) as (λ b. map (λ (r : PlanRow). r.order) (cond b (row ∷ rest) rest) ≡ (if b then row.order ∷ [] else []) ++ map (λ (r : PlanRow). r.order) rest) [
      | true ↦ refl
      | false ↦ refl
    ]

pub planned-append : (xs ys : List PlanRow) (call : ℕ) → planned (xs ++ ys) call ≡ planned xs call ++ planned ys call
planned-append [] ys call = refl
planned-append (x ∷ xs) ys call =
    planned-cons x (xs ++ ys) call
    ∙ ap (λ (os : List Order). given_by call x ++ os) (planned-append xs ys call)
    ∙ sym (append_assoc (given_by call x) (planned xs call) (planned ys call))
    ∙ ap (λ (os : List Order). os ++ planned ys call) (sym (planned-cons x xs call))

-- one row more
pub planned-more : (rows : List PlanRow) (i : ℕ) (d : PlanRow) (call : ℕ) → i < length rows
    → planned (take (i + 1) rows) call ≡ planned (take i rows) call ++ given_by call (get_or rows i d)
planned-more rows i d call within =
    ap (λ (rs : List PlanRow). planned rs call) (take_more rows i d within)
    ∙ planned-append (take i rows) (get_or rows i d ∷ []) call
    ∙ ap (λ (os : List Order). planned (take i rows) call ++ os) (planned-cons (get_or rows i d) [] call ∙ append-nil (given_by call (get_or rows i d)))

-- a row of this call, and one of another
pub planned_taken : (rows : List PlanRow) (i : ℕ) (d : PlanRow) (call : ℕ) → i < length rows → (get_or rows i d).call ≡ call
    → planned (take (i + 1) rows) call ≡ planned (take i rows) call ++ (get_or rows i d).order ∷ []
planned_taken rows i d call within same =
    planned-more rows i d call within
    ∙ ap (λ (b : Bool). planned (take i rows) call ++ (if b then (get_or rows i d).order ∷ [] else [])) (eq-eqb (get_or rows i d).call call same)

pub planned_left : (rows : List PlanRow) (i : ℕ) (d : PlanRow) (call : ℕ) → i < length rows → ((get_or rows i d).call ≡ call → ⊥)
    → planned (take (i + 1) rows) call ≡ planned (take i rows) call
planned_left rows i d call within other =
    planned-more rows i d call within
    ∙ ap (λ (b : Bool). planned (take i rows) call ++ (if b then (get_or rows i d).order ∷ [] else [])) (ne_eqb _ _ other)
    ∙ append-nil (planned (take i rows) call)

-- part of the rows has at most the orders of all
pub planned_part : (rows : List PlanRow) (i : ℕ) (call : ℕ) → length (planned (take i rows) call) ≤ length (planned rows call)
planned_part rows i call =
    let split : planned (take i rows) call ++ planned (drop i rows) call ≡ planned rows call =
    sym (planned-append (take i rows) (drop i rows) call) ∙ ap (λ (rs : List PlanRow). planned rs call) (take-append-drop i rows) in
    omega (arith, ap length split, length-append (planned (take i rows) call) (planned (drop i rows) call))

-- so there is room for one more
pub room_for_planned : (rows : List PlanRow) (i : ℕ) (d : PlanRow) (call : ℕ) → HasFewRows rows → i < length rows → (get_or rows i d).call ≡ call
    → length (planned (take i rows) call) < 8
room_for_planned rows i d call few within same =
    omega (arith, few.most call, planned_part rows (i + 1) call, ap length (planned_taken rows i d call within same), length-append (planned (take i rows) call) ((get_or rows i d).order ∷ []))

-- rows of earlier calls have no order for this one
pub planned_passed : (rows : List PlanRow) (place call : ℕ) → IsPassed rows place call → planned (take place rows) call ≡ []
planned_passed [] zero call passed = refl
planned_passed [] (suc n) call passed = refl
planned_passed (r ∷ rs) zero call passed = refl
planned_passed (r ∷ rs) (suc n) call passed =
    let early : r.call < call = passed.each 0 r (omega arith) in
    planned-cons r (take n rs) call
    ∙ ap (λ (b : Bool). (if b then r.order ∷ [] else []) ++ planned (take n rs) call) (ne_eqb r.call call (λ same. omega arith))
    ∙ planned_passed rs n call (record { each = λ k d below. passed.each (suc k) d (omega arith) })

-- rows of later calls have none either
planned_late : (rows : List PlanRow) (i call : ℕ) → ((k : ℕ) (d : PlanRow) → i ≤ k → k < length rows → call < (get_or rows k d).call)
    → planned rows call ≡ planned (take i rows) call
planned_late [] zero call late = refl
planned_late [] (suc n) call late = refl
planned_late (r ∷ rs) zero call late =
    let here : call < r.call = late 0 r (omega arith) (omega arith) in
    planned-cons r rs call
    ∙ ap (λ (b : Bool). (if b then r.order ∷ [] else []) ++ planned rs call) (ne_eqb r.call call (λ same. omega arith))
    ∙ planned_late rs zero call (λ k d from below. late (suc k) d (omega arith) (omega arith))
planned_late (r ∷ rs) (suc n) call late =
    planned-cons r rs call
    ∙ ap (λ (os : List Order). given_by call r ++ os) (planned_late rs n call (λ k d from below. late (suc k) d (omega arith) (omega arith)))
    ∙ sym (planned-cons r (take n rs) call)

-- where the rows ascend, none is needed from the first of a later call on
pub planned_before : (rows : List PlanRow) (i : ℕ) (d : PlanRow) (call : ℕ) → IsNonDecreasingBy call_of rows → i < length rows
    → call < (get_or rows i d).call → planned (take i rows) call ≡ planned rows call
planned_before rows i d call ascend within late =
    sym (planned_late rows i call (λ k e from below. omega (arith, ascend i k e from below, ap call_of (get_or_default rows i d e within))))

-- all rows
pub planned_whole : (rows : List PlanRow) (i call : ℕ) → length rows ≤ i → planned (take i rows) call ≡ planned rows call
planned_whole rows i call past = ap (λ (rs : List PlanRow). planned rs call) (take_all i rows past)

-- one row more is passed
pub passed_more : (rows : List PlanRow) (i call : ℕ) (row : PlanRow) → IsPassed rows i call → i < length rows → row ≡ get_or rows i row → row.call < call
    → IsPassed rows (i + 1) call
passed_more rows i call row passed within here early = record {
  each = λ k d below. elim (cases_eq k i) [
    | inl same ↦ omega (arith, ap (λ (j : ℕ). (get_or rows j d).call) same, ap call_of here, ap call_of (get_or_default rows i d row within))
    | inr other ↦ passed.each k d (omega arith)
  ];
}

-- what is passed for a call is passed for the next
pub passed_later : (rows : List PlanRow) (i call later : ℕ) → IsPassed rows i call → call ≤ later → IsPassed rows i later
passed_later rows i call later passed le = record { each = λ k d below. omega (arith, passed.each k d below) }

-- an order that keeps what ties in order keeps the plan
filter_same : (p q : PlanRow → Bool) (rows : List PlanRow) → ((r : PlanRow) → p r ≡ q r) → filter p rows ≡ filter q rows
filter_same p q [] same = refl
filter_same p q (r ∷ rs) same =
    ap (λ (b : Bool). cond b (r ∷ filter p rs) (filter p rs)) (same r)
    ∙ ap (λ (kept : List PlanRow). cond (q r) (r ∷ kept) kept) (filter_same p q rs same)

-- two calls tie where they are one
tie : (a b : ℕ) → (not (is_lt (nat_cmp b a)) && not (is_lt (nat_cmp a b))) ≡ (a == b)
tie a b = grind (arith, common_steps)

pub same_by_call : (before after : List PlanRow) → IsStableByKey call_of nat_cmp before after → IsSameByCall before after
same_by_call before after stable = record {
  same = λ call.
      let any : PlanRow = record { call = call; order = order.Stop (record { client = 0; number = 0 }) } in
      ap (λ (rs : List PlanRow). map (λ (r : PlanRow). r.order) rs)
      (sym (filter_same _ (λ (r : PlanRow). r.call == call) after (λ r. tie r.call call)) ∙ stable any ∙ filter_same _ (λ (r : PlanRow). r.call == call) before (λ r. tie r.call call));
}

-- what a call that went well ensures
pub on_ok : {T E P : Type 0} (r : Result T E) → is_ok r ≡ true → OnOk r P → P
on_ok (Ok x) went h = h
on_ok (Err e) went h = absurd (false≢true went)

-- rows of which each and the next are in order ascend
not_after : (a b : ℕ) → true ≡ is_some_and is_le (Some (nat_cmp a b)) → a ≤ b
not_after a b tested = grind (arith, common_steps)

pub ascend_by_pairs : (rows : List PlanRow) (answer : Bool) → IsAllAdjacentAnswer (λ (x y : PlanRow) (b : Bool). b ≡ is_some_and is_le (Some (nat_cmp x.call y.call))) rows answer → answer ≡ true → IsNonDecreasingBy call_of rows
ascend_by_pairs rows true pairs tested = IsNonDecreasingBy-from_all_adjacent call_of rows (λ k d within. not_after _ _ (pairs k d within))
ascend_by_pairs rows false pairs tested = absurd (false≢true tested)
