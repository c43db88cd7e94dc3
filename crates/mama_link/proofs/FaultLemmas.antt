-- Lemmas on fault rows: a row more at the end of a list, and the tests of numbers that a map makes.
use Rattle.std.proofs.Common.{◌≡◌, ℕ, ◌+◌, ◌<◌, ◌==◌, Bool, true, false, cond, List, [], ◌∷◌, ◌++◌, length, Option, None, Some, if◌then◌else◌, refl, sym, ◌∙◌, ap, arith, take, drop, get_or, drop-cons, add-one, length-take, append-nil, add-zero}
use Rattle.std.proofs.lemmas.Bool.Decides.{nat_tests}
use borrow.Author.Tests.{eqb-true}
use Rattle.std.proofs.Math.Seq.{take-suc}
use Rattle.std.proofs.lemmas.List.{take_more}
use Rattle.std.specs.Ordering.{nat_cmp}
use Rattle.std.specs.Option.{option_or}
use Rattle.std.specs.List.Sorted.{IsStrictlySortedBy}
use Rattle.std.specs.BTreeMap.{is_at, insert_entry}
use Rattle.mama_link.specs.declared.faults.Fault.{Fault}
use Rattle.mama_link.specs.declared.faults.Fault.TheVariants.{Lose, Dup, Hold, Cut}
use Rattle.mama_link.specs.declared.faults.FaultRow.{FaultRow}
use Rattle.mama_link.specs.declared.faults.FaultsFault.{FaultsFault}
use Rattle.mama_link.specs.Faults.{fault_at, fault_of_row, first_fault_after}
use Rattle.mama_link.specs.Table.{holds_until, slots_due, table_from, IsTable}

-- a map over numbers finds a key where the numbers are equal
pub is_at-nat_cmp : (a b : ℕ) → is_at (nat_cmp a) b ≡ (a == b)
is_at-nat_cmp a b = grind (arith, nat_tests)

-- the last row tells a fault for its index, where no row before it does
pub fault_at-append : (rows : List FaultRow) (row : FaultRow) (i : ℕ) → fault_at (rows ++ row ∷ []) i ≡ option_or (fault_at rows i) (if row.index == i then Some row.fault else None)
fault_at-append [] row i = refl
fault_at-append (r ∷ rows) row i =
    elim (r.index == i) as (λ (b : Bool). (if b then Some r.fault else fault_at (rows ++ row ∷ []) i) ≡ option_or (if b then Some r.fault else fault_at rows i) (if row.index == i then Some row.fault else None))
    [ true ↦ refl | false ↦ fault_at-append rows row i ]

-- the slots of one entry more
pub slots_due-append : (place n : ℕ) (entries : List (ℕ × Fault)) (entry : ℕ × Fault) →
    slots_due place n (entries ++ entry ∷ []) ≡ slots_due place n entries ++ (if holds_until place entry.0 entry.1 then (n + length entries) ∷ [] else [])
slots_due-append place n [] entry = ap (λ (m : ℕ). if holds_until place entry.0 entry.1 then m ∷ [] else []) (sym (add-zero n))
slots_due-append place n (e ∷ es) entry =
    let h = slots_due-append place (n + 1) es entry in
    let same : n + 1 + length es ≡ n + length (e ∷ es) = omega arith in
    let tail : slots_due place (n + 1) (es ++ entry ∷ []) ≡ slots_due place (n + 1) es ++ (if holds_until place entry.0 entry.1 then (n + length (e ∷ es)) ∷ [] else []) =
    h ∙ ap (λ (m : ℕ). slots_due place (n + 1) es ++ (if holds_until place entry.0 entry.1 then m ∷ [] else [])) same in
    elim (holds_until place e.0 e.1) as (λ (b : Bool). (if b then n ∷ slots_due place (n + 1) (es ++ entry ∷ []) else slots_due place (n + 1) (es ++ entry ∷ [])) ≡ (if b then n ∷ slots_due place (n + 1) es else slots_due place (n + 1) es) ++ (if holds_until place entry.0 entry.1 then (n + length (e ∷ es)) ∷ [] else []))
    [ true ↦ ap (λ (ns : List ℕ). n ∷ ns) tail | false ↦ tail ]

-- a row that is not bad has an index of its own, other than 0
pub good_row_is_new : (before : List FaultRow) (row : FaultRow) → fault_of_row before row ≡ None → fault_at before row.index ≡ None
good_row_is_new before row h = grind arith

put_cases : (held : Option Fault) (fault : Fault) (b : Bool) → (b ≡ true → held ≡ None) → cond b (Some fault) held ≡ option_or held (if b then Some fault else None)
put_cases None fault true free = refl
put_cases None fault false free = refl
put_cases (Some f) fault true free = cc (free refl)
put_cases (Some f) fault false free = refl

-- what a map holds after a good row is put in
pub fault_at-put : (before : List FaultRow) (row : FaultRow) (i : ℕ) → fault_at before row.index ≡ None →
    cond (is_at (nat_cmp row.index) i) (Some row.fault) (fault_at before i) ≡ fault_at (before ++ row ∷ []) i
fault_at-put before row i new = rw (fault_at-append before row i, is_at-nat_cmp row.index i)
    (put_cases (fault_at before i) row.fault (row.index == i) (λ e. ap (fault_at before) (sym (eqb-true row.index i e)) ∙ new))

-- where no row stands, a row that is never looked at
abbrev pub no_row : FaultRow
no_row = record { index = 0; fault = Lose }

-- past a good row, the first bad row is the same
pub first_fault-good : (rows : List FaultRow) (k : ℕ) → k < length rows → fault_of_row (take k rows) (get_or rows k no_row) ≡ None →
    first_fault_after (take (k + 1) rows) (drop (k + 1) rows) ≡ first_fault_after (take k rows) (drop k rows)
first_fault-good rows k h good = rw (drop-cons rows k no_row h, good, add-one k, take-suc rows k no_row h) refl

-- a bad row that is met first is the first bad row
pub first_fault-bad : (rows : List FaultRow) (k : ℕ) (fault : FaultsFault) → k < length rows → fault_of_row (take k rows) (get_or rows k no_row) ≡ Some fault →
    first_fault_after (take k rows) (drop k rows) ≡ Some fault
first_fault-bad rows k fault h bad = rw (drop-cons rows k no_row h, bad) refl

-- the table of the rows from the k-th on
pub table_from-more : (entries : List (ℕ × Fault)) (rows : List FaultRow) (k : ℕ) → k < length rows →
    table_from (insert_entry nat_cmp entries (get_or rows k no_row).index (get_or rows k no_row).fault) (drop (k + 1) rows) ≡ table_from entries (drop k rows)
table_from-more entries rows k h = rw (drop-cons rows k no_row h, add-one k) refl

-- what a map holds after the k-th row, which is good, is put in
pub fault_at-more : (rows : List FaultRow) (k i : ℕ) → k < length rows → fault_of_row (take k rows) (get_or rows k no_row) ≡ None →
    cond (is_at (nat_cmp (get_or rows k no_row).index) i) (Some (get_or rows k no_row).fault) (fault_at (take k rows) i) ≡ fault_at (take (k + 1) rows) i
fault_at-more rows k i h good =
    fault_at-put (take k rows) (get_or rows k no_row) i (good_row_is_new (take k rows) (get_or rows k no_row) good)
    ∙ ap (λ (seen : List FaultRow). fault_at seen i) (sym (take_more rows k no_row h))

-- where no entry stands, an entry that is never looked at
abbrev pub no_entry : ℕ × Fault
no_entry = (0, Lose)

slots_due-take : (place : ℕ) (table : List (ℕ × Fault)) (k : ℕ) → k < length table →
    slots_due place 0 (take (k + 1) table) ≡ slots_due place 0 (take k table) ++ (if holds_until place (get_or table k no_entry).0 (get_or table k no_entry).1 then k ∷ [] else [])
slots_due-take place table k h =
    let long : 0 + length (take k table) ≡ k = omega (arith, length-take k table) in
    ap (slots_due place 0) (take_more table k no_entry h) ∙ slots_due-append place 0 (take k table) (get_or table k no_entry)
    ∙ ap (λ (m : ℕ). slots_due place 0 (take k table) ++ (if holds_until place (get_or table k no_entry).0 (get_or table k no_entry).1 then m ∷ [] else [])) long

if_push : (xs : List ℕ) (k : ℕ) (b : Bool) → (if b then xs ++ k ∷ [] else xs) ≡ xs ++ (if b then k ∷ [] else [])
if_push xs k true = refl
if_push xs k false = sym (append-nil xs)

-- the slots due at a place after an entry that holds its message
pub slots_due-held : (place : ℕ) (table : List (ℕ × Fault)) (k by : ℕ) (slots : List ℕ) → k < length table → (get_or table k no_entry).1 ≡ Hold by → slots ≡ slots_due place 0 (take k table) →
    (if (get_or table k no_entry).0 + by == place then slots ++ k ∷ [] else slots) ≡ slots_due place 0 (take (k + 1) table)
slots_due-held place table k by slots h held same =
    if_push slots k ((get_or table k no_entry).0 + by == place)
    ∙ ap (λ (before : List ℕ). before ++ (if (get_or table k no_entry).0 + by == place then k ∷ [] else [])) same
    ∙ ap (λ (fault : Fault). slots_due place 0 (take k table) ++ (if holds_until place (get_or table k no_entry).0 fault then k ∷ [] else [])) (sym held)
    ∙ sym (slots_due-take place table k h)

holds_until-none : (place i : ℕ) (fault : Fault) → ((by : ℕ) → fault ≡ Hold by → ⊥) → holds_until place i fault ≡ false
holds_until-none place i Lose other = refl
holds_until-none place i Dup other = refl
holds_until-none place i (Hold by) other = absurd (other by refl)
holds_until-none place i (Cut keep) other = refl

-- and after an entry that holds none
pub slots_due-other : (place : ℕ) (table : List (ℕ × Fault)) (k : ℕ) → k < length table → ((by : ℕ) → (get_or table k no_entry).1 ≡ Hold by → ⊥) →
    slots_due place 0 (take k table) ≡ slots_due place 0 (take (k + 1) table)
slots_due-other place table k h other =
    sym (append-nil (slots_due place 0 (take k table)))
    ∙ ap (λ (b : Bool). slots_due place 0 (take k table) ++ (if b then k ∷ [] else [])) (sym (holds_until-none place (get_or table k no_entry).0 (get_or table k no_entry).1 other))
    ∙ sym (slots_due-take place table k h)

-- without rows there is nothing to find
pub no_rows : IsTable [] []
unfolding IsStrictlySortedBy
no_rows = record { sound = refl; ordered = tt; found = λ i. refl; told = λ k d h. absurd (omega arith) }
