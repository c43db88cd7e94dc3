-- The entry at the cursor tells what befalls the next message, and the cursor moves on past it.
use Rattle.std.proofs.Common.{◌≡◌, ◌≢◌, ℕ, ◌+◌, ◌<◌, ◌≤◌, ◌==◌, Bool, true, false, List, [], ◌∷◌, ◌++◌, length, Option, None, Some, is_some, refl, sym, ◌∙◌, ap, arith, get_or, eqb-true, subst, if◌then◌else◌, suc, zero, inl, inr}
use Rattle.std.specs.Prelude.{slice_get}
use Rattle.std.specs.Map.{keys_of}
use Rattle.std.specs.Ordering.{nat_cmp}
use Rattle.std.specs.declared.cmp.Ordering.TheVariants.{Less, Greater}
use Rattle.std.specs.List.Sorted.{IsStrictlySortedBy}
use Rattle.std.proofs.lemmas.Bool.Decides.{nat_tests}
use Rattle.std.proofs.Math.Nat.{eq-or-lt_of_le}
use Rattle.std.proofs.lemmas.Cmp.{nat_cmp_total}
use Rattle.std.proofs.lemmas.Map.Entries.{lookup_at_gap, length-keys_of}
use Rattle.std.proofs.lemmas.Map.Keys.{below_from_sorted}
use Rattle.std.proofs.lemmas.Option.{slice_get_within, get_or_from_slice_get}
use Rattle.mama_link.specs.declared.faults.Fault.{Fault}
use Rattle.mama_link.specs.declared.faults.Fault.TheVariants.{Lose, Dup, Hold, Cut}
use Rattle.std.specs.Option.{option_or}
use Rattle.mama_link.specs.declared.faults.FaultRow.{FaultRow}
use Rattle.mama_link.specs.declared.faults.FaultsFault.{FaultsFault}
use Rattle.mama_link.specs.declared.faults.FaultsFault.TheVariants.{Repeated, ZeroHold, ZeroIndex}
use Rattle.mama_link.specs.Faults.{fault_at, first_fault, first_fault_after, fault_of_row, is_zero_hold}
use Rattle.mama_link.specs.Table.{IsTable}
use Rattle.mama_link.specs.Slots.{no_entry, fault_here, IsCaughtUp}
use Rattle.mama_link.proofs.LinkLemmas.{HoldsByMore}

above_is_greater : (a b : ℕ) → b < a → nat_cmp a b ≡ Greater
above_is_greater a b h = grind (arith, nat_tests)

below_is_less : (a b : ℕ) → a < b → nat_cmp a b ≡ Less
below_is_less a b h = grind (arith, nat_tests)

differs : (a b : ℕ) → (a == b) ≡ false → a ≢ b
differs a b h e = grind (arith, nat_tests)

key_at : (entries : List (ℕ × Fault)) (k : ℕ) → get_or (keys_of entries) k 0 ≡ (get_or entries k no_entry).0
key_at [] k = refl
key_at (e ∷ es) zero = refl
key_at (e ∷ es) (suc k) = key_at es k

-- indexes ascend
entry_below : (entries : List (ℕ × Fault)) (i j : ℕ) → IsStrictlySortedBy nat_cmp (keys_of entries) → i < j → j < length entries → (get_or entries i no_entry).0 < (get_or entries j no_entry).0
entry_below entries i j ordered h k =
    let within : j < length (keys_of entries) = omega (arith, k, length-keys_of entries) in
    let below : get_or (keys_of entries) i 0 < get_or (keys_of entries) j 0 = below_from_sorted (keys_of entries) i j 0 ordered h within in
    omega (arith, below, key_at entries i, key_at entries j)

module _ (rows : List FaultRow) (table : List (ℕ × Fault)) (passed cursor : ℕ) (is : IsTable rows table) (caught : IsCaughtUp table passed cursor) where
  -- where the entry at the cursor is not that of the next place, no row is
  none_here : ((e : ℕ × Fault) → slice_get table cursor ≡ Some e → e.0 ≢ passed + 1) → fault_at rows (passed + 1) ≡ None
  none_here other =
      sym (is.found (passed + 1)) ∙ lookup_at_gap nat_cmp_total (passed + 1) table cursor is.ordered
      (λ j e h at.
      let within : j < length table = slice_get_within table j e at in
      let same : get_or table j no_entry ≡ e = get_or_from_slice_get table j e no_entry at in
      let early : (get_or table j no_entry).0 ≤ passed = caught.before j h in
      let key : (get_or table j no_entry).0 ≡ e.0 = ap (λ (x : ℕ × Fault). x.0) same in
      above_is_greater (passed + 1) e.0 (omega arith))
      (λ e at.
      let within : cursor < length table = slice_get_within table cursor e at in
      let same : get_or table cursor no_entry ≡ e = get_or_from_slice_get table cursor e no_entry at in
      let late : passed < (get_or table cursor no_entry).0 = caught.after cursor (omega arith) within in
      let key : (get_or table cursor no_entry).0 ≡ e.0 = ap (λ (x : ℕ × Fault). x.0) same in
      let no : e.0 ≢ passed + 1 = other e at in
      below_is_less (passed + 1) e.0 (omega arith))

  told_here : (e : ℕ × Fault) → slice_get table cursor ≡ Some e → fault_at rows e.0 ≡ Some e.1
  told_here e at =
      let same : get_or table cursor e ≡ e = get_or_from_slice_get table cursor e e at in
      let Told : ℕ × Fault → Type 0 = λ (x : ℕ × Fault). fault_at rows x.0 ≡ Some x.1 in
      subst Told same (is.told cursor e (slice_get_within table cursor e at))

  by_test : (e : ℕ × Fault) → slice_get table cursor ≡ Some e → (b : Bool) → (e.0 == passed + 1) ≡ b → (if b then Some e.1 else None) ≡ fault_at rows (passed + 1)
  by_test e at true h = sym (told_here e at) ∙ ap (fault_at rows) (eqb-true e.0 (passed + 1) h)
  by_test e at false h = sym (none_here (λ x here same. let one : e ≡ x = cc in differs e.0 (passed + 1) h (ap (λ (y : ℕ × Fault). y.0) one ∙ same)))

  by_entry : (o : Option (ℕ × Fault)) → slice_get table cursor ≡ o → fault_here o (passed + 1) ≡ fault_at rows (passed + 1)
  by_entry None at = sym (none_here (λ e here. cc))
  by_entry (Some e) at = by_test e at (e.0 == passed + 1) refl

  -- the entry at the cursor tells what befalls the next message
  pub cursor_tells : fault_here (slice_get table cursor) (passed + 1) ≡ fault_at rows (passed + 1)
  cursor_tells = by_entry (slice_get table cursor) refl

  -- where it tells a fault, it is the entry of the next message
  here_by : (e : ℕ × Fault) (fault : Fault) (b : Bool) → (e.0 == passed + 1) ≡ b → (if b then Some e.1 else None) ≡ Some fault → e.0 ≡ passed + 1
  here_by e fault true test h = eqb-true e.0 (passed + 1) test
  here_by e fault false test h = absurd cc

  entry_here : (o : Option (ℕ × Fault)) (fault : Fault) → slice_get table cursor ≡ o → fault_here o (passed + 1) ≡ Some fault → (cursor < length table) × ((get_or table cursor no_entry).0 ≡ passed + 1)
  entry_here None fault at h = absurd cc
  entry_here (Some e) fault at h =
      let same : get_or table cursor no_entry ≡ e = get_or_from_slice_get table cursor e no_entry at in
      (slice_get_within table cursor e at, ap (λ (x : ℕ × Fault). x.0) same ∙ here_by e fault (e.0 == passed + 1) refl h)

  pub is_next : (fault : Fault) → fault_at rows (passed + 1) ≡ Some fault → (cursor < length table) × ((get_or table cursor no_entry).0 ≡ passed + 1)
  is_next fault h = entry_here (slice_get table cursor) fault refl (cursor_tells ∙ h)

  -- past the next message, which has a fault
  pub caught_up-fault : (fault : Fault) → fault_at rows (passed + 1) ≡ Some fault → IsCaughtUp table (passed + 1) (cursor + 1)
  caught_up-fault fault h =
      let here = is_next fault h in
      let key : (get_or table cursor no_entry).0 ≡ passed + 1 = here.1 in
      record {
        within = omega (arith, here.0);
        before = λ k below.
            let up_to : k ≤ cursor = omega arith in
            elim (eq-or-lt_of_le up_to) [ inl same ↦ omega (arith, key, ap (λ (n : ℕ). (get_or table n no_entry).0) same) | inr less ↦ omega (arith, caught.before k less) ];
        after = λ k above within. omega (arith, key, entry_below table cursor k is.ordered (omega arith) within);
      }

  -- past the next message, which has none
  pub caught_up-none : fault_at rows (passed + 1) ≡ None → IsCaughtUp table (passed + 1) cursor
  caught_up-none h = record {
    within = caught.within;
    before = λ k below. omega (arith, caught.before k below);
    after = λ k above within.
        let told : fault_at rows (get_or table k no_entry).0 ≡ Some (get_or table k no_entry).1 = is.told k no_entry within in
        let other : (get_or table k no_entry).0 ≢ passed + 1 = λ same. let met = ap (fault_at rows) same in cc in
        omega (arith, caught.after k above within, other);
  }

-- ---- rows none of which is bad

pub none-first : (o p : Option FaultsFault) → option_or o p ≡ None → o ≡ None
none-first None p h = refl
none-first (Some e) p h = absurd cc

pub none-then : (o p : Option FaultsFault) → option_or o p ≡ None → p ≡ None
none-then None p h = h
none-then (Some e) p h = absurd cc

both_false : (a b : Bool) (x y : FaultsFault) (o : Option FaultsFault) → (if a then Some x else (if b then Some y else o)) ≡ None → (a ≡ false) × (b ≡ false)
both_false true b x y o h = absurd cc
both_false false true x y o h = absurd cc
both_false false false x y o h = (refl, refl)

good_row : (before : List FaultRow) (row : FaultRow) → fault_of_row before row ≡ None → (row.index ≢ 0) × (is_zero_hold row.fault ≡ false)
good_row before row h =
    let tests = both_false (row.index == 0) (is_zero_hold row.fault) ZeroIndex (ZeroHold row.index) (if is_some (fault_at before row.index) then Some (Repeated row.index) else None) h in
    (differs row.index 0 tests.0, tests.1)

positive : (n : ℕ) → (n == 0) ≡ false → 0 < n
positive n h = grind (arith, nat_tests)

-- a good row holds by more than nothing, if it holds
holds_more : (fault : Fault) (by : ℕ) → is_zero_hold fault ≡ false → Some fault ≡ Some (Hold by) → 0 < by
holds_more Lose by h e = absurd cc
holds_more Dup by h e = absurd cc
holds_more (Cut keep) by h e = absurd cc
holds_more (Hold n) by h e =
    let same : n ≡ by = cc in
    let more : 0 < n = positive n h in
    omega arith

holds_by_more-after : (before rows : List FaultRow) → first_fault_after before rows ≡ None → HoldsByMore rows
holds_by_more-after before [] h i by e = absurd cc
holds_by_more-after before (row ∷ rows) h i by e =
    let good = none-first (fault_of_row before row) (first_fault_after (before ++ row ∷ []) rows) h in
    let rest = holds_by_more-after (before ++ row ∷ []) rows (none-then (fault_of_row before row) (first_fault_after (before ++ row ∷ []) rows) h) i by in
    let own = holds_more row.fault by (good_row before row good).1 in
    elim (row.index == i) as (λ (b : Bool). (if b then Some row.fault else fault_at rows i) ≡ Some (Hold by) → 0 < by) [ true ↦ own | false ↦ rest ] e

-- rows none of which is bad hold by more than nothing
pub holds_by_more : (rows : List FaultRow) → first_fault rows ≡ None → HoldsByMore rows
holds_by_more rows h = holds_by_more-after [] rows h

no_zero-after : (before rows : List FaultRow) → first_fault_after before rows ≡ None → fault_at rows 0 ≡ None
no_zero-after before [] h = refl
no_zero-after before (row ∷ rows) h =
    let good = none-first (fault_of_row before row) (first_fault_after (before ++ row ∷ []) rows) h in
    let rest = no_zero-after (before ++ row ∷ []) rows (none-then (fault_of_row before row) (first_fault_after (before ++ row ∷ []) rows) h) in
    rw (is_other row.index (good_row before row good).0) rest
  where
    is_other : (n : ℕ) → n ≢ 0 → (n == 0) ≡ false
    is_other n h = grind (arith, nat_tests)

-- before the first message, the cursor is at the first entry
pub caught_up-start : (rows : List FaultRow) (table : List (ℕ × Fault)) → IsTable rows table → IsCaughtUp table 0 0
caught_up-start rows table is = record {
  within = omega arith;
  before = λ k below. absurd (omega arith);
  after = λ k above within.
      let told : fault_at rows (get_or table k no_entry).0 ≡ Some (get_or table k no_entry).1 = is.told k no_entry within in
      let none = no_zero-after [] rows is.sound in
      let other : (get_or table k no_entry).0 ≢ 0 = λ same. let met = ap (fault_at rows) same in cc in
      omega (arith, other);
}
