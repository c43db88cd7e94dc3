-- What numbers under keys, and keys in order, have at most.
use Rattle.std.proofs.Common.{◌≡◌, ℕ, ◌<◌, ◌≤◌, Bool, true, false, cond, List, [], ◌∷◌, Option, Some, refl, ◌∙◌, Ordering, Less, Equal, Greater, nat_cmp, ne_eqb, arith}
use Rattle.std.specs.Prelude.{unwrap_or}
use Rattle.std.specs.List.{AllByRecursion, list_any}
use Rattle.std.specs.Map.{lookup}
use Rattle.std.specs.BTreeMap.{is_at, insert_entry}
use Rattle.std.specs.BTreeSet.{insert_key}
use Rattle.mama_link.proofs.FaultLemmas.{is_at-nat_cmp}
use Rattle.mama_script.specs.Before.{number_at}

-- no number is above m
abbrev pub AreAtMost : ℕ → List (ℕ × ℕ) → Type 0
AreAtMost m es = AllByRecursion (λ e. e.1 ≤ m) es

pub at_most_more : (m n : ℕ) (es : List (ℕ × ℕ)) → m ≤ n → AreAtMost m es → AreAtMost n es
at_most_more m n [] le h = tt
at_most_more m n (e ∷ es) le h = (omega (arith, h.0), at_most_more m n es le h.1)

found_at_most : (m : ℕ) (here : Bool) (n : ℕ) (rest : Option ℕ) → n ≤ m → unwrap_or rest 0 ≤ m → unwrap_or (cond here (Some n) rest) 0 ≤ m
found_at_most m true n rest p q = p
found_at_most m false n rest p q = q

pub number_at_most : (m key : ℕ) (es : List (ℕ × ℕ)) → AreAtMost m es → number_at key es ≤ m
number_at_most m key [] h = omega arith
number_at_most m key (e ∷ es) h = found_at_most m (is_at (nat_cmp key) e.0) e.1 (lookup (is_at (nat_cmp key)) es) h.0 (number_at_most m key es h.1)

inserted : (m key n : ℕ) (e : ℕ × ℕ) (es : List (ℕ × ℕ)) (o : Ordering) → nat_cmp key e.0 ≡ o → n ≤ m → AreAtMost m (e ∷ es) → AreAtMost m (insert_entry nat_cmp es key n)
    → AreAtMost m (insert_entry nat_cmp (e ∷ es) key n)
inserted m key n e es Less is le h more = rw is (le, h)
inserted m key n e es Equal is le h more = rw is (le, h.1)
inserted m key n e es Greater is le h more = rw is (h.0, more)

pub insert_at_most : (m key n : ℕ) (es : List (ℕ × ℕ)) → n ≤ m → AreAtMost m es → AreAtMost m (insert_entry nat_cmp es key n)
insert_at_most m key n [] le h = (le, tt)
insert_at_most m key n (e ∷ es) le h = inserted m key n e es (nat_cmp key e.0) refl le h (insert_at_most m key n es le h.1)

-- each key is below m
abbrev pub AreBelow : ℕ → List ℕ → Type 0
AreBelow m ks = AllByRecursion (λ k. k < m) ks

pub below_more : (m n : ℕ) (ks : List ℕ) → m ≤ n → AreBelow m ks → AreBelow n ks
below_more m n [] le h = tt
below_more m n (k ∷ ks) le h = (omega (arith, h.0), below_more m n ks le h.1)

key_inserted : (m key k : ℕ) (ks : List ℕ) (o : Ordering) → nat_cmp key k ≡ o → key < m → AreBelow m (k ∷ ks) → AreBelow m (insert_key nat_cmp ks key) → AreBelow m (insert_key nat_cmp (k ∷ ks) key)
key_inserted m key k ks Less is lt h more = rw is (lt, h)
key_inserted m key k ks Equal is lt h more = rw is h
key_inserted m key k ks Greater is lt h more = rw is (h.0, more)

pub insert_below : (m key : ℕ) (ks : List ℕ) → key < m → AreBelow m ks → AreBelow m (insert_key nat_cmp ks key)
insert_below m key [] lt h = (lt, tt)
insert_below m key (k ∷ ks) lt h = key_inserted m key k ks (nat_cmp key k) refl lt h (insert_below m key ks lt h.1)

-- a key that is above all is none of them
pub above_is_new : (m key : ℕ) (ks : List ℕ) → m ≤ key → AreBelow m ks → list_any (is_at (nat_cmp key)) ks ≡ false
above_is_new m key [] le h = refl
above_is_new m key (k ∷ ks) le h =
    let other : is_at (nat_cmp key) k ≡ false = is_at-nat_cmp key k ∙ ne_eqb key k (λ same. absurd (omega (arith, h.0, le, same))) in
    rw other (above_is_new m key ks le h.1)
