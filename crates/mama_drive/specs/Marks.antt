-- inner: The marks of the actors for whom an event may wait, by their numbers, and which of them comes next.
use Rattle.std.specs.Prelude.{◌≡◌, ℕ, ◌<◌, ◌≤◌, Bool, false, List, [], length, slice_index_or, Option, Some, None}
use Rattle.std.specs.Ordering.{nat_cmp}
use Rattle.std.specs.BTreeSet.{BTreeSet, contains}

abbrev pub is_marked : BTreeSet ℕ → ℕ → Bool
is_marked marks n = contains nat_cmp marks n

-- a number that has no mark now had none before
abbrev pub KeepsMarks : BTreeSet ℕ → BTreeSet ℕ → Type 0
KeepsMarks old new = (n : ℕ) → is_marked new n ≡ false → is_marked old n ≡ false

-- where an actor has no mark, nothing waits on its lane
abbrev pub AreMarked : {V : Type 0} → BTreeSet ℕ → List (List V) → Type 0
AreMarked {V} marks lanes = (n : ℕ) → is_marked marks n ≡ false → slice_index_or lanes n [] ≡ []

-- From a number on this is the next below a count that has a mark.
pub record IsNextMark (marks : BTreeSet ℕ) (from count next : ℕ) : Type 0 where
  pub above : from ≤ next
  pub below : next < count
  pub passed : (n : ℕ) → from ≤ n → n < next → is_marked marks n ≡ false

-- From a number on nothing waits for any before this one.
pub record IsNext {V : Type 0} (lanes : List (List V)) (from next : ℕ) : Type 0 where
  pub above : from ≤ next
  pub below : next < length lanes
  pub passed : (n : ℕ) → from ≤ n → n < next → slice_index_or lanes n [] ≡ []

-- the same of one that may be the next; where there is none, nothing waits for any
abbrev pub IsNextOf : {V : Type 0} → List (List V) → ℕ → Option ℕ → Type 0
IsNextOf lanes from None = (n : ℕ) → from ≤ n → slice_index_or lanes n [] ≡ []
IsNextOf lanes from (Some next) = IsNext lanes from next
