-- inner: The rules of a deque and of its tally: what they hold and what their passes know fit together.
use Rattle.std.specs.Prelude.{◌≡◌, ℕ, ◌<◌, ◌≤◌, List, [], ◌++◌, map, slice_index}
use mathlib.Core.Option.{some}
use lib.ListN.{get_elem?}
use Rattle.mama_pool.specs.declared.view.View.{View}
use Rattle.mama_pool.specs.declared.view.Count.{Count}
use Rattle.mama_pool.specs.Values.{total}
use Rattle.mama_pool.specs.Steps.{with_known}

-- The rule of a deque to which these numbers were pushed, which holds these numbers, and whose passes have these views: what
-- was pushed is what is gone and then what the deque holds (flows); of each number as many are gone as the views took
-- (counts); the views have 65 shares, and one without a share took nothing.
pub record Kept (pushed items : List ℕ) (views : List View) : Type 0 where
  pub gone : List ℕ
  pub flows : pushed ≡ gone ++ items
  pub counts : (weight : ℕ → ℕ) → total weight gone ≡ total (λ v. total weight v.took) views
  pub whole : total (λ v. v.shares) views ≡ 65
  pub idle : (i : ℕ) (v : View) → get_elem? views i ≡ some v → v.shares ≡ 0 → v.took ≡ []

-- the rule, as the deque keeps it: its own hand's pass is the first
abbrev pub IsKept : {D : Type 0} → (D → ℕ) → List D → List View → Type 0
IsKept numbered items views = (own : View) → get_elem? views 0 ≡ some own → Kept own.pushed (map numbered items) views

-- what a look with all shares tells: what is gone was taken by this view
pub record AreSettled (v : View) (left : List ℕ) : Type 0 where
  pub gone : List ℕ
  pub flows : v.pushed ≡ gone ++ left
  pub counts : (weight : ℕ → ℕ) → total weight gone ≡ total weight v.took

-- The rule of a tally: its first word is the pushes that the views counted, its second the takes; no view knows of more takes,
-- or learnt of more pushes; the views have 65 shares, and one without a share counted nothing.
pub record Tallied (words : List ℕ) (views : List Count) : Type 0 where
  pub whole : total (λ v. v.shares) views ≡ 65
  pub pushes : total (λ v. v.pushes) views ≡ slice_index words 0
  pub takes : total (λ v. v.takes) views ≡ slice_index words 1
  pub known : (i : ℕ) (v : Count) → get_elem? views i ≡ some v → v.known ≤ slice_index words 1
  pub learnt : (i : ℕ) (v : Count) → get_elem? views i ≡ some v → v.learnt ≤ slice_index words 0
  pub idle : (i : ℕ) (v : Count) → get_elem? views i ≡ some v → v.shares ≡ 0 → (v.pushes ≡ 0) × (v.takes ≡ 0)

-- what an empty look tells: where no more pushes than takes are counted, the view knows so many, which are no fewer than it knew
-- and learnt of; else nothing changes
pub record IsLook (v : Count) (words : List ℕ) (w : Count) : Type 0 where
  pub empty : slice_index words 0 ≤ slice_index words 1 → (w ≡ with_known v (slice_index words 1)) × (v.learnt ≤ slice_index words 1) × (v.known ≤ slice_index words 1)
  pub else : slice_index words 1 < slice_index words 0 → w ≡ v

-- what a look with all shares tells: the words are what this view counted, and bound what it knows and learnt of
pub record IsSettled (v : Count) (words : List ℕ) : Type 0 where
  pub pushes : v.pushes ≡ slice_index words 0
  pub takes : v.takes ≡ slice_index words 1
  pub known : v.known ≤ slice_index words 1
  pub learnt : v.learnt ≤ slice_index words 0
