-- inner: How the lists of what actors put grow, entry by entry.
use Rattle.std.specs.Prelude.{◌≡◌, ℕ, ◌<◌, List, [], ◌++◌, length, slice_index_or}
use Rattle.mama_event.specs.declared.ids.ObjectId.{ObjectId}

-- the tag of a listener that is an object's id is that id
abbrev pub own_tag : ObjectId → ObjectId
own_tag object = object

-- Each of the lists grew by what its number says.
pub record Grow {V : Type 0} (old new : List (List V)) (more : ℕ → List V) : Type 0 where
  pub count : length new ≡ length old
  pub each : (n : ℕ) → n < length old → slice_index_or new n [] ≡ slice_index_or old n [] ++ more n
