-- inner: An item that was added to one of some lists.
use Rattle.std.specs.Prelude.{◌≡◌, ◌<◌, ◌++◌, ◌∷◌, [], ℕ, List, length, slice_index_or, slice_set}
use Rattle.std.specs.Global.{Vec}

-- The list of this number has the item behind those that it had, and the others are as before.
pub record IsAdded {T : Type 0} (number : ℕ) (item : T) (old new : List (Vec T)) : Type 0 where
  pub within : number < length old
  pub before : Vec T
  pub there : before ≡ slice_index_or old number before
  pub list : Vec T
  pub grown : list.items ≡ before.items ++ item ∷ []
  pub after : new ≡ slice_set old number list
