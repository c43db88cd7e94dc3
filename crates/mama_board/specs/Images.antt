-- inner: what a copy of the images holds, and what a change does to it.
use Rattle.std.specs.Prelude.{ℕ, ◌+◌, Bool, true, false, List, [], ◌∷◌, Option}
use Rattle.std.specs.Map.{lookup}
use Rattle.indexmap.specs.IndexMap.{insert_entry}
use Rattle.mama_event.specs.declared.ids.SubId.{SubId}
use Rattle.mama_event.specs.Object.{same_sub}
use Rattle.mama_board.specs.declared.change.Change.{Change}
use Rattle.mama_board.specs.declared.change.Change.TheVariants.{Set, Seal}
use Rattle.mama_board.specs.declared.image_set.ImageSet.{ImageSet}
use Rattle.mama_board.specs.declared.row.Row.{Row}
use Rattle.mama_board.specs.Rows.{row_in}

-- how many sets were done, whether a seal followed the last of them, and the row of each subscription that was set
pub record ImagesValue : Type 0 where
  pub version : ℕ
  pub sealed : Bool
  pub rows : List (SubId × Row)

-- the row that stands for the subscription
abbrev pub row_at : SubId → List (SubId × Row) → Option Row
row_at sub rows = lookup (same_sub sub) rows

-- nothing was done yet
abbrev pub no_images : ImagesValue
no_images = record { version = 0; sealed = false; rows = [] }

-- a set counts one, replaces the row of its subscription, and takes back a seal
abbrev pub after_set : ImagesValue → ImageSet → ImagesValue
after_set images set = record { version = images.version + 1; sealed = false; rows = insert_entry same_sub images.rows set.sub (row_in set) }

-- a seal is marked
abbrev pub after_seal : ImagesValue → ImagesValue
after_seal images = record { version = images.version; sealed = true; rows = images.rows }

abbrev pub after_change : ImagesValue → Change → ImagesValue
after_change images (Set set) = after_set images set
after_change images Seal = after_seal images

-- the sets among some changes, in order
abbrev pub sets_in : List Change → List ImageSet
sets_in [] = []
sets_in (Set set ∷ changes) = set ∷ sets_in changes
sets_in (Seal ∷ changes) = sets_in changes
