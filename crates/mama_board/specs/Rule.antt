-- inner: the rule of a board: the images that are shown and what its places know fit together.
use Rattle.std.specs.Prelude.{◌≡◌, ℕ, Bool, true, false, List, [], ◌++◌, length, fold}
use mathlib.Core.List.{IsPrefix}
use mathlib.Core.Option.{some}
use lib.ListN.{get_elem?}
use Rattle.mama_event.specs.declared.ids.SubId.{SubId}
use Rattle.mama_board.specs.declared.change.Change.{Change}
use Rattle.mama_board.specs.declared.image_set.ImageSet.{ImageSet}
use Rattle.mama_board.specs.declared.view.View.{View}
use Rattle.mama_board.specs.Images.{ImagesValue, row_at, after_change, sets_in}
use Rattle.mama_board.specs.Rows.{row}

abbrev pub Sets : Type 0
Sets = List ImageSet

-- these images are those after these sets
pub record AreImagesOf (sets : List ImageSet) (images : ImagesValue) : Type 0 where
  pub version : images.version ≡ length sets
  pub rows : (sub : SubId) → row_at sub images.rows ≡ row sub sets

-- a place knows first sets of the board; where it knows of the seal, the images are marked and it knows all sets
pub record Knows (sets : List ImageSet) (images : ImagesValue) (v : View) : Type 0 where
  pub seen : IsPrefix v.seen sets
  pub sealed : v.sealed ≡ true → (images.sealed ≡ true) × (v.seen ≡ sets)

-- the rule of a board: there are sets after which these images are shown, and of which each place knows the first ones
pub record IsKept (images : ImagesValue) (views : List View) : Type 0 where
  pub sets : List ImageSet
  pub shown : AreImagesOf sets images
  pub knows : (i : ℕ) (v : View) → get_elem? views i ≡ some v → Knows sets images v

-- a place that knows nothing yet
abbrev pub newcomer : View
newcomer = record { seen = []; sealed = false }

-- publish and seal: the writer knows these sets too, and whether they are all
abbrev pub published : List ImageSet → Bool → View → View
published sets sealed v = record { seen = v.seen ++ sets; sealed = sealed }

-- enter: the place knows what it knew, and maybe more, but no more where it knew all
pub record IsOnward (v w : View) : Type 0 where
  pub seen : IsPrefix v.seen w.seen
  pub whole : v.sealed ≡ true → w.seen ≡ v.seen
  pub sealed : w.sealed ≡ v.sealed

-- enter: the images that are shown are those after the sets that the place knows then
pub record IsLook (v : View) (images : ImagesValue) (w : View) : Type 0 where
  pub images_of : AreImagesOf w.seen images
  pub onward : IsOnward v w

-- The writer may show these changes: it knows as many sets as are shown, so all of them, the images are not marked, and
-- the changes are these sets, with a seal after the last of them or not.
pub record MayPublish (sets : List ImageSet) (sealed : Bool) (shown : ImagesValue) (changes : List Change) (v : View) : Type 0 where
  pub whole : length v.seen ≡ shown.version
  pub unsealed : shown.sealed ≡ false
  pub sets_are : sets ≡ sets_in changes
  pub sealed_is : sealed ≡ (fold after_change shown changes).sealed
