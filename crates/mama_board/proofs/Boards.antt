-- What a board shows after a step of its writer.
use Rattle.std.proofs.Common.{◌≡◌, ℕ, Bool, false, List, [], ◌∷◌, ◌++◌, length, fold, sym, ap, ◌∙◌, append_assoc, append-nil, length-append, arith}
use Rattle.mama_board.specs.declared.change.Change.{Change}
use Rattle.mama_board.specs.declared.change.Change.TheVariants.{Set, Seal}
use Rattle.mama_board.specs.declared.image_set.ImageSet.{ImageSet}
use Rattle.mama_board.specs.Images.{ImagesValue, after_change, sets_in}
use Rattle.mama_board.specs.Changes.{after_shown, after_refused}
use Rattle.mama_board.specs.Values.{BoardValue}
use Rattle.mama_board.proofs.Rows.{version_after, sets_in-append, unsealed_by_set, sealed_by_seal}

-- a board whose readers can see these sets, and whose log has these changes
abbrev pub board_of : ℕ → List ImageSet → List Change → Bool → BoardValue
board_of queue sets changes sealed = record { queue = queue; sets = sets; waiting = sets_in changes; sealed = sealed }

module _ (queue : ℕ) (sets : List ImageSet) (changes : List Change) (images : ImagesValue) where
  -- what is shown counts the sets that are known
  pub counts : length sets ≡ images.version → length (sets ++ sets_in changes) ≡ (fold after_change images changes).version
  counts whole = let h = version_after changes images in omega (arith, length-append sets (sets_in changes))

  -- a set that was refused waits, and a seal that was refused changes nothing
  pub change_waits : (change : Change) (sealed : Bool) → board_of queue sets (changes ++ change ∷ []) sealed ≡ after_refused (board_of queue sets changes sealed) change
  change_waits (Set set) sealed = λ i. record { queue = queue; sets = sets; waiting = sets_in-append changes (Set set ∷ []) i; sealed = sealed }
  change_waits Seal sealed = λ i. record { queue = queue; sets = sets; waiting = (sets_in-append changes (Seal ∷ []) ∙ append-nil (sets_in changes)) i; sealed = sealed }

  -- a set is shown after those that waited, and a seal shows those that waited
  pub change_shown : (change : Change) → images.sealed ≡ false
      → board_of queue (sets ++ sets_in (changes ++ change ∷ [])) [] (fold after_change images (changes ++ change ∷ [])).sealed ≡ after_shown (board_of queue sets changes images.sealed) change
  change_shown (Set set) unsealed = λ i. record {
    queue = queue;
    sets = (ap (λ (l : List ImageSet). sets ++ l) (sets_in-append changes (Set set ∷ [])) ∙ sym (append_assoc sets (sets_in changes) (set ∷ []))) i;
    waiting = [];
    sealed = (unsealed_by_set images changes set ∙ sym unsealed) i;
  }
  change_shown Seal unsealed = λ i. record {
    queue = queue;
    sets = ap (λ (l : List ImageSet). sets ++ l) (sets_in-append changes (Seal ∷ []) ∙ append-nil (sets_in changes)) i;
    waiting = [];
    sealed = sealed_by_seal images changes i;
  }
