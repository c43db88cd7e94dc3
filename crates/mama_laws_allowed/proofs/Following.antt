-- Lists of events of which none but the last is a last event, and each is within bounds.
use Rattle.std.specs.Prelude.{not}
use Rattle.std.specs.List.{list_any, list_all}
use Rattle.std.proofs.Common.{◌≡◌, Bool, true, false, ◌&&◌, ◌||◌, List, [], ◌∷◌, ◌++◌, ◌∙◌, ap}
use Rattle.std.proofs.lemmas.Bool.{and_parts, and_from, not-true}
use Rattle.std.proofs.lemmas.List.Folds.{list_any-append}
use Rattle.mama_event.specs.Lawful.{each_fits, may_follow}

module _ {N : Type 0} (last : N → Bool) (within : N → Bool) where
  abbrev pub ruled : List N → List N → Bool
  ruled before notes = each_fits (may_follow last (λ front n. within n)) before notes

  -- it is not a last event, and within bounds
  abbrev pub is_calm : N → Bool
  is_calm n = not (last n) && within n

  pub none_after : (before : List N) (n : N) → list_any last before ≡ false → last n ≡ false → list_any last (before ++ n ∷ []) ≡ false
  none_after before n none calm = list_any-append last before (n ∷ []) ∙ ap (λ (b : Bool). b || (last n || false)) none ∙ ap (λ (b : Bool). b || false) calm

  -- an event within bounds comes where none before was last
  pub comes : (before : List N) (n : N) (rest : List N) → list_any last before ≡ false → within n ≡ true → ruled (before ++ n ∷ []) rest ≡ true → ruled before (n ∷ rest) ≡ true
  comes before n rest none fits more =
      and_from (not (list_any last before) && within n) (ruled (before ++ n ∷ []) rest)
      (and_from (not (list_any last before)) (within n) (ap not none) fits) more

  -- calm events come, and then what may come after them
  pub calm_first : (before notes rest : List N) → list_any last before ≡ false → list_all is_calm notes ≡ true
      → ((front : List N) → list_any last front ≡ false → ruled front rest ≡ true) → ruled before (notes ++ rest) ≡ true
  calm_first before [] rest none calm more = more before none
  calm_first before (n ∷ notes) rest none calm more =
      let parts = and_parts (is_calm n) (list_all is_calm notes) calm in
      let own = and_parts (not (last n)) (within n) parts.0 in
      comes before n (notes ++ rest) none own.1
      (calm_first (before ++ n ∷ []) notes rest (none_after before n none (not-true (last n) own.0)) parts.1 more)
