-- Rows of which none passes a test.
use Rattle.std.specs.List.{list_any}
use Rattle.std.proofs.Common.{◌≡◌, Bool, true, false, ◌||◌, cond, List, [], ◌∷◌, filter, refl, ap}
use Rattle.mama_laws_bridge.specs.Table.{changed, without}

or_first : (a b : Bool) → (a || b) ≡ false → a ≡ false
or_first true b h = h
or_first false b h = refl

or_rest : (a b : Bool) → (a || b) ≡ false → b ≡ false
or_rest true b h = cc
or_rest false b h = h

module _ {R : Type 0} (test : R → Bool) where
  -- where no row passes, none is taken, changed or left out
  pub none_taken : (rows : List R) → list_any test rows ≡ false → filter test rows ≡ []
  none_taken [] h = refl
  none_taken (row ∷ rows) h = rw (or_first (test row) (list_any test rows) h) (none_taken rows (or_rest (test row) (list_any test rows) h))

  pub none_changed : (f : R → R) (rows : List R) → list_any test rows ≡ false → changed test f rows ≡ rows
  none_changed f [] h = refl
  none_changed f (row ∷ rows) h = rw (or_first (test row) (list_any test rows) h) (ap (λ rs. row ∷ rs) (none_changed f rows (or_rest (test row) (list_any test rows) h)))

  pub none_without : (rows : List R) → list_any test rows ≡ false → without test rows ≡ rows
  none_without [] h = refl
  none_without (row ∷ rows) h = rw (or_first (test row) (list_any test rows) h) (ap (λ rs. row ∷ rs) (none_without rows (or_rest (test row) (list_any test rows) h)))

  pub any_of_taken : (rows : List R) (row : R) (more : List R) → filter test rows ≡ row ∷ more → list_any test rows ≡ true
  any_of_taken [] row more h = cc
  any_of_taken (r ∷ rows) row more h = at (test r) h (any_of_taken rows row more)
    where
      at : (b : Bool) → cond b (r ∷ filter test rows) (filter test rows) ≡ row ∷ more → (filter test rows ≡ row ∷ more → list_any test rows ≡ true) → (b || list_any test rows) ≡ true
      at true e ih = refl
      at false e ih = ih e
