-- believed: Lists with numbers, each in the place of its number.
use Rattle.std.specs.Prelude.{ℕ, zero, suc, List, [], ◌∷◌, map}
use Rattle.std.specs.Global.{Vec}

abbrev pub numbered : {A : Type 0} → List (ℕ × Vec A) → List (ℕ × List A)
numbered lists = map (λ e. (e.0, e.1.items)) lists

-- the list of a place in place of the one that was there, if there is the place
abbrev pub list_put : {A : Type 0} → ℕ → List A → List (ℕ × List A) → List (ℕ × List A)
list_put place list [] = []
list_put zero list (e ∷ es) = (e.0, list) ∷ es
list_put (suc place) list (e ∷ es) = e ∷ list_put place list es

-- lists put one after another
abbrev pub lists_put : {A : Type 0} → List (ℕ × List A) → List (ℕ × List A) → List (ℕ × List A)
lists_put [] lists = lists
lists_put (e ∷ es) lists = lists_put es (list_put e.0 e.1 lists)
