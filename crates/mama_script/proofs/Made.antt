-- A change of the last client.
use Rattle.std.proofs.Common.{◌≡◌, ℕ, ◌+◌, ◌<◌, false, List, [], ◌∷◌, ◌++◌, length, drop, get_or, Option, Some, refl, sym, ap, ◌∙◌}
use Rattle.std.proofs.lemmas.List.{drop_more}
use Rattle.mama_script.specs.declared.line.Line.{Line}
use Rattle.mama_script.specs.declared.names.Made.{Made}
use Rattle.mama_script.specs.Names.{at_last, is_named, unnamed_from}

pub at_last_push : (f : Made → Made) (ms : List Made) (m : Made) → at_last f (ms ++ m ∷ []) ≡ ms ++ f m ∷ []
at_last_push f [] m = refl
at_last_push f (x ∷ []) m = refl
at_last_push f (x ∷ y ∷ ms) m = ap (λ (t : List Made). x ∷ t) (at_last_push f (y ∷ ms) m)

-- the first line that names what is not there
pub unnamed_stop : (made : List Made) (k i : ℕ) (ls : List Line) (l : Line) (r : Option ℕ) → i < length ls → l ≡ get_or ls i l → is_named made l ≡ false → unnamed_from made k (drop i ls) ≡ r → Some k ≡ r
unnamed_stop made k i ls l r lt is named so_far =
    let at : drop i ls ≡ l ∷ drop (i + 1) ls = drop_more ls i l lt ∙ ap (λ (x : Line). x ∷ drop (i + 1) ls) (sym is) in
    let here : unnamed_from made k (l ∷ drop (i + 1) ls) ≡ Some k = rw named refl in
    sym here ∙ sym (ap (unnamed_from made k) at) ∙ so_far
