-- The sets of a board that readers can see stay, and maybe more follow.
use Rattle.std.specs.Prelude.{◌⊎◌}
use mathlib.Core.List.{IsPrefix}
use Rattle.std.proofs.Common.{◌≡◌, List, [], ◌∷◌, ◌++◌, sym, ◌∙◌, ap, ⊎_elim, append-nil, append_assoc}
use Rattle.mama_board.specs.declared.image_set.ImageSet.{ImageSet}
use Rattle.mama_board.specs.Values.{BoardValue, after_image, with_waiting, after_sealing}

pub no_more : {A : Type 0} (xs : List A) → IsPrefix xs xs
no_more xs = ([], append-nil xs)

pub onward_twice : {A : Type 0} (xs ys zs : List A) → IsPrefix xs ys → IsPrefix ys zs → IsPrefix xs zs
onward_twice {A} xs ys zs first then_more = (first.0 ++ then_more.0, sym (append_assoc xs first.0 then_more.0) ∙ ap (λ (l : List A). l ++ then_more.0) first.1 ∙ then_more.1)

pub same_sets : (old new : BoardValue) → new ≡ old → IsPrefix old.sets new.sets
same_sets old new is = ([], append-nil old.sets ∙ ap (λ (b : BoardValue). b.sets) (sym is))

pub set_onward : (old new : BoardValue) (set : ImageSet) → new ≡ after_image old set → IsPrefix old.sets new.sets
set_onward old new set is = (old.waiting ++ set ∷ [], sym (append_assoc old.sets old.waiting (set ∷ [])) ∙ ap (λ (b : BoardValue). b.sets) (sym is))

pub refused_onward : (old new : BoardValue) (set : ImageSet) → (new ≡ old) ⊎ (new ≡ with_waiting old set) → IsPrefix old.sets new.sets
refused_onward old new set is =
    ⊎_elim (λ (same : new ≡ old). same_sets old new same)
    (λ (waits : new ≡ with_waiting old set). ([], append-nil old.sets ∙ ap (λ (b : BoardValue). b.sets) (sym waits)))
    is

pub seal_onward : (old new : BoardValue) → new ≡ after_sealing old → IsPrefix old.sets new.sets
seal_onward old new is = (old.waiting, ap (λ (b : BoardValue). b.sets) (sym is))
