-- The first of what is left may be put.
use Rattle.std.proofs.Common.{◌≡◌, ℕ, List, [], ◌∷◌, ◌++◌, map, sym, subst, ap, ◌∙◌, append_assoc}
use Rattle.mama_event.specs.declared.shape.Bounds.{Bounds}
use Rattle.mama_lane.specs.Values.{PortValue}

pub first_lawful : {A N : Type 0} (lawful : Bounds → ℕ → List N → Type 0) (prefix : (bounds : Bounds) (port : ℕ) (front back : List N) → lawful bounds port (front ++ back) → lawful bounds port front) (noted : A → N)
    (old now : PortValue N) (event : A) (rest left all : List A) → now ≡ record old { put = now.put } → now.put ++ map noted left ≡ old.put ++ map noted all → left ≡ event ∷ rest
    → lawful old.bounds old.number (old.put ++ map noted all) → lawful now.bounds now.number (now.put ++ noted event ∷ [])
first_lawful {A} {N} lawful prefix noted old now event rest left all place puts first may =
    let bounds : now.bounds ≡ old.bounds = ap (λ (p : PortValue N). p.bounds) place in
    let number : now.number ≡ old.number = ap (λ (p : PortValue N). p.number) place in
    let list : old.put ++ map noted all ≡ (now.put ++ noted event ∷ []) ++ map noted rest =
    sym puts ∙ ap (λ (xs : List A). now.put ++ map noted xs) first ∙ sym (append_assoc now.put (noted event ∷ []) (map noted rest)) in
    prefix now.bounds now.number (now.put ++ noted event ∷ []) (map noted rest)
    (subst (lawful now.bounds now.number) list
    (subst (λ (b : Bounds). lawful b now.number (old.put ++ map noted all)) (sym bounds)
    (subst (λ (n : ℕ). lawful old.bounds n (old.put ++ map noted all)) (sym number) may)))
