-- What is told, in parts.
use Rattle.std.proofs.Common.{◌≡◌, ℕ, ◌+◌, ◌-◌, ◌≤◌, List, [], ◌++◌, length, take, drop, Option, Some, None, IfSome, refl, ap, sym, ◌∙◌, subst, append_assoc, length-append, arith}
use Rattle.std.proofs.lemmas.List.{take-append-drop, drop-drop, take_rest, take-take, drop-take, drop_at}
use Rattle.mama_edge.specs.Told.{Gave, Lost, Appended}

-- what is told now is what was told, before any byte was given
pub gave_nothing : (told : Option (List ℕ)) (bytes : List ℕ) → bytes ≡ [] → Gave told told bytes
gave_nothing None bytes e = tt
gave_nothing (Some told) bytes e = (told, ap (λ (xs : List ℕ). xs ++ told) (sym e), refl)

-- bytes that were given, and then more
pub gave_more : (old mid new : Option (List ℕ)) (bytes part whole : List ℕ) → whole ≡ bytes ++ part → Gave old mid bytes → Gave mid new part → Gave old new whole
gave_more None mid new bytes part whole sum first next = tt
gave_more (Some told) mid new bytes part whole sum first next =
    let step : IfSome (Some first.0) (λ (t : List ℕ). (left : List ℕ) × (t ≡ part ++ left) × (new ≡ Some left)) =
    subst (λ (m : Option (List ℕ)). Gave m new part) first.2 next in (
      step.0,
      first.1 ∙ ap (λ (xs : List ℕ). bytes ++ xs) step.1 ∙ sym (append_assoc bytes part step.0) ∙ ap (λ (xs : List ℕ). xs ++ step.0) (sym sum),
      step.2,
    )

-- bytes that were given are lost
pub lost_of_gave : (old new : Option (List ℕ)) (bytes : List ℕ) (n : ℕ) → length bytes ≡ n → Gave old new bytes → Lost old new n
lost_of_gave None new bytes n long gave = tt
lost_of_gave (Some told) new bytes n long gave = (
  omega (arith, ap length gave.1, length-append bytes gave.0),
  gave.2 ∙ ap Some (sym (ap (drop n) gave.1 ∙ drop_at bytes gave.0 n long)),
)

-- bytes behind bytes
pub appended_more : (old mid new : Option (List ℕ)) (bytes part whole : List ℕ) → whole ≡ bytes ++ part → Appended old mid bytes → Appended mid new part → Appended old new whole
appended_more None mid new bytes part whole sum first next = tt
appended_more (Some told) mid new bytes part whole sum first next =
    let step : new ≡ Some ((told ++ bytes) ++ part) = subst (λ (m : Option (List ℕ)). Appended m new part) first next in
    step ∙ ap Some (append_assoc told bytes part ∙ ap (λ (xs : List ℕ). told ++ xs) (sym sum))

-- a part of a list, and what is behind it
next_part : (start n : ℕ) (items : List ℕ) → take n (drop start items) ++ drop (start + n) items ≡ drop start items
next_part start n items =
    ap (λ (xs : List ℕ). take n (drop start items) ++ xs) (sym (drop-drop n start items))
    ∙ take-append-drop n (drop start items)

-- the front of what is left was copied, and it is gone
pub copied_part : (start n : ℕ) (buf bytes items : List ℕ) → bytes ≡ items → take n buf ≡ take n (take (length bytes - start) (drop start bytes)) → take n buf ++ drop (start + n) items ≡ drop start items
copied_part start n buf bytes items same copied =
    let rest : take (length bytes - start) (drop start bytes) ≡ drop start items = take_rest bytes start ∙ ap (drop start) same in
    ap (λ (xs : List ℕ). xs ++ drop (start + n) items) (copied ∙ ap (take n) rest) ∙ next_part start n items

-- a front of a list and a front of its rest are a front
take_next : (m n : ℕ) (xs : List ℕ) → take m xs ++ take n (drop m xs) ≡ take (m + n) xs
take_next m n xs =
    let within : m ≤ m + n = omega arith in
    let front : take m (take (m + n) xs) ≡ take m xs = take-take m (m + n) xs within in
    let back : drop m (take (m + n) xs) ≡ take n (drop m xs) = drop-take m n xs in
    ap (λ (ys : List ℕ). ys ++ take n (drop m xs)) (sym front)
    ∙ ap (λ (ys : List ℕ). take m (take (m + n) xs) ++ ys) (sym back)
    ∙ take-append-drop m (take (m + n) xs)

-- the front of a text that is written after a part more of the rest
pub next_front : (done n : ℕ) (text : List ℕ) → take (done + n) text ≡ take done text ++ take n (take (length text - done) (drop done text))
next_front done n text = sym (ap (λ (xs : List ℕ). take done text ++ take n xs) (take_rest text done) ∙ take_next done n text)
