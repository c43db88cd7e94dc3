-- Printing a list one element after the other.
use Rattle.std.proofs.Common.{◌≡◌, ℕ, zero, suc, ◌+◌, ◌<◌, ◌≤◌, List, [], ◌∷◌, ◌++◌, length, take, get_or, map, Some, refl, sym, ap, ◌∙◌, arith}
use Rattle.std.specs.Prelude.{slice_get}
use Rattle.std.specs.List.{flat_map}
use Rattle.std.proofs.lemmas.List.{take_more, flat_map_more, map_push, length-take-le, length-map}
use Rattle.mama_record.specs.LogText.{LogSection, numbered}

-- one element more was printed
pub printed_next : {X : Type 0} (f : X → List ℕ) (out old new : List ℕ) (xs : List X) (i : ℕ) (x : X) → i < length xs → x ≡ get_or xs i x → new ≡ old ++ f x
    → old ≡ out ++ flat_map f (take i xs) → new ≡ out ++ flat_map f (take (i + 1) xs)
printed_next {X} f out old new xs i x lt at grown so_far =
    let one : take (i + 1) xs ≡ take i xs ++ x ∷ [] = take_more xs i x lt ∙ ap (λ (y : X). take i xs ++ y ∷ []) (sym at) in
    grown ∙ ap (λ (t : List ℕ). t ++ f x) so_far ∙ flat_map_more f out (take i xs) x ∙ ap (λ (ys : List X). out ++ flat_map f ys) (sym one)

get_is : {X : Type 0} (xs : List X) (i : ℕ) (x : X) → slice_get xs i ≡ Some x → x ≡ get_or xs i x
get_is [] i x e = absurd cc
get_is (y ∷ xs) zero x e = cc
get_is (y ∷ xs) (suc i) x e = get_is xs i x e

-- the same, where the element was got by its number
pub printed_at : {X : Type 0} (f : X → List ℕ) (out old new : List ℕ) (xs : List X) (i : ℕ) (x : X) → i < length xs → slice_get xs i ≡ Some x → new ≡ old ++ f x
    → old ≡ out ++ flat_map f (take i xs) → new ≡ out ++ flat_map f (take (i + 1) xs)
printed_at f out old new xs i x lt at grown so_far = printed_next f out old new xs i x lt (get_is xs i x at) grown so_far

-- the same, where elements are seen through a function
pub printed_seen : {X Y : Type 0} (f : Y → List ℕ) (g : X → Y) (out old new : List ℕ) (xs : List X) (i : ℕ) (x : X) → i < length xs → x ≡ get_or xs i x → new ≡ old ++ f (g x)
    → old ≡ out ++ flat_map f (map g (take i xs)) → new ≡ out ++ flat_map f (map g (take (i + 1) xs))
printed_seen {X} {Y} f g out old new xs i x lt at grown so_far =
    let one : take (i + 1) xs ≡ take i xs ++ x ∷ [] = take_more xs i x lt ∙ ap (λ (y : X). take i xs ++ y ∷ []) (sym at) in
    let seen : map g (take (i + 1) xs) ≡ map g (take i xs) ++ g x ∷ [] = ap (map g) one ∙ map_push g (take i xs) x in
    grown ∙ ap (λ (t : List ℕ). t ++ f (g x)) so_far ∙ flat_map_more f out (map g (take i xs)) (g x) ∙ ap (λ (ys : List Y). out ++ flat_map f ys) (sym seen)

-- the same, where elements are seen through two functions
pub printed_mapped : {X Y Z : Type 0} (f : Z → List ℕ) (h : Y → Z) (g : X → Y) (out old new : List ℕ) (xs : List X) (i : ℕ) (x : X) → i < length xs → x ≡ get_or xs i x → new ≡ old ++ f (h (g x))
    → old ≡ out ++ flat_map f (map h (map g (take i xs))) → new ≡ out ++ flat_map f (map h (map g (take (i + 1) xs)))
printed_mapped {X} {Y} {Z} f h g out old new xs i x lt at grown so_far =
    let one : take (i + 1) xs ≡ take i xs ++ x ∷ [] = take_more xs i x lt ∙ ap (λ (y : X). take i xs ++ y ∷ []) (sym at) in
    let seen : map g (take (i + 1) xs) ≡ map g (take i xs) ++ g x ∷ [] = ap (map g) one ∙ map_push g (take i xs) x in
    let mapped : map h (map g (take (i + 1) xs)) ≡ map h (map g (take i xs)) ++ h (g x) ∷ [] = ap (map h) seen ∙ map_push h (map g (take i xs)) (g x) in
    grown ∙ ap (λ (t : List ℕ). t ++ f (h (g x))) so_far ∙ flat_map_more f out (map h (map g (take i xs))) (h (g x)) ∙ ap (λ (zs : List Z). out ++ flat_map f zs) (sym mapped)

numbered_push : {X : Type 0} (section : ℕ → X → LogSection) (n : ℕ) (xs : List X) (x : X) → numbered section n (xs ++ x ∷ []) ≡ numbered section n xs ++ section (n + length xs) x ∷ []
numbered_push section n [] x = ap (λ (k : ℕ). section k x ∷ []) (omega arith)
numbered_push section n (y ∷ ys) x =
    ap (λ (t : List LogSection). section n y ∷ t) (numbered_push section (suc n) ys x ∙ ap (λ (k : ℕ). numbered section (suc n) ys ++ section k x ∷ []) (omega arith))

-- one numbered section more was printed
pub printed_section : {X Y : Type 0} (text : LogSection → List ℕ) (section : ℕ → Y → LogSection) (g : X → Y) (out old new : List ℕ) (xs : List X) (i : ℕ) (x : X) → i < length xs → x ≡ get_or xs i x → new ≡ old ++ text (section i (g x))
    → old ≡ out ++ flat_map text (numbered section 0 (map g (take i xs))) → new ≡ out ++ flat_map text (numbered section 0 (map g (take (i + 1) xs)))
printed_section {X} {Y} text section g out old new xs i x lt at grown so_far =
    let one : take (i + 1) xs ≡ take i xs ++ x ∷ [] = take_more xs i x lt ∙ ap (λ (y : X). take i xs ++ y ∷ []) (sym at) in
    let seen : map g (take (i + 1) xs) ≡ map g (take i xs) ++ g x ∷ [] = ap (map g) one ∙ map_push g (take i xs) x in
    let within : i ≤ length xs = omega arith in
    let long : 0 + length (map g (take i xs)) ≡ i = omega (arith, length-map (take i xs) g, length-take-le i xs within) in
    let all : numbered section 0 (map g (take (i + 1) xs)) ≡ numbered section 0 (map g (take i xs)) ++ section i (g x) ∷ [] =
    ap (λ (ys : List Y). numbered section 0 ys) seen ∙ numbered_push section 0 (map g (take i xs)) (g x) ∙ ap (λ (k : ℕ). numbered section 0 (map g (take i xs)) ++ section k (g x) ∷ []) long in
    grown ∙ ap (λ (t : List ℕ). t ++ text (section i (g x))) so_far
    ∙ flat_map_more text out (numbered section 0 (map g (take i xs))) (section i (g x))
    ∙ ap (λ (ss : List LogSection). out ++ flat_map text ss) (sym all)

-- the same for a list of numbers, one of which was got by its place
pub printed_number : (f : ℕ → List ℕ) (out old new : List ℕ) (xs : List ℕ) (i : ℕ) (x : ℕ) → i < length xs → x ≡ get_or xs i 0 → new ≡ old ++ f x
    → old ≡ out ++ flat_map f (take i xs) → new ≡ out ++ flat_map f (take (i + 1) xs)
printed_number f out old new xs i x lt at grown so_far = printed_next f out old new xs i x lt (at ∙ get_within xs i x lt) grown so_far
  where
    get_within : (xs : List ℕ) (i x : ℕ) → i < length xs → get_or xs i 0 ≡ get_or xs i x
    get_within [] i x lt = absurd (omega arith)
    get_within (y ∷ ys) zero x lt = refl
    get_within (y ∷ ys) (suc i) x lt = get_within ys i x (omega arith)
