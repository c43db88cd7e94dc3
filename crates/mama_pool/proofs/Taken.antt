-- Where all that was pushed is gone, as much was taken.
use Rattle.std.proofs.Common.{◌≡◌, ℕ, zero, suc, ◌+◌, ◌<◌, ◌≤◌, List, [], ◌∷◌, ◌++◌, length, get_or, take, map, refl, sym, ap, ◌∙◌, append-nil, length-append, arith}
use Rattle.std.proofs.lemmas.List.{nil_from_length, get_or-map, length-map, take_all, take_more}
use Rattle.std.specs.List.{All}
use Rattle.mama_pool.specs.Values.{ShareValue, HandValue, no_share, share_of, own_share, first_numbers, IsPool, shares_at, Closed, KnowsEmpty, taken_weight, total}
use Rattle.mama_pool.specs.Deal.{no_hand, hand_at}
use Rattle.mama_pool.proofs.Closings.{pool_number, pool_width}
use Rattle.mama_pool.proofs.Totals.{total_last}

-- what is gone is all, where it is as long
all_gone : (pushed gone left : List ℕ) → pushed ≡ gone ++ left → length pushed ≤ length gone → gone ≡ pushed
all_gone pushed gone left flows long =
    let l = ap length flows in let a = length-append gone left in
    let none : left ≡ [] = nil_from_length left (omega arith) in
    sym (append-nil gone) ∙ (ap (λ (t : List ℕ). gone ++ t) (sym none) ∙ sym flows)

pub same_weight : (pushed : List ℕ) (shares : List ShareValue) (C : Closed pushed shares) → length pushed ≤ length C.gone → (weight : ℕ → ℕ) → total weight pushed ≡ total (λ s. total weight s.took) shares
same_weight pushed shares C long weight = ap (total weight) (sym (all_gone pushed C.gone C.left C.flows long)) ∙ C.counts weight

-- sums of sums, in either order
total_zero : {X : Type 0} (xs : List X) → total (λ (x : X). 0) xs ≡ 0
total_zero [] = refl
total_zero (x ∷ xs) = let h = total_zero xs in omega arith

total_plus : {X : Type 0} (f g : X → ℕ) (xs : List X) → total (λ (x : X). f x + g x) xs ≡ total f xs + total g xs
total_plus f g [] = omega arith
total_plus f g (x ∷ xs) = let h = total_plus f g xs in omega arith

total_swap : {X Y : Type 0} (F : X → Y → ℕ) (xs : List X) (ys : List Y) → total (λ (x : X). total (F x) ys) xs ≡ total (λ (y : Y). total (λ (x : X). F x y) xs) ys
total_swap F [] ys = sym (total_zero ys)
total_swap F (x ∷ xs) ys = let h = total_swap F xs ys in let p = total_plus (F x) (λ y. total (λ x. F x y) xs) ys in omega arith

total_map : {X Y : Type 0} (f : Y → ℕ) (g : X → Y) (xs : List X) → total f (map g xs) ≡ total (λ (x : X). f (g x)) xs
total_map f g [] = refl
total_map f g (x ∷ xs) = let h = total_map f g xs in omega arith

-- a sum over a list is one over its places
total_same : (f g : ℕ → ℕ) (n : ℕ) → ((i : ℕ) → i < n → f i ≡ g i) → total f (first_numbers n) ≡ total g (first_numbers n)
total_same f g zero e = refl
total_same f g (suc n) e =
    let h = total_same f g n (λ i lt. e i (omega arith)) in let k = e n (omega arith) in
    let a = total_last f (first_numbers n) n in let b = total_last g (first_numbers n) n in omega arith

module _ {X : Type 0} (f : X → ℕ) (xs : List X) (d : X) where
  total_take : (n : ℕ) → n ≤ length xs → total (λ (i : ℕ). f (get_or xs i d)) (first_numbers n) ≡ total f (take n xs)
  total_take zero le = refl
  total_take (suc n) le =
      let at : ℕ → ℕ = λ i. f (get_or xs i d) in
      let h = total_take n (omega arith) in let a = total_last at (first_numbers n) n in
      let b = total_last f (take n xs) (get_or xs n d) in
      let step : take (n + 1) xs ≡ take n xs ++ get_or xs n d ∷ [] = take_more xs n d (omega arith) in
      let one : n + 1 ≡ suc n = omega arith in
      let c : total f (take (suc n) xs) ≡ total f (take n xs ++ get_or xs n d ∷ []) = ap (λ (k : ℕ). total f (take k xs)) (sym one) ∙ ap (total f) step in omega arith

  total_places : total (λ (i : ℕ). f (get_or xs i d)) (first_numbers (length xs)) ≡ total f xs
  total_places = total_take (length xs) (omega arith) ∙ ap (total f) (take_all (length xs) xs (omega arith))

module _ (hands : List HandValue) (P : IsPool hands) (weight : ℕ → ℕ) where
  abbrev took : ShareValue → ℕ
  took s = total weight s.took

  -- what was pushed to the deque of hand i was taken by all hands
  of_one : All (λ (h : HandValue). Closed h.pushed (shares_at h.number hands)) hands → All KnowsEmpty hands → (i : ℕ) → i < length hands
      → total weight (hand_at hands i).pushed ≡ total (λ (h : HandValue). took (share_of h i)) hands
  of_one closed empty i lt =
      let h : HandValue = hand_at hands i in let C = closed i no_hand lt in let e = empty i no_hand lt in
      let number : h.number ≡ i = pool_number hands P i lt in
      let column : List ShareValue = shares_at h.number hands in
      let long : length column ≡ length hands = length-map hands (λ (u : HandValue). share_of u h.number) in
      let at : get_or column i no_share ≡ own_share h = get_or-map (λ (u : HandValue). share_of u h.number) hands i no_hand no_share lt in
      let known : (get_or column i no_share).known ≤ length C.gone = C.known i no_share (omega arith) in
      let same : (get_or column i no_share).known ≡ (own_share h).known = ap (λ (s : ShareValue). s.known) at in
      same_weight h.pushed column C (omega arith) weight ∙ (total_map took (λ (u : HandValue). share_of u h.number) hands ∙ ap (λ (k : ℕ). total (λ (u : HandValue). took (share_of u k)) hands) number)

  -- all that a hand took, by deques
  of_hand : (i : ℕ) → i < length hands → total (λ (k : ℕ). took (share_of (hand_at hands i) k)) (first_numbers (length hands)) ≡ taken_weight weight (hand_at hands i)
  of_hand i lt = let h : HandValue = hand_at hands i in
      ap (λ (n : ℕ). total (λ (k : ℕ). took (share_of h k)) (first_numbers n)) (sym (pool_width hands P i lt)) ∙ total_places took h.shares no_share

  pub all_taken : All (λ (h : HandValue). Closed h.pushed (shares_at h.number hands)) hands → All KnowsEmpty hands → total (λ (h : HandValue). total weight h.pushed) hands ≡ total (taken_weight weight) hands
  all_taken closed empty =
      let n : ℕ = length hands in
      let by_deque : HandValue → ℕ = λ h. total (λ (k : ℕ). took (share_of h k)) (first_numbers n) in
      sym (total_places (λ (h : HandValue). total weight h.pushed) hands no_hand)
      ∙ (total_same (λ i. total weight (hand_at hands i).pushed) (λ i. total (λ (h : HandValue). took (share_of h i)) hands) n (of_one closed empty)
      ∙ (total_swap (λ (i : ℕ) (h : HandValue). took (share_of h i)) (first_numbers n) hands
      ∙ (sym (total_places by_deque hands no_hand)
      ∙ (total_same (λ i. by_deque (hand_at hands i)) (λ i. taken_weight weight (hand_at hands i)) n of_hand
      ∙ total_places (taken_weight weight) hands no_hand))))
