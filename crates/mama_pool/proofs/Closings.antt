-- Hands of a pool are taken in one after another, the last first.
use Rattle.std.proofs.Common.{◌≡◌, ◌≢◌, ℕ, zero, suc, ◌+◌, ◌<◌, ◌≤◌, List, [], ◌∷◌, ◌++◌, length, get_or, refl, sym, ap, ◌∙◌, subst, length-append, arith}
use Rattle.std.proofs.lemmas.List.{get_or_append_left, get_or_at, get_or-map, length-set, length-map, ext_get_or}
use Rattle.std.proofs.lemmas.List.Elements.{All-from_get_or}
use Rattle.std.specs.List.{All}
use mathlib.Core.Logic.{dite}
use native.Mathlib.Decide.{ℕ_discrete, dec_lt}
use Rattle.mama_pool.specs.Values.{Place, HandValue, ShareValue, no_share, share_of, own_share, with_share, places_of, first_numbers, IsPool, shares_at, Closed}
use Rattle.mama_pool.specs.Deal.{no_hand, hand_at, place_at, AreNumbered, IsDealt, IsPart}
use Rattle.mama_pool.proofs.Deals.{set_here, set_else}

length-first_numbers : (n : ℕ) → length (first_numbers n) ≡ n
length-first_numbers zero = refl
length-first_numbers (suc n) = let h = length-first_numbers n in let a = length-append (first_numbers n) (n ∷ []) in omega arith

first_numbers_at : (n i : ℕ) → i < n → get_or (first_numbers n) i 0 ≡ i
first_numbers_at zero i lt = absurd (omega arith)
first_numbers_at (suc n) i lt = let l = length-first_numbers n in dite (ℕ_discrete i n)
    (λ (e : i ≡ n). subst (λ (k : ℕ). get_or (first_numbers (suc n)) k 0 ≡ k) (sym e) (get_or_at (first_numbers n) n [] 0 n l))
    (λ (apart : i ≢ n). get_or_append_left (first_numbers n) (n ∷ []) 0 i (omega arith) ∙ first_numbers_at n i (omega arith))

module _ (hands : List HandValue) (pool : IsPool hands) where
  pub pool_number : (i : ℕ) → i < length hands → (hand_at hands i).number ≡ i
  pool_number i lt = sym (get_or-map (λ (h : HandValue). h.number) hands i no_hand 0 lt) ∙ (ap (λ (l : List ℕ). get_or l i 0) pool.numbers ∙ first_numbers_at (length hands) i lt)

  pool_places : (i : ℕ) → i < length hands → places_of (hand_at hands i) ≡ pool.places
  pool_places i lt = pool.each i no_hand lt

  pub pool_width : (i : ℕ) → i < length hands → length (hand_at hands i).shares ≡ length hands
  pool_width i lt = sym (length-map (hand_at hands i).shares (λ (s : ShareValue). s.place)) ∙ (ap length (pool_places i lt) ∙ pool.count)

  pub pool_place : (i k : ℕ) → i < length hands → k < length hands → (share_of (hand_at hands i) k).place ≡ place_at pool.places k
  pool_place i k lt below = let w = pool_width i lt in
      sym (get_or-map (λ (s : ShareValue). s.place) (hand_at hands i).shares k no_share no_share.place (omega arith)) ∙ ap (λ (l : List Place). place_at l k) (pool_places i lt)

  pub part_whole : IsPart hands hands
  part_whole = record {
    short = omega arith;
    number = pool_number;
    pushed = λ i lt. refl;
    width_is = pool_width;
    before = λ i j lt below. refl;
    after = λ i j lt above below. absurd (omega arith);
  }

  column_at : (k j : ℕ) → j < length hands → get_or (shares_at k hands) j no_share ≡ share_of (hand_at hands j) k
  column_at k j lt = get_or-map (λ (h : HandValue). share_of h k) hands j no_hand no_share lt

  -- all shares in a hand's deque are in one place
  pub column_places : (h : HandValue) (k : ℕ) → k < length hands → h.number ≡ k → h.shares ≡ shares_at k hands → All (λ s. s.place ≡ (own_share h).place) h.shares
  column_places h k lt number column =
      let long : length h.shares ≡ length hands = ap length column ∙ length-map hands (λ (h : HandValue). share_of h k) in
      let at : (j : ℕ) → j < length hands → (share_of h j).place ≡ place_at pool.places k = λ j below.
      ap (λ (l : List ShareValue). (get_or l j no_share).place) column ∙ (ap (λ (s : ShareValue). s.place) (column_at k j below) ∙ pool_place j k below lt) in
      All-from_get_or (λ (s : ShareValue). s.place ≡ (own_share h).place) h.shares no_share (λ j below. at j (omega arith) ∙ sym (ap (λ (i : ℕ). (share_of h i).place) number ∙ at k lt))

  -- all deques were told of
  pub part_none : ((i : ℕ) → i < length hands → Closed (hand_at hands i).pushed (shares_at i hands)) → All (λ h. Closed h.pushed (shares_at h.number hands)) hands
  part_none closed = All-from_get_or (λ (h : HandValue). Closed h.pushed (shares_at h.number hands)) hands no_hand
      (λ i lt. subst (λ (k : ℕ). Closed (hand_at hands i).pushed (shares_at k hands)) (sym (pool_number i lt)) (closed i lt))

module _ (hands rest : List HandValue) (h : HandValue) (part : IsPart hands (rest ++ h ∷ [])) where
  long : length (rest ++ h ∷ []) ≡ length rest + 1
  long = let a = length-append rest (h ∷ []) in omega arith

  at_rest : (i : ℕ) → i < length rest → hand_at (rest ++ h ∷ []) i ≡ hand_at rest i
  at_rest i lt = get_or_append_left rest (h ∷ []) no_hand i lt

  at_last : hand_at (rest ++ h ∷ []) (length rest) ≡ h
  at_last = get_or_at rest h [] no_hand (length rest) refl

  pub last_number : h.number ≡ length rest
  last_number = let l = long in ap (λ (u : HandValue). u.number) (sym at_last) ∙ part.number (length rest) (omega arith)

  pub last_width : length h.shares ≡ length hands
  last_width = let l = long in ap (λ (u : HandValue). length u.shares) (sym at_last) ∙ part.width_is (length rest) (omega arith)

  pub last_pushed : h.pushed ≡ (hand_at hands (length rest)).pushed
  last_pushed = let l = long in ap (λ (u : HandValue). u.pushed) (sym at_last) ∙ part.pushed (length rest) (omega arith)

  pub last_room : length rest < length hands
  last_room = let l = long in let s = part.short in omega arith

  pub rest_numbered : AreNumbered (length h.shares) rest
  rest_numbered = let l = long in record {
    number = λ i lt. ap (λ (u : HandValue). u.number) (sym (at_rest i lt)) ∙ part.number i (omega arith);
    width_is = λ i lt. ap (λ (u : HandValue). length u.shares) (sym (at_rest i lt)) ∙ (part.width_is i (omega arith) ∙ sym last_width);
  }

  -- what the last hand has of its own deque and those before
  last_before : (j : ℕ) → j < length rest + 1 → share_of h j ≡ share_of (hand_at hands (length rest)) j
  last_before j lt = let l = long in ap (λ (u : HandValue). share_of u j) (sym at_last) ∙ part.before (length rest) j (omega arith) (omega arith)

  last_after : (j : ℕ) → length rest + 1 ≤ j → j < length hands → share_of h j ≡ share_of (hand_at hands j) (length rest)
  last_after j above below = let l = long in ap (λ (u : HandValue). share_of u j) (sym at_last) ∙ part.after (length rest) j (omega arith) (omega arith) below

  rest_before : (i j : ℕ) → i < length rest → j < length rest + 1 → share_of (hand_at rest i) j ≡ share_of (hand_at hands i) j
  rest_before i j lt below = let l = long in ap (λ (u : HandValue). share_of u j) (sym (at_rest i lt)) ∙ part.before i j (omega arith) (omega arith)

  rest_after : (i j : ℕ) → i < length rest → length rest + 1 ≤ j → j < length hands → share_of (hand_at rest i) j ≡ share_of (hand_at hands j) i
  rest_after i j lt above below = let l = long in ap (λ (u : HandValue). share_of u j) (sym (at_rest i lt)) ∙ part.after i j (omega arith) (omega arith) below

  module _ (rest' : List HandValue) (h' : HandValue) (S : IsDealt (length rest) rest rest' h h') where
    -- after the exchange the last hand has all shares in its deque
    pub last_column : h'.shares ≡ shares_at (length rest) hands
    last_column =
        let w = last_width in let v = S.width in let r = last_room in let m = length-map hands (λ (u : HandValue). share_of u (length rest)) in
        ext_get_or no_share h'.shares (shares_at (length rest) hands) (omega arith) (λ j below.
        let lt : j < length hands = omega arith in cell j lt ∙ sym (get_or-map (λ (u : HandValue). share_of u (length rest)) hands j no_hand no_share lt))
      where
        own : (j : ℕ) → length rest ≤ j → j < length hands → share_of h j ≡ share_of (hand_at hands j) (length rest)
        own j above below = dite (ℕ_discrete j (length rest))
            (λ (e : j ≡ length rest). subst (λ (k : ℕ). share_of h k ≡ share_of (hand_at hands k) (length rest)) (sym e) (last_before (length rest) (omega arith)))
            (λ (apart : j ≢ length rest). last_after j (omega arith) below)

        cell : (j : ℕ) → j < length hands → share_of h' j ≡ share_of (hand_at hands j) (length rest)
        cell j below = dite (dec_lt j (length rest))
            (λ (lt : j < length rest). S.got j lt ∙ (ap (share_of (hand_at rest j)) last_number ∙ rest_before j (length rest) lt (omega arith)))
            (λ (no : (j < length rest) → ⊥). S.kept j (omega arith) ∙ own j (omega arith) below)

    -- and the others are those before the last one was taken in
    pub rest_part : IsPart hands rest'
    rest_part = let c = S.count in let l = long in let s = part.short in let r = last_room in record {
      short = omega arith;
      number = λ i lt. let less : i < length rest = omega arith in ap (λ (u : HandValue). u.number) (gave i less) ∙ (ap (λ (u : HandValue). u.number) (sym (at_rest i less)) ∙ part.number i (omega arith));
      pushed = λ i lt. let less : i < length rest = omega arith in ap (λ (u : HandValue). u.pushed) (gave i less) ∙ (ap (λ (u : HandValue). u.pushed) (sym (at_rest i less)) ∙ part.pushed i (omega arith));
      width_is = λ i lt. let less : i < length rest = omega arith in
          ap (λ (u : HandValue). length u.shares) (gave i less) ∙ (length-set (hand_at rest i).shares (length rest) (share_of h i) ∙ (ap (λ (u : HandValue). length u.shares) (sym (at_rest i less)) ∙ part.width_is i (omega arith)));
      before = λ i j lt below. let less : i < length rest = omega arith in
          ap (λ (u : HandValue). share_of u j) (gave i less) ∙ (set_else (hand_at rest i) (length rest) j (share_of h i) (λ e. omega arith) ∙ rest_before i j less (omega arith));
      after = λ i j lt above below. let less : i < length rest = omega arith in ap (λ (u : HandValue). share_of u j) (gave i less) ∙ exchanged i j less (omega arith) below;
    }
      where
        gave : (i : ℕ) → i < length rest → hand_at rest' i ≡ with_share (hand_at rest i) (length rest) (share_of h i)
        gave i lt = S.gave i lt ∙ ap (λ (k : ℕ). with_share (hand_at rest i) k (share_of h i)) last_number

        exchanged : (i j : ℕ) → i < length rest → length rest ≤ j → j < length hands → share_of (with_share (hand_at rest i) (length rest) (share_of h i)) j ≡ share_of (hand_at hands j) i
        exchanged i j lt above below = let l = long in let r = last_room in
            let w : length (hand_at rest i).shares ≡ length hands = ap (λ (u : HandValue). length u.shares) (sym (at_rest i lt)) ∙ part.width_is i (omega arith) in
            dite (ℕ_discrete j (length rest))
            (λ (e : j ≡ length rest). subst (λ (k : ℕ). share_of (with_share (hand_at rest i) (length rest) (share_of h i)) k ≡ share_of (hand_at hands k) i) (sym e)
            (set_here (hand_at rest i) (length rest) (share_of h i) (omega arith) ∙ last_before i (omega arith)))
            (λ (apart : j ≢ length rest). set_else (hand_at rest i) (length rest) j (share_of h i) apart ∙ rest_after i j lt (omega arith) below)

    -- one deque more was told of
    pub closed_next : Closed h'.pushed h'.shares → ((i : ℕ) → length (rest ++ h ∷ []) ≤ i → i < length hands → Closed (hand_at hands i).pushed (shares_at i hands))
        → (i : ℕ) → length rest' ≤ i → i < length hands → Closed (hand_at hands i).pushed (shares_at i hands)
    closed_next now others i above below = let c = S.count in let l = long in dite (ℕ_discrete i (length rest))
        (λ (e : i ≡ length rest). subst (λ (k : ℕ). Closed (hand_at hands k).pushed (shares_at k hands)) (sym e)
        (subst (λ (p : List ℕ). Closed p (shares_at (length rest) hands)) (S.pushed ∙ last_pushed) (subst (Closed h'.pushed) last_column now)))
        (λ (apart : i ≢ length rest). others i (omega arith) below)
