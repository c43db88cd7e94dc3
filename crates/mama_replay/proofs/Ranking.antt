-- Lemmas on the passes of steps: one more in order, and which turn comes at a place of an order.
use Rattle.std.specs.Prelude.{slice_get, nat_lt}
use Rattle.std.proofs.Common.{◌≡◌, ℕ, zero, suc, ◌+◌, ◌<◌, ◌≤◌, Bool, cond, List, [], ◌∷◌, ◌++◌, length, map, take, drop, get_or, set, Option, None, Some, refl, sym, ◌∙◌, ap, subst, arith, ⊎_elim, append-nil, append_assoc, get_or-set_same, get_or-set_other}
use Rattle.std.proofs.lemmas.Bool.{cases_eq, cases_lt, eq-eqb, ne_eqb, cond_both}
use Rattle.std.proofs.lemmas.List.{get_or_append_left, get_or_push, length_push}
use Rattle.mama_check_order.specs.Order.{turns_of, IsMet, MayCome, MayTakeTurn, MayFollow}
use Rattle.mama_check_order.specs.Search.{entries_of}
use Rattle.mama_check_order.specs.declared.order.Need.{Need}
use Rattle.mama_check_order.proofs.Orders.{turns_push}
use Rattle.mama_replay.specs.Ranks.{ranks_at, rank_at, after_own, after_need, later, IsRank, IsRanked, AreRanks}

-- ---- one rank more

module _ (ranks : List (List ℕ)) (a rank : ℕ) (inside : a < length ranks) where
  abbrev old : List ℕ
  old = get_or ranks a []

  abbrev pub more : List (List ℕ)
  more = set ranks a (get_or ranks a [] ++ rank ∷ [])

  here : get_or more a [] ≡ get_or ranks a [] ++ rank ∷ []
  here = get_or-set_same ranks a (get_or ranks a [] ++ rank ∷ []) [] inside

  else_where : (b : ℕ) → (a ≡ b → ⊥) → get_or more b [] ≡ get_or ranks b []
  else_where b apart = get_or-set_other ranks a b (get_or ranks a [] ++ rank ∷ []) [] (λ same. apart (sym same))

  pub longer : length (get_or more a []) ≡ suc (length (get_or ranks a []))
  longer = ap (λ (xs : List ℕ). length xs) here ∙ length_push (get_or ranks a []) rank ∙ omega arith

  at_last : rank_at more a (length (get_or ranks a [])) ≡ rank
  at_last = ap (λ (xs : List ℕ). get_or xs (length (get_or ranks a [])) 0) here ∙ get_or_push (get_or ranks a []) rank 0 (length (get_or ranks a [])) refl

  -- what had its pass has it still
  stays : (b k : ℕ) → k < length (get_or ranks b []) → rank_at more b k ≡ rank_at ranks b k
  stays b k low = ⊎_elim
      (λ (same : a ≡ b). subst (λ (n : ℕ). k < length (get_or ranks n []) → rank_at more n k ≡ rank_at ranks n k) same
      (λ low. ap (λ (xs : List ℕ). get_or xs k 0) here ∙ get_or_append_left (get_or ranks a []) (rank ∷ []) 0 k low) low)
      (λ apart. ap (λ (xs : List ℕ). get_or xs k 0) (else_where b apart))
      (cases_eq a b)

  no_shorter : (b : ℕ) → length (get_or ranks b []) ≤ length (get_or more b [])
  no_shorter b = ⊎_elim
      (λ (same : a ≡ b). subst (λ (n : ℕ). length (get_or ranks n []) ≤ length (get_or more n [])) same (omega (arith, longer)))
      (λ apart. let is = ap (λ (xs : List ℕ). length xs) (else_where b apart) in omega arith)
      (cases_eq a b)

  still_own : (b k : ℕ) → k ≤ length (get_or ranks b []) → after_own (get_or more b []) k ≡ after_own (get_or ranks b []) k
  still_own b zero low = refl
  still_own b (suc k) low = ap suc (stays b k (omega arith))

  still_need : (b : ℕ) (need : Option Need) → IsRanked ranks need → after_need more b need ≡ after_need ranks b need
  still_need b None ranked = refl
  still_need b (Some need) ranked = ap (λ (r : ℕ). cond (nat_lt need.actor b) r (suc r)) (stays need.actor need.entry ranked)

  still_ranked : (need : Option Need) → IsRanked ranks need → IsRanked more need
  still_ranked None ranked = tt
  still_ranked (Some need) ranked = let at_least = no_shorter need.actor in omega (arith, ranked)

  still_rank : (b k : ℕ) (need : Option Need) → k < length (get_or ranks b []) → IsRanked ranks need → IsRank ranks b k need → IsRank more b k need
  still_rank b k need low ranked is =
      stays b k low ∙ is
      ∙ ap (λ (m : ℕ). later m (after_own (get_or ranks b []) k)) (sym (still_need b need ranked))
      ∙ ap (λ (o : ℕ). later (after_need more b need) o) (sym (still_own b k (omega arith)))

  new_rank : (need : Option Need) → IsRanked ranks need → rank ≡ later (after_need ranks a need) (after_own (get_or ranks a []) (length (get_or ranks a []))) → IsRank more a (length (get_or ranks a [])) need
  new_rank need ranked is =
      at_last ∙ is
      ∙ ap (λ (m : ℕ). later m (after_own (get_or ranks a []) (length (get_or ranks a [])))) (sym (still_need a need ranked))
      ∙ ap (λ (o : ℕ). later (after_need more a need) o) (sym (still_own a (length (get_or ranks a [])) (omega arith)))

  -- a step of an actor is one of those that it had, or the new one
  which : (P : ℕ → ℕ → Type 0) → ((b k : ℕ) → k < length (get_or ranks b []) → P b k) → P a (length (get_or ranks a [])) → (b k : ℕ) → k < length (get_or more b []) → P b k
  which P before now b k low = ⊎_elim
      (λ (same : a ≡ b). subst (λ (n : ℕ). k < length (get_or more n []) → P n k) same
      (λ low. ⊎_elim
      (λ less. before a k less)
      (λ past. let last : length (get_or ranks a []) ≡ k = omega (arith, longer) in subst (λ (n : ℕ). P a n) last now)
      (cases_lt k (length (get_or ranks a [])))) low)
      (λ apart. before b k (subst (λ (xs : List ℕ). k < length xs) (else_where b apart) low))
      (cases_eq a b)

-- ---- bounds

later_low : (n met own : ℕ) → met ≤ n → own ≤ n → later met own ≤ n
later_low n met own low also = cond_both (nat_lt met own) own met (λ r. r ≤ n) (λ h. also) (λ h. low)

own_low : (n : ℕ) (own : List ℕ) (k : ℕ) → ((i : ℕ) → i < k → get_or own i 0 < n) → after_own own k ≤ n
own_low n own zero low = omega arith
own_low n own (suc k) low = let less = low k (omega arith) in omega arith

need_low : (n : ℕ) (ranks : List (List ℕ)) (b : ℕ) (need : Option Need) → IsRanked ranks need → ((a k : ℕ) → k < length (ranks_at ranks a) → rank_at ranks a k < n) → after_need ranks b need ≤ n
need_low n ranks b None ranked low = omega arith
need_low n ranks b (Some need) ranked low =
    let less = low need.actor need.entry ranked in
    cond_both (nat_lt need.actor b) (rank_at ranks need.actor need.entry) (suc (rank_at ranks need.actor need.entry)) (λ r. r ≤ n) (λ h. omega arith) (λ h. omega arith)

some_is : {X : Type 0} (x y : X) → Some x ≡ Some y → x ≡ y
some_is x y h = cc

pub ranks_more : (needs : List (List (Option Need))) (turns : List ℕ) (ranks : List (List ℕ)) (a rank : ℕ) (need : Option Need) → AreRanks needs turns ranks → a < length ranks
    → slice_get (entries_of needs a) (length (ranks_at ranks a)) ≡ Some need → IsRanked ranks need
    → rank ≡ later (after_need ranks a need) (after_own (ranks_at ranks a) (length (ranks_at ranks a)))
    → AreRanks needs (turns ++ a ∷ []) (set ranks a (get_or ranks a [] ++ rank ∷ []))
ranks_more needs turns ranks a rank need r inside next ranked is =
    let new : List (List ℕ) = set ranks a (get_or ranks a [] ++ rank ∷ []) in
    let count : length (turns ++ a ∷ []) ≡ suc (length turns) = length_push turns a ∙ omega arith in
    record {
      as_many = λ b. ⊎_elim
          (λ (same : a ≡ b). subst (λ (n : ℕ). length (get_or new n []) ≡ turns_of n (turns ++ a ∷ [])) same
          (longer ranks a rank inside ∙ ap suc (r.as_many a)
          ∙ sym (turns_push a turns a ∙ ap (λ (c : Bool). cond c (suc (turns_of a turns)) (turns_of a turns)) (eq-eqb a a refl))))
          (λ apart. ap (λ (xs : List ℕ). length xs) (else_where ranks a rank inside b apart) ∙ r.as_many b
          ∙ sym (turns_push b turns a ∙ ap (λ (c : Bool). cond c (suc (turns_of b turns)) (turns_of b turns)) (ne_eqb a b apart)))
          (cases_eq a b);
      each = λ b k its low at. which ranks a rank inside (λ b k. (its : Option Need) → slice_get (entries_of needs b) k ≡ Some its → IsRank new b k its)
          (λ b k low its at. still_rank ranks a rank inside b k its low (r.needed b k its low at) (r.each b k its low at))
          (λ its at. let same : need ≡ its = some_is need its (sym next ∙ at) in subst (λ (o : Option Need). IsRank new a (length (get_or ranks a [])) o) same (new_rank ranks a rank inside need ranked is))
          b k low its at;
      needed = λ b k its low at. which ranks a rank inside (λ b k. (its : Option Need) → slice_get (entries_of needs b) k ≡ Some its → IsRanked new its)
          (λ b k low its at. still_ranked ranks a rank inside its (r.needed b k its low at))
          (λ its at. let same : need ≡ its = some_is need its (sym next ∙ at) in subst (λ (o : Option Need). IsRanked new o) same (still_ranked ranks a rank inside need ranked))
          b k low its at;
      low = which ranks a rank inside (λ b k. rank_at new b k < length (turns ++ a ∷ []))
          (λ b k low. let was = stays ranks a rank inside b k low in let less = r.low b k low in omega arith)
          (let at = at_last ranks a rank inside in
          let most = later_low (length turns) (after_need ranks a need) (after_own (get_or ranks a []) (length (get_or ranks a [])))
          (need_low (length turns) ranks a need ranked r.low)
          (own_low (length turns) (get_or ranks a []) (length (get_or ranks a [])) (λ i low. r.low a i low)) in
          omega arith);
    }

-- ---- the turn at a place of an order

pub turn_at : (needs : List (List (Option Need))) (before ts : List ℕ) (a : ℕ) (rest : List ℕ) → MayFollow needs before (ts ++ a ∷ rest) → MayTakeTurn needs (before ++ ts) a
turn_at needs before [] a rest follow = subst (λ (bs : List ℕ). MayTakeTurn needs bs a) (sym (append-nil before)) follow.0
turn_at needs before (t ∷ ts) a rest follow =
    subst (λ (bs : List ℕ). MayTakeTurn needs bs a) (append_assoc before (t ∷ []) ts) (turn_at needs (before ++ t ∷ []) ts a rest follow.1)

-- what comes next of an actor that may take its turn: there is an entry, and what it needs had its turn
pub record HasTurn (needs : List (List (Option Need))) (turns : List ℕ) (a : ℕ) : Type 0 where
  pub need : Option Need
  pub next : slice_get (entries_of needs a) (turns_of a turns) ≡ Some need
  pub met : IsMet turns need

pub has_turn : (needs : List (List (Option Need))) (turns : List ℕ) (a : ℕ) → MayTakeTurn needs turns a → HasTurn needs turns a
has_turn needs turns a may = by_entry (slice_get (entries_of needs a) (turns_of a turns)) refl may
  where
    by_entry : (o : Option (Option Need)) → slice_get (entries_of needs a) (turns_of a turns) ≡ o → MayCome turns o → HasTurn needs turns a
    by_entry None is may = absurd may
    by_entry (Some need) is may = record { need = need; next = is; met = may }

pub within_some : {X : Type 0} (xs : List X) (k : ℕ) (x : X) → slice_get xs k ≡ Some x → k < length xs
within_some [] zero x is = cc
within_some [] (suc k) x is = cc
within_some (y ∷ ys) zero x is = omega arith
within_some (y ∷ ys) (suc k) x is = let rest = within_some ys k x is in omega arith

pub same_some : {X : Type 0} (x y : X) → Some x ≡ Some y → x ≡ y
same_some x y h = cc

parted_at : (xs : List ℕ) (i : ℕ) → i < length xs → take i xs ++ get_or xs i 0 ∷ drop (suc i) xs ≡ xs
parted_at [] i low = absurd (omega arith)
parted_at (x ∷ xs) zero low = refl
parted_at (x ∷ xs) (suc i) low = ap (λ (ys : List ℕ). x ∷ ys) (parted_at xs i (omega arith))

pub take_next : (xs : List ℕ) (i : ℕ) → i < length xs → take (i + 1) xs ≡ take i xs ++ get_or xs i 0 ∷ []
take_next [] i low = absurd (omega arith)
take_next (x ∷ xs) zero low = refl
take_next (x ∷ xs) (suc i) low =
    let place : suc i + 1 ≡ suc (i + 1) = omega arith in
    ap (λ (n : ℕ). take n (x ∷ xs)) place ∙ ap (λ (ys : List ℕ). x ∷ ys) (take_next xs i (omega arith))

pub turn_of_order : (needs : List (List (Option Need))) (turns : List ℕ) (i : ℕ) → MayFollow needs [] turns → i < length turns → HasTurn needs (take i turns) (get_or turns i 0)
turn_of_order needs turns i follow low =
    has_turn needs (take i turns) (get_or turns i 0)
    (turn_at needs [] (take i turns) (get_or turns i 0) (drop (suc i) turns) (subst (λ (ts : List ℕ). MayFollow needs [] ts) (sym (parted_at turns i low)) follow))

pub met_is_ranked : (needs : List (List (Option Need))) (turns : List ℕ) (ranks : List (List ℕ)) (need : Option Need) → AreRanks needs turns ranks → IsMet turns need → IsRanked ranks need
met_is_ranked needs turns ranks None r met = tt
met_is_ranked needs turns ranks (Some need) r met = let count = r.as_many need.actor in omega (arith, met)

-- ---- before the first turn

pub ranks_none : (needs : List (List (Option Need))) (ranks : List (List ℕ)) → ((a : ℕ) → ranks_at ranks a ≡ []) → AreRanks needs [] ranks
ranks_none needs ranks none =
    let nothing : (a k : ℕ) → k < length (ranks_at ranks a) → ⊥ = λ a k low. let is = ap (λ (xs : List ℕ). length xs) (none a) in absurd (omega arith) in
    record {
      as_many = λ a. ap (λ (xs : List ℕ). length xs) (none a);
      each = λ a k need low at. absurd (nothing a k low);
      needed = λ a k need low at. absurd (nothing a k low);
      low = λ a k low. absurd (nothing a k low);
    }

-- one list more with nothing in it
pub none_more : {A : Type 0} (f : A → List ℕ) (xs new : List A) (x : A) → new ≡ xs ++ x ∷ [] → f x ≡ [] → ((a : ℕ) → get_or (map f xs) a [] ≡ []) → (a : ℕ) → get_or (map f new) a [] ≡ []
none_more {A} f xs new x is empty none a = ap (λ (ys : List A). get_or (map f ys) a []) is ∙ go xs a none
  where
    go : (xs : List A) (a : ℕ) → ((a : ℕ) → get_or (map f xs) a [] ≡ []) → get_or (map f (xs ++ x ∷ [])) a [] ≡ []
    go [] zero none = empty
    go [] (suc a) none = refl
    go (y ∷ ys) zero none = none 0
    go (y ∷ ys) (suc a) none = go ys a (λ b. none (suc b))
