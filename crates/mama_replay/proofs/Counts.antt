-- How many steps each actor has made: whose next may come, and which those of a pass are by their ranks.
use Rattle.std.specs.Prelude.{slice_get, nat_lt}
use Rattle.std.proofs.Common.{◌≡◌, ℕ, zero, suc, ◌<◌, ◌≤◌, ◌==◌, Bool, true, false, cond, List, [], ◌∷◌, length, Option, None, Some, refl, sym, ◌∙◌, ap, subst, arith, ◌⊎◌, ⊎_elim}
use Rattle.std.proofs.lemmas.Bool.{cases_eq, cases_lt, eq-eqb, ne_eqb, both_ways, true≢false, lt-ltb, ltb-true, le-ltb}
use Rattle.mama_journal.specs.Lane.{by_port}
use Rattle.mama_check_order.specs.Search.{entries_of}
use Rattle.mama_check_order.specs.declared.order.Need.{Need}
use Rattle.mama_check_order.specs.Turns.{IsWhole}
use Rattle.mama_replay.specs.Ranks.{ranks_at, rank_at, after_own, after_need, later, IsRank, IsRanked, AreRanks}

-- ---- who may go on

-- what a step needs was made, where made tells how many steps each actor has made
abbrev pub is_met : (ℕ → ℕ) → Option Need → Bool
is_met made None = true
is_met made (Some need) = nat_lt need.entry (made need.actor)

abbrev pub may_come : (ℕ → ℕ) → Option (Option Need) → Bool
may_come made None = false
may_come made (Some need) = is_met made need

-- an actor has a next step, and what that needs was made
abbrev pub is_ready : List (List (Option Need)) → (ℕ → ℕ) → ℕ → Bool
is_ready needs made a = may_come made (slice_get (entries_of needs a) (made a))

-- an actor has made one more
abbrev pub made_more : (ℕ → ℕ) → ℕ → ℕ → ℕ
made_more made a b = cond (a == b) (suc (made b)) (made b)

-- an actor has made its next step, if it could
abbrev pub gone_on : List (List (Option Need)) → (ℕ → ℕ) → ℕ → ℕ → ℕ
gone_on needs made a b = cond (is_ready needs made a) (made_more made a b) (made b)

-- ---- what is there at a place

pub record IsAt {X : Type 0} (xs : List X) (k : ℕ) : Type 0 where
  pub item : X
  pub is : slice_get xs k ≡ Some item

pub at_within : {X : Type 0} (xs : List X) (k : ℕ) → k < length xs → IsAt xs k
at_within [] k low = absurd (omega arith)
at_within (x ∷ xs) zero low = record { item = x; is = refl }
at_within (x ∷ xs) (suc k) low = let rest = at_within xs k (omega arith) in record { item = rest.item; is = rest.is }

pub within_at : {X : Type 0} (xs : List X) (k : ℕ) (x : X) → slice_get xs k ≡ Some x → k < length xs
within_at [] zero x is = cc
within_at [] (suc k) x is = cc
within_at (y ∷ ys) zero x is = omega arith
within_at (y ∷ ys) (suc k) x is = let rest = within_at ys k x is in omega arith

-- ---- ranks of all steps

pub record IsRanking (needs : List (List (Option Need))) (ranks : List (List ℕ)) : Type 0 where
  pub as_many : (a : ℕ) → length (ranks_at ranks a) ≡ length (entries_of needs a)
  pub each : (a k : ℕ) (need : Option Need) → slice_get (entries_of needs a) k ≡ Some need → IsRank ranks a k need
  pub needed : (a k : ℕ) (need : Option Need) → slice_get (entries_of needs a) k ≡ Some need → IsRanked ranks need

pub ranking : (needs : List (List (Option Need))) (turns : List ℕ) (ranks : List (List ℕ)) → IsWhole needs turns → AreRanks needs turns ranks → IsRanking needs ranks
ranking needs turns ranks whole r =
    let count : (a : ℕ) → length (ranks_at ranks a) ≡ length (entries_of needs a) = λ a. r.as_many a ∙ whole.all a in
    record {
      as_many = count;
      each = λ a k need is. let low = within_at (entries_of needs a) k need is in let many = count a in r.each a k need (omega arith) is;
      needed = λ a k need is. let low = within_at (entries_of needs a) k need is in let many = count a in r.needed a k need (omega arith) is;
    }

-- So many steps of an actor come in passes before this one, and the others in this one or later.
pub record IsCut (needs : List (List (Option Need))) (ranks : List (List ℕ)) (made : ℕ → ℕ) (m a : ℕ) : Type 0 where
  pub within : made a ≤ length (entries_of needs a)
  pub before : (k : ℕ) → k < made a → rank_at ranks a k < m
  pub after : (k : ℕ) → made a ≤ k → k < length (entries_of needs a) → m ≤ rank_at ranks a k

strict : (low high : ℕ) → low ≤ high → (high ≡ low → ⊥) → low < high
strict low high least apart = ⊎_elim (λ less. less) (λ more. let same : high ≡ low = omega arith in absurd (apart same)) (cases_lt low high)

least_met : (met own : ℕ) → met ≤ later met own
least_met met own = ⊎_elim
    (λ low. let is : later met own ≡ own = ap (λ (b : Bool). cond b own met) (lt-ltb met own low) in omega arith)
    (λ high. let is : later met own ≡ met = ap (λ (b : Bool). cond b own met) (le-ltb met own high) in omega arith)
    (cases_lt met own)

most_of : (n met own : ℕ) → met ≤ n → own ≤ n → later met own ≤ n
most_of n met own low also = ⊎_elim
    (λ less. let is : later met own ≡ own = ap (λ (b : Bool). cond b own met) (lt-ltb met own less) in omega arith)
    (λ high. let is : later met own ≡ met = ap (λ (b : Bool). cond b own met) (le-ltb met own high) in omega arith)
    (cases_lt met own)

least_own : (met own : ℕ) → own ≤ later met own
least_own met own = ⊎_elim
    (λ low. let is : later met own ≡ own = ap (λ (b : Bool). cond b own met) (lt-ltb met own low) in omega arith)
    (λ high. let is : later met own ≡ met = ap (λ (b : Bool). cond b own met) (le-ltb met own high) in omega arith)
    (cases_lt met own)

module _ (needs : List (List (Option Need))) (ranks : List (List ℕ)) (r : IsRanking needs ranks) where
  -- in the order of the passes a step comes after the actor's step before it
  pub increasing : (a k : ℕ) → suc k < length (entries_of needs a) → rank_at ranks a k < rank_at ranks a (suc k)
  increasing a k low =
      let at = at_within (entries_of needs a) (suc k) low in
      let is : rank_at ranks a (suc k) ≡ later (after_need ranks a at.item) (suc (rank_at ranks a k)) = r.each a (suc k) at.item at.is in
      let least = least_own (after_need ranks a at.item) (suc (rank_at ranks a k)) in
      omega arith

  -- and so after all before it
  pub rising : (a j k : ℕ) → j < k → k < length (entries_of needs a) → rank_at ranks a j < rank_at ranks a k
  rising a j zero low inside = absurd (omega arith)
  rising a j (suc k) low inside =
      let next = increasing a k inside in
      ⊎_elim
      (λ less. let before = rising a j k less (omega arith) in omega arith)
      (λ more. let same : j ≡ k = omega arith in let there = ap (λ (n : ℕ). rank_at ranks a n) same in omega arith)
      (cases_lt j k)

  -- the actors before this one have made their steps of this pass, and the others only those of the passes before it
  pub record IsWithin (made : ℕ → ℕ) (m a : ℕ) : Type 0 where
    pub earlier : (b : ℕ) → b < a → IsCut needs ranks made (suc m) b
    pub others : (b : ℕ) → a ≤ b → IsCut needs ranks made m b

  module _ (made : ℕ → ℕ) (m a : ℕ) (w : IsWithin made m a) where
    -- what is needed was made exactly where it is there in this pass
    met_low : (need : Option Need) → IsRanked ranks need → is_met made need ≡ true → after_need ranks a need ≤ m
    met_low None ranked met = omega arith
    met_low (Some need) ranked met =
        let low : need.entry < made need.actor = ltb-true need.entry (made need.actor) met in
        ⊎_elim
        (λ before.
        let is : after_need ranks a (Some need) ≡ rank_at ranks need.actor need.entry = ap (λ (b : Bool). cond b (rank_at ranks need.actor need.entry) (suc (rank_at ranks need.actor need.entry))) (lt-ltb need.actor a before) in
        let less = (w.earlier need.actor before).before need.entry low in
        omega arith)
        (λ not_before.
        let is : after_need ranks a (Some need) ≡ suc (rank_at ranks need.actor need.entry) = ap (λ (b : Bool). cond b (rank_at ranks need.actor need.entry) (suc (rank_at ranks need.actor need.entry))) (le-ltb need.actor a not_before) in
        let less = (w.others need.actor not_before).before need.entry low in
        omega arith)
        (cases_lt need.actor a)

    low_met : (need : Option Need) → IsRanked ranks need → after_need ranks a need ≤ m → is_met made need ≡ true
    low_met None ranked low = refl
    low_met (Some need) ranked low =
        let many = r.as_many need.actor in
        ⊎_elim
        (λ made_it. lt-ltb need.entry (made need.actor) made_it)
        (λ not_made. ⊎_elim
        (λ before.
        let is : after_need ranks a (Some need) ≡ rank_at ranks need.actor need.entry = ap (λ (b : Bool). cond b (rank_at ranks need.actor need.entry) (suc (rank_at ranks need.actor need.entry))) (lt-ltb need.actor a before) in
        let least = (w.earlier need.actor before).after need.entry not_made (omega (arith, ranked)) in
        absurd (omega arith))
        (λ not_before.
        let is : after_need ranks a (Some need) ≡ suc (rank_at ranks need.actor need.entry) = ap (λ (b : Bool). cond b (rank_at ranks need.actor need.entry) (suc (rank_at ranks need.actor need.entry))) (le-ltb need.actor a not_before) in
        let least = (w.others need.actor not_before).after need.entry not_made (omega (arith, ranked)) in
        absurd (omega arith))
        (cases_lt need.actor a))
        (cases_lt need.entry (made need.actor))

    own_low : (k : ℕ) → k ≤ made a → after_own (ranks_at ranks a) k ≤ m
    own_low zero low = omega arith
    own_low (suc k) low = let less = (w.others a (omega arith)).before k (omega arith) in omega arith

    -- the next step of an actor may come exactly where it is one of this pass
    pub ready_rank : is_ready needs made a ≡ true → (made a < length (entries_of needs a)) × (rank_at ranks a (made a) ≡ m)
    ready_rank ready = by_entry (slice_get (entries_of needs a) (made a)) refl ready
      where
        by_entry : (o : Option (Option Need)) → slice_get (entries_of needs a) (made a) ≡ o → may_come made o ≡ true → (made a < length (entries_of needs a)) × (rank_at ranks a (made a) ≡ m)
        by_entry None at may = absurd (true≢false (sym may))
        by_entry (Some need) at may =
            let low = within_at (entries_of needs a) (made a) need at in
            let is = r.each a (made a) need at in
            let most = most_of m (after_need ranks a need) (after_own (ranks_at ranks a) (made a)) (met_low need (r.needed a (made a) need at) may) (own_low (made a) (omega arith)) in
            let least = (w.others a (omega arith)).after (made a) (omega arith) low in
            (low, omega arith)

    pub rank_ready : made a < length (entries_of needs a) → rank_at ranks a (made a) ≡ m → is_ready needs made a ≡ true
    rank_ready low rank =
        let at = at_within (entries_of needs a) (made a) low in
        let is = r.each a (made a) at.item at.is in
        let least = least_met (after_need ranks a at.item) (after_own (ranks_at ranks a) (made a)) in
        ap (may_come made) at.is ∙ low_met at.item (r.needed a (made a) at.item at.is) (omega arith)

    -- after it went on, this actor has made its steps of this pass too
    pub cut_more : IsCut needs ranks (gone_on needs made a) (suc m) a
    cut_more = by_ready (is_ready needs made a) refl
      where
        own : IsCut needs ranks made m a
        own = w.others a (omega arith)

        by_ready : (b : Bool) → is_ready needs made a ≡ b → IsCut needs ranks (gone_on needs made a) (suc m) a
        by_ready true ready =
            let parts = ready_rank ready in
            let low = parts.0 in
            let rank = parts.1 in
            let is : gone_on needs made a a ≡ suc (made a) = ap (λ (b : Bool). cond b (made_more made a a) (made a)) ready ∙ ap (λ (b : Bool). cond b (suc (made a)) (made a)) (eq-eqb a a refl) in
            record {
              within = omega arith;
              before = λ k less. ⊎_elim
                  (λ old. let was = own.before k old in omega arith)
                  (λ not_old. let same : made a ≡ k = omega arith in let there = ap (λ (n : ℕ). rank_at ranks a n) same in omega arith)
                  (cases_lt k (made a));
              after = λ k least inside.
                  let up = rising a (made a) k (omega arith) inside in
                  omega arith;
            }
        by_ready false ready =
            let is : gone_on needs made a a ≡ made a = ap (λ (b : Bool). cond b (made_more made a a) (made a)) ready in
            record {
              within = let low = own.within in omega arith;
              before = λ k less. let was = own.before k (omega arith) in omega arith;
              after = λ k least inside.
                  let was = own.after k (omega arith) inside in
                  ⊎_elim
                  (λ (same : rank_at ranks a k ≡ m). ⊎_elim
                  (λ (here : k ≡ made a). absurd (both_ways (is_ready needs made a) ready (rank_ready (omega arith) (ap (λ (n : ℕ). rank_at ranks a n) (sym here) ∙ same))))
                  (λ apart.
                  let first = own.after (made a) (omega arith) (omega arith) in
                  let up = rising a (made a) k (strict (made a) k (omega arith) apart) inside in
                  absurd (omega arith))
                  (cases_eq k (made a)))
                  (λ apart. strict m (rank_at ranks a k) was (λ e. apart e))
                  (cases_eq (rank_at ranks a k) m);
            }

    pub cut_other : (b n : ℕ) → (a ≡ b → ⊥) → IsCut needs ranks made n b → IsCut needs ranks (gone_on needs made a) n b
    cut_other b n apart cut =
        let is : gone_on needs made a b ≡ made b = by_ready (is_ready needs made a) in
        record {
          within = let low = cut.within in omega arith;
          before = λ k less. cut.before k (omega arith);
          after = λ k least inside. cut.after k (omega arith) inside;
        }
      where
        by_ready : (ready : Bool) → cond ready (made_more made a b) (made b) ≡ made b
        by_ready true = ap (λ (c : Bool). cond c (suc (made b)) (made b)) (ne_eqb a b apart)
        by_ready false = refl

  -- the next actor's turn within the pass
  pub within_next : (made : ℕ → ℕ) (m a : ℕ) → IsWithin made m a → IsWithin (gone_on needs made a) m (suc a)
  within_next made m a w = record {
    earlier = λ b low. ⊎_elim
        (λ (same : a ≡ b). subst (λ (n : ℕ). IsCut needs ranks (gone_on needs made a) (suc m) n) same (cut_more made m a w))
        (λ apart. cut_other made m a w b (suc m) apart (w.earlier b (under b low apart)))
        (cases_eq a b);
    others = λ b high. cut_other made m a w b m (λ same. omega arith) (w.others b (omega arith));
  }
    where
      under : (b : ℕ) → b < suc a → (a ≡ b → ⊥) → b < a
      under b low apart = ⊎_elim (λ less. less) (λ more. let same : a ≡ b = omega arith in absurd (apart same)) (cases_lt b a)

-- ---- the step of a pass among all steps of an actor

abbrev pub of_pass : {V : Type 0} → ℕ → Option (ℕ × V) → List V
of_pass m None = []
of_pass m (Some x) = cond (x.0 == m) (x.1 ∷ []) []

none_of : {V : Type 0} (m : ℕ) (xs : List (ℕ × V)) → ((k : ℕ) (x : ℕ × V) → slice_get xs k ≡ Some x → m < x.0) → by_port m xs ≡ []
none_of m [] high = refl
none_of m (x ∷ xs) high =
    let more = high 0 x refl in
    ap (λ (b : Bool). cond b (x.1 ∷ by_port m xs) (by_port m xs)) (ne_eqb x.0 m (λ same. omega arith)) ∙ none_of m xs (λ k y is. high (suc k) y is)

-- where those before a place are of earlier passes, and those after it of later ones
pub one_of_pass : {V : Type 0} (m : ℕ) (xs : List (ℕ × V)) (n : ℕ) → ((k : ℕ) (x : ℕ × V) → k < n → slice_get xs k ≡ Some x → x.0 < m)
    → ((k : ℕ) (x : ℕ × V) → n < k → slice_get xs k ≡ Some x → m < x.0) → by_port m xs ≡ of_pass m (slice_get xs n)
one_of_pass m [] zero low high = refl
one_of_pass m [] (suc n) low high = refl
one_of_pass m (x ∷ xs) zero low high =
    ap (λ (vs : List _). cond (x.0 == m) (x.1 ∷ vs) vs) (none_of m xs (λ k y is. high (suc k) y (omega arith) is))
one_of_pass m (x ∷ xs) (suc n) low high =
    let less = low 0 x (omega arith) refl in
    ap (λ (b : Bool). cond b (x.1 ∷ by_port m xs) (by_port m xs)) (ne_eqb x.0 m (λ same. omega arith))
    ∙ one_of_pass m xs n (λ k y more is. low (suc k) y (omega arith) is) (λ k y more is. high (suc k) y (omega arith) is)
