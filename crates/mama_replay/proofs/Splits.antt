-- What was put so far on an edge, among all that is put there: whether what comes next waits, by who put it.
use Rattle.std.specs.Prelude.{slice_get, slice_index_or, nat_lt, replicate, not}
use Rattle.std.specs.List.{flat_map}
use Rattle.std.proofs.Common.{◌≡◌, ℕ, zero, suc, ◌+◌, ◌-◌, ◌<◌, ◌≤◌, Bool, true, false, List, [], ◌∷◌, ◌++◌, length, map, take, Some, refl, sym, ◌∙◌, ap, subst, arith, ⊎_elim, append-nil, append_assoc}
use Rattle.std.proofs.lemmas.Bool.{cases_lt, lt-ltb, le-ltb, both_ways}
use Rattle.std.proofs.lemmas.List.{length-map, length-append, map-append}
use Rattle.std.proofs.lemmas.List.Concat.{flat_map-append}
use Rattle.mama_check_order.specs.Numbered.{second, from_entry, numbered_after, numbered, parted, steps_numbered_from}
use Rattle.mama_check_order.proofs.Numbered.{numbered_append, parted_append}
use Rattle.mama_rules_queue.specs.Queue.{QueuePut}
use Rattle.mama_rules_rounds.specs.Client.{Standing, steps_from}
use Rattle.mama_rules_legal.specs.Edges.{all_steps}
use Rattle.mama_script.specs.declared.client.ClientLine.{ClientLine}
use Rattle.mama_script.specs.declared.client.ClientLine.TheVariants as line
use Rattle.mama_check_puts.specs.Client.{lines_from}
use Rattle.mama_laws_causal.proofs.Numbers.{Begins, below_numbered, below_parted, below_at}
use Rattle.mama_replay.specs.Followed.{moving}
use Rattle.mama_replay.specs.Needs.{numbers_from}

-- ---- an edge in two parts

-- What is put on an edge, by the number of the entry that puts it: first what was put so far, whose entries were made, and then
-- what is put later, whose entries were not.
pub record IsSplit {V : Type 0} (is_made : ℕ → Bool) (list : List (ℕ × V)) (put : List V) : Type 0 where
  pub first : List (ℕ × V)
  pub later : List (ℕ × V)
  pub whole : first ++ later ≡ list
  pub so_far : map second first ≡ put
  pub made : (k : ℕ) (x : ℕ × V) → slice_get first k ≡ Some x → is_made x.0 ≡ true
  pub left : (k : ℕ) (x : ℕ × V) → slice_get later k ≡ Some x → is_made x.0 ≡ false

abbrev pub some_there : {V : Type 0} → List V → Bool
some_there [] = false
some_there (v ∷ vs) = true

at_first_part : {X : Type 0} (xs ys : List X) (k : ℕ) → k < length xs → slice_get (xs ++ ys) k ≡ slice_get xs k
at_first_part [] ys k low = absurd (omega arith)
at_first_part (x ∷ xs) ys zero low = refl
at_first_part (x ∷ xs) ys (suc k) low = at_first_part xs ys k (omega arith)

at_second_part : {X : Type 0} (xs ys : List X) (n : ℕ) → n ≡ length xs → slice_get (xs ++ ys) n ≡ slice_get ys 0
at_second_part [] ys n is = ap (slice_get ys) is
at_second_part (x ∷ xs) ys zero is = absurd (omega (arith, is))
at_second_part (x ∷ xs) ys (suc n) is = at_second_part xs ys n (omega (arith, is))

module _ {V : Type 0} (is_made : ℕ → Bool) (list : List (ℕ × V)) (put : List V) (s : IsSplit is_made list put) where
  as_many : length s.first ≡ length put
  as_many = sym (length-map s.first second) ∙ ap (λ (vs : List V). length vs) s.so_far

  -- the next event of an edge waits exactly where the entry that puts it was made
  pub waits_made : (taken waiting : List V) (x : ℕ × V) → taken ++ waiting ≡ put → slice_get list (length taken) ≡ Some x → some_there waiting ≡ is_made x.0
  waits_made taken [] x all at =
      let same : length taken ≡ length put = ap (λ (vs : List V). length vs) (sym (append-nil taken) ∙ all) in
      sym (s.left 0 x (sym (at_second_part s.first s.later (length taken) (same ∙ sym as_many)) ∙ ap (λ (xs : List (ℕ × V)). slice_get xs (length taken)) s.whole ∙ at))
  waits_made taken (v ∷ vs) x all at =
      let both : length taken + suc (length vs) ≡ length put = sym (length-append taken (v ∷ vs)) ∙ ap (λ (ws : List V). length ws) all in
      let low : length taken < length s.first = omega (arith, as_many) in
      sym (s.made (length taken) x (sym (at_first_part s.first s.later (length taken) low) ∙ ap (λ (xs : List (ℕ × V)). slice_get xs (length taken)) s.whole ∙ at))

  -- and it is the next of all that is put there
  pub waits_next : (taken waiting : List V) (v u : V) (vs us : List V) → taken ++ waiting ≡ put → waiting ≡ v ∷ vs → map second list ≡ taken ++ u ∷ us → v ≡ u
  waits_next taken waiting v u vs us all is total =
      same_next taken v u (vs ++ map second s.later) us
      (sym (append_assoc taken (v ∷ vs) (map second s.later))
      ∙ ap (λ (ws : List V). (taken ++ ws) ++ map second s.later) (sym is)
      ∙ ap (λ (ws : List V). ws ++ map second s.later) (all ∙ sym s.so_far)
      ∙ sym (map-append second s.first s.later) ∙ ap (map second) s.whole ∙ total)
    where
      same_next : (xs : List V) (v u : V) (vs us : List V) → xs ++ v ∷ vs ≡ xs ++ u ∷ us → v ≡ u
      same_next [] v u vs us is = cc
      same_next (x ∷ xs) v u vs us is = same_next xs v u vs us cc

-- ---- what a journal puts

above_append : {V : Type 0} (n : ℕ) (xs ys : List (ℕ × V)) → ((k : ℕ) (x : ℕ × V) → slice_get xs k ≡ Some x → n ≤ x.0) → ((k : ℕ) (x : ℕ × V) → slice_get ys k ≡ Some x → n ≤ x.0)
    → (k : ℕ) (x : ℕ × V) → slice_get (xs ++ ys) k ≡ Some x → n ≤ x.0
above_append n [] ys first later k x is = later k x is
above_append n (y ∷ xs) ys first later zero x is = first 0 x is
above_append n (y ∷ xs) ys first later (suc k) x is = above_append n xs ys (λ j z at. first (suc j) z at) later k x is

abbrev pub AreAbove : {V : Type 0} → ℕ → List (ℕ × V) → Type 0
AreAbove {V} n xs = (k : ℕ) (x : ℕ × V) → slice_get xs k ≡ Some x → n ≤ x.0

above_entry : {P : Type 0} (n k : ℕ) (ps : List P) → n ≤ k → AreAbove n (from_entry k ps)
above_entry n k [] low zero x is = cc
above_entry n k [] low (suc j) x is = cc
above_entry {P} n k (p ∷ ps) low zero x is =
    let same : (k, p) ≡ x = cc in
    subst (λ (y : ℕ × P). n ≤ y.0) same low
above_entry n k (p ∷ ps) low (suc j) x is = above_entry n k ps low j x is

pub above_numbered_after : {E P : Type 0} (at : List E → E → List P) (n k : ℕ) (before es : List E) → n ≤ k → AreAbove n (numbered_after at k before es)
above_numbered_after at n k before [] low zero x is = cc
above_numbered_after at n k before [] low (suc j) x is = cc
above_numbered_after at n k before (e ∷ es) low j x is =
    above_append n (from_entry k (at before e)) (numbered_after at (suc k) (before ++ e ∷ []) es) (above_entry n k (at before e) low)
    (above_numbered_after at n (suc k) (before ++ e ∷ []) es (omega arith)) j x is

pub above_parted : {P V : Type 0} (part : P → List V) (n : ℕ) (xs : List (ℕ × P)) → AreAbove n xs → AreAbove n (parted part xs)
above_parted part n [] above zero x is = cc
above_parted part n [] above (suc j) x is = cc
above_parted part n (y ∷ xs) above j x is =
    above_append n (from_entry y.0 (part y.1)) (parted part xs) (above_entry n y.0 (part y.1) (above 0 y refl))
    (above_parted part n xs (λ k z at. above (suc k) z at)) j x is

-- what a journal puts one way is split by the entries so far
pub journal_split : {E P V : Type 0} (at : List E → E → List P) (part : P → List V) (before whole : List E) (put : List V) (is_made : ℕ → Bool) → Begins before whole
    → map second (parted part (numbered at before)) ≡ put → ((j : ℕ) → is_made j ≡ nat_lt j (length before)) → IsSplit is_made (parted part (numbered at whole)) put
journal_split {E} {P} at part before whole put is_made begins so_far by =
    let rest : List (ℕ × P) = numbered_after at (length before) before begins.0 in
    record {
      first = parted part (numbered at before);
      later = parted part (numbered_after at (length before) before begins.0);
      whole = sym (parted_append part (numbered at before) rest) ∙ ap (parted part) (sym (numbered_append at before begins.0) ∙ ap (numbered at) begins.1);
      so_far = so_far;
      made = λ k x is. by x.0 ∙ lt-ltb x.0 (length before) (below_at (length before) (parted part (numbered at before)) k x (below_parted part (length before) (numbered at before) (below_numbered at before)) is);
      left = λ k x is. by x.0 ∙ le-ltb x.0 (length before) (above_parted part (length before) rest (above_numbered_after at (length before) (length before) before begins.0 (omega arith)) k x is);
    }

-- the same of all that it puts
pub whole_split : {E P : Type 0} (at : List E → E → List P) (before whole : List E) (put : List P) (is_made : ℕ → Bool) → Begins before whole
    → map second (numbered at before) ≡ put → ((j : ℕ) → is_made j ≡ nat_lt j (length before)) → IsSplit is_made (numbered at whole) put
whole_split {E} {P} at before whole put is_made begins so_far by =
    record {
      first = numbered at before;
      later = numbered_after at (length before) before begins.0;
      whole = sym (numbered_append at before begins.0) ∙ ap (numbered at) begins.1;
      so_far = so_far;
      made = λ k x is. by x.0 ∙ lt-ltb x.0 (length before) (below_at (length before) (numbered at before) k x (below_numbered at before) is);
      left = λ k x is. by x.0 ∙ le-ltb x.0 (length before) (above_numbered_after at (length before) (length before) before begins.0 (omega arith) k x is);
    }

-- ---- what a client puts

-- nothing that is put comes of nothing
pub nothing_split : {V : Type 0} (is_made : ℕ → Bool) → IsSplit {V = V} is_made [] []
nothing_split {V} is_made = record { first = []; later = []; whole = refl; so_far = refl; made = none true; left = none false }
  where
    none : (b : Bool) (k : ℕ) (x : ℕ × V) → slice_get [] k ≡ Some x → is_made x.0 ≡ b
    none b zero x is = cc
    none b (suc k) x is = cc

module _ {V : Type 0} (part : QueuePut → List V) (queues c n : ℕ) where
  abbrev put_by_lines : ℕ → Standing → List ClientLine → List (ℕ × V)
  put_by_lines k s ls = parted part (steps_numbered_from k (lines_from queues c s ls))

  abbrev put_by_steps : ℕ → Standing → List ClientLine → List V
  put_by_steps m s ls = flat_map part (all_steps (take (n - m) (steps_from queues c s (moving ls))))

  -- entries of one number are all made, or none is
  entry_made : (is_made : ℕ → Bool) (k : ℕ) (vs : List V) (b : Bool) → is_made k ≡ b → (j : ℕ) (x : ℕ × V) → slice_get (from_entry k vs) j ≡ Some x → is_made x.0 ≡ b
  entry_made is_made k [] b is zero x at = cc
  entry_made is_made k [] b is (suc j) x at = cc
  entry_made is_made k (v ∷ vs) b is zero x at =
      let same : (k, v) ≡ x = cc in
      subst (λ (y : ℕ × V). is_made y.0 ≡ b) same is
  entry_made is_made k (v ∷ vs) b is (suc j) x at = entry_made is_made k vs b is j x at

  either_part : (is_made : ℕ → Bool) (xs ys : List (ℕ × V)) (b : Bool) → ((j : ℕ) (x : ℕ × V) → slice_get xs j ≡ Some x → is_made x.0 ≡ b) → ((j : ℕ) (x : ℕ × V) → slice_get ys j ≡ Some x → is_made x.0 ≡ b)
      → (j : ℕ) (x : ℕ × V) → slice_get (xs ++ ys) j ≡ Some x → is_made x.0 ≡ b
  either_part is_made [] ys b first later j x at = later j x at
  either_part is_made (y ∷ xs) ys b first later zero x at = first 0 x at
  either_part is_made (y ∷ xs) ys b first later (suc j) x at = either_part is_made xs ys b (λ i z is. first (suc i) z is) later j x at

  seconds : (k : ℕ) (vs : List V) → map second (from_entry k vs) ≡ vs
  seconds k [] = refl
  seconds k (v ∷ vs) = ap (λ (ws : List V). v ∷ ws) (seconds k vs)

  empty_of : (xs : List (ℕ × V)) → map second xs ≡ [] → xs ≡ []
  empty_of [] is = refl
  empty_of (x ∷ xs) is = absurd (both_ways (some_there (map second (x ∷ xs))) (ap some_there is) refl)

  -- one line that puts is made, or not
  step_split : (is_made : ℕ → Bool) (k m : ℕ) (step : List QueuePut) (list : List (ℕ × V)) (rest : List (List QueuePut)) → is_made k ≡ nat_lt m n
      → IsSplit is_made list (flat_map part (all_steps (take (n - suc m) rest)))
      → IsSplit is_made (parted part (from_entry k step) ++ list) (flat_map part (all_steps (take (n - m) (step ∷ rest))))
  step_split is_made k m step list rest is s = ⊎_elim here past (cases_lt m n)
    where
      entries : (step : List QueuePut) → parted part (from_entry k step) ≡ from_entry k (flat_map part step)
      entries [] = refl
      entries (p ∷ ps) = ap (λ (xs : List (ℕ × V)). from_entry k (part p) ++ xs) (entries ps) ∙ sym (map-append (λ (v : V). (k, v)) (part p) (flat_map part ps))

      here : m < n → IsSplit is_made (parted part (from_entry k step) ++ list) (flat_map part (all_steps (take (n - m) (step ∷ rest))))
      here low =
          let more : n - m ≡ suc (n - suc m) = omega arith in
          record {
            first = parted part (from_entry k step) ++ s.first;
            later = s.later;
            whole = append_assoc (parted part (from_entry k step)) s.first s.later ∙ ap (λ (xs : List (ℕ × V)). parted part (from_entry k step) ++ xs) s.whole;
            so_far = map-append second (parted part (from_entry k step)) s.first
                ∙ ap (λ (vs : List V). map second (parted part (from_entry k step)) ++ vs) s.so_far
                ∙ ap (λ (vs : List V). vs ++ flat_map part (all_steps (take (n - suc m) rest))) (ap (map second) (entries step) ∙ seconds k (flat_map part step))
                ∙ sym (flat_map-append part step (all_steps (take (n - suc m) rest)))
                ∙ ap (λ (i : ℕ). flat_map part (all_steps (take i (step ∷ rest)))) (sym more);
            made = either_part is_made (parted part (from_entry k step)) s.first true
                (λ j x at. entry_made is_made k (flat_map part step) true (is ∙ lt-ltb m n low) j x (ap (λ (xs : List (ℕ × V)). slice_get xs j) (sym (entries step)) ∙ at)) s.made;
            left = s.left;
          }

      no_entries : (j : ℕ) (x : ℕ × V) → slice_get [] j ≡ Some x → is_made x.0 ≡ true
      no_entries zero x at = cc
      no_entries (suc j) x at = cc

      past : n ≤ m → IsSplit is_made (parted part (from_entry k step) ++ list) (flat_map part (all_steps (take (n - m) (step ∷ rest))))
      past high =
          let none : n - suc m ≡ 0 = omega arith in
          let also : n - m ≡ 0 = omega arith in
          let empty : s.first ≡ [] = empty_of s.first (s.so_far ∙ ap (λ (i : ℕ). flat_map part (all_steps (take i rest))) none) in
          let all : s.later ≡ list = sym (ap (λ (xs : List (ℕ × V)). xs ++ s.later) empty) ∙ s.whole in
          record {
            first = [];
            later = parted part (from_entry k step) ++ s.later;
            whole = ap (λ (xs : List (ℕ × V)). parted part (from_entry k step) ++ xs) all;
            so_far = ap (λ (i : ℕ). flat_map part (all_steps (take i (step ∷ rest)))) (sym also);
            made = no_entries;
            left = either_part is_made (parted part (from_entry k step)) s.later false
                (λ j x at. entry_made is_made k (flat_map part step) false (is ∙ le-ltb m n high) j x (ap (λ (xs : List (ℕ × V)). slice_get xs j) (sym (entries step)) ∙ at)) s.left;
          }

  no_steps : (p : ℕ) → flat_map (λ (step : List QueuePut). step) (replicate p []) ≡ []
  no_steps zero = refl
  no_steps (suc p) = no_steps p

  one_step : (step : List QueuePut) → flat_map (λ (step : List QueuePut). step) (step ∷ []) ≡ step
  one_step step = append-nil step

  -- What a client puts by its lines is split by the steps that it made: k is the number of its next line, m how many steps come
  -- before that.
  pub lines_split : (is_made : ℕ → Bool) (k m : ℕ) (s : Standing) (ls : List ClientLine) → ((i : ℕ) → i ≤ length ls → is_made (k + i) ≡ nat_lt (slice_index_or (numbers_from m ls) i (k + i)) n)
      → IsSplit is_made (put_by_lines k s ls) (put_by_steps m s ls)
  lines_split is_made k m s [] by =
      let same : k + 0 ≡ k = omega arith in
      subst (λ (xs : List (ℕ × V)). IsSplit is_made xs (put_by_steps m s [])) (sym (parted_append part (from_entry k (all_steps (lines_from queues c s []))) []))
      (step_split is_made k m (all_steps (lines_from queues c s [])) [] [] (ap is_made (sym same) ∙ by 0 (omega arith)) (none_more (n - suc m)))
    where
      none_more : (i : ℕ) → IsSplit is_made [] (flat_map part (all_steps (take i [])))
      none_more zero = nothing_split is_made
      none_more (suc i) = nothing_split is_made
  lines_split is_made k m s (l ∷ ls) by = by_line (λ number by s. lines_split is_made (suc k) number s ls by) l by
    where
      -- the same of the lines after this one
      Next : Type 0
      Next = (number : ℕ) → ((i : ℕ) → i ≤ length ls → is_made (suc k + i) ≡ nat_lt (slice_index_or (numbers_from number ls) i (suc k + i)) n)
          → (s : Standing) → IsSplit is_made (put_by_lines (suc k) s ls) (put_by_steps number s ls)

      shifted : (number : ℕ) → ((i : ℕ) → i ≤ suc (length ls) → is_made (k + i) ≡ nat_lt (slice_index_or (m ∷ numbers_from number ls) i (k + i)) n)
          → (i : ℕ) → i ≤ length ls → is_made (suc k + i) ≡ nat_lt (slice_index_or (numbers_from number ls) i (suc k + i)) n
      shifted number by i low =
          let place : suc k + i ≡ k + suc i = omega arith in
          ap is_made place ∙ by (suc i) (omega arith) ∙ ap (λ (d : ℕ). nat_lt (slice_index_or (numbers_from number ls) i d) n) (sym place)

      here : (number : ℕ) → ((i : ℕ) → i ≤ suc (length ls) → is_made (k + i) ≡ nat_lt (slice_index_or (m ∷ numbers_from number ls) i (k + i)) n) → is_made k ≡ nat_lt m n
      here number by = let same : k + 0 ≡ k = omega arith in ap is_made (sym same) ∙ by 0 (omega arith)

      moves : Next → (step : List QueuePut) (after : Standing) → ((i : ℕ) → i ≤ suc (length ls) → is_made (k + i) ≡ nat_lt (slice_index_or (m ∷ numbers_from (suc m) ls) i (k + i)) n)
          → IsSplit is_made (parted part (from_entry k (flat_map (λ (step : List QueuePut). step) (step ∷ [])) ++ steps_numbered_from (suc k) (lines_from queues c after ls)))
          (flat_map part (all_steps (take (n - m) (step ∷ steps_from queues c after (moving ls)))))
      moves next step after by =
          subst (λ (xs : List (ℕ × V)). IsSplit is_made xs (flat_map part (all_steps (take (n - m) (step ∷ steps_from queues c after (moving ls))))))
          (sym (parted_append part (from_entry k (flat_map (λ (step : List QueuePut). step) (step ∷ []))) (steps_numbered_from (suc k) (lines_from queues c after ls))
          ∙ ap (λ (ps : List QueuePut). parted part (from_entry k ps) ++ put_by_lines (suc k) after ls) (one_step step)))
          (step_split is_made k m step (put_by_lines (suc k) after ls) (steps_from queues c after (moving ls)) (here (suc m) by) (next (suc m) (shifted (suc m) by) after))

      by_line : Next → (l : ClientLine) → ((i : ℕ) → i ≤ suc (length ls) → is_made (k + i) ≡ nat_lt (slice_index_or (numbers_from m (l ∷ ls)) i (k + i)) n)
          → IsSplit is_made (put_by_lines k s (l ∷ ls)) (put_by_steps m s (l ∷ ls))
      by_line next (line.Sub topic kind queue cache recaps faults plan) by = moves next _ _ by
      by_line next (line.Timer queue interval plan) by = moves next _ _ by
      by_line next (line.Inbox queue faults plan) by = moves next _ _ by
      by_line next (line.Order o) by = moves next _ _ by
      by_line next (line.Now moment) by = moves next _ _ by
      by_line next line.NowClock by = moves next _ _ by
      by_line next (line.Pause p) by =
          subst (λ (xs : List (ℕ × V)). IsSplit is_made xs (put_by_steps m s ls))
          (ap (λ (ps : List QueuePut). parted part (from_entry k ps ++ steps_numbered_from (suc k) (lines_from queues c s ls))) (sym (no_steps p)))
          (next m (shifted m by) s)
