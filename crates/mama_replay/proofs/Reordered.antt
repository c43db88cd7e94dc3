-- An order of all entries is one of all steps, and the other way round: clients take nothing, so all that they do may come first.
use Rattle.std.specs.Prelude.{slice_get, slice_index_or, option_map}
use Rattle.std.proofs.Common.{◌≡◌, ℕ, zero, suc, ◌+◌, ◌<◌, ◌≤◌, Bool, true, false, cond, List, [], ◌∷◌, ◌++◌, length, map, replicate, Option, None, Some, refl, sym, ◌∙◌, ap, subst, arith, inl, ⊎_elim, append-nil, append_assoc}
use Rattle.std.proofs.lemmas.Bool.{cases_eq, cases_lt, lt-ltb, le-ltb}
use Rattle.std.proofs.lemmas.List.{length-map, length-replicate, get_or-map, get_or_past}
use Rattle.mama_event.specs.Ports.{clients_of}
use Rattle.mama_check_order.specs.Order.{turns_of, IsMet, MayFollow, HasOrder}
use Rattle.mama_check_order.specs.Search.{entries_of}
use Rattle.mama_check_order.specs.declared.order.Need.{Need}
use Rattle.mama_check_order.proofs.Orders.{follow_push, within_limit}
use Rattle.mama_script.specs.declared.client.ClientLine.{ClientLine}
use Rattle.mama_script.specs.Script.{ScriptData}
use Rattle.mama_script.specs.Tree.{IsShaped}
use Rattle.mama_record.specs.RunData.{RunData}
use Rattle.mama_check.specs.Causal.{client_needs, all_needs}
use Rattle.mama_check.proofs.Numbers.{are_by_number}
use Rattle.mama_laws_causal.proofs.Needs.{may_take}
use Rattle.mama_laws_causal.proofs.Clients.{turn_own, turn_other}
use Rattle.mama_replay.specs.Followed.{is_pause}
use Rattle.mama_check_order.specs.Turns.{IsWhole, IsStop}
use Rattle.mama_replay.specs.Needs as steps
use Rattle.mama_replay.proofs.Counts.{at_within, within_at}
use Rattle.mama_replay.proofs.Stands.{get_mapped}
use Rattle.mama_replay.proofs.Following.{needs_by_number}
use Rattle.mama_replay.proofs.Ranking.{has_turn}
use Rattle.mama_replay.proofs.Ending.{all_count}

-- ---- those that take nothing first

module _ (needs : List (List (Option Need))) (count : ℕ) (free : (c k : ℕ) → c < count → k < length (entries_of needs c) → slice_get (entries_of needs c) k ≡ Some None) where
  -- those numbered below k had all their turns, and that of number k had m of its own
  pub record AreBegun (k m : ℕ) : Type 0 where
    pub turns : List ℕ
    pub follow : MayFollow needs [] turns
    pub before : (c : ℕ) → c < k → turns_of c turns ≡ length (entries_of needs c)
    pub here : turns_of k turns ≡ m
    pub later : (a : ℕ) → k < a → turns_of a turns ≡ 0

  turn_more : (k m : ℕ) → k < count → m < length (entries_of needs k) → AreBegun k m → AreBegun k (suc m)
  turn_more k m inside low begun = record {
    turns = begun.turns ++ k ∷ [];
    follow = follow_push needs [] begun.turns k begun.follow (may_take needs begun.turns k (entries_of needs k) m None refl begun.here (free k m inside low) tt);
    before = λ c under. turn_other c k begun.turns (λ same. omega arith) ∙ begun.before c under;
    here = turn_own k begun.turns ∙ ap suc begun.here;
    later = λ a above. turn_other a k begun.turns (λ same. omega arith) ∙ begun.later a above;
  }

  turns_more : (k m : ℕ) → k < count → m ≤ length (entries_of needs k) → AreBegun k 0 → AreBegun k m
  turns_more k zero inside low begun = begun
  turns_more k (suc m) inside low begun = turn_more k m inside (omega arith) (turns_more k m inside (omega arith) begun)

  next_one : (k : ℕ) → AreBegun k (length (entries_of needs k)) → AreBegun (suc k) 0
  next_one k begun = record {
    turns = begun.turns;
    follow = begun.follow;
    before = λ c under. ⊎_elim
        (λ (same : c ≡ k). subst (λ (n : ℕ). turns_of n begun.turns ≡ length (entries_of needs n)) (sym same) begun.here)
        (λ apart. begun.before c (below c k under apart))
        (cases_eq c k);
    here = begun.later (suc k) (omega arith);
    later = λ a above. begun.later a (omega arith);
  }
    where
      below : (c k : ℕ) → c < suc k → (c ≡ k → ⊥) → c < k
      below c k under apart = ⊎_elim (λ (low : c < k). low) (λ high. let same : c ≡ k = omega arith in absurd (apart same)) (cases_lt c k)

  pub begun_by : (k : ℕ) → k ≤ count → AreBegun k 0
  begun_by zero within = record { turns = []; follow = tt; before = λ c under. absurd (omega arith); here = refl; later = λ a above. refl }
  begun_by (suc k) within = next_one k (turns_more k (length (entries_of needs k)) (omega arith) (omega arith) (begun_by k (omega arith)))

-- ---- and then the others in their order

-- two orders so far agree on all that are no clients; in the second all clients have had their turns
pub record Agree (from to : List (List (Option Need))) (count : ℕ) (before now : List ℕ) : Type 0 where
  pub follow : MayFollow from [] before
  pub followed : MayFollow to [] now
  pub others : (a : ℕ) → count ≤ a → turns_of a now ≡ turns_of a before
  pub clients : (c : ℕ) → c < count → turns_of c now ≡ length (entries_of to c)

-- what an entry of the second needs, by what it needs in the first
pub record Fits (from to : List (List (Option Need))) (count : ℕ) (a k : ℕ) (need : Option Need) : Type 0 where
  pub other : Option Need
  pub at : slice_get (entries_of to a) k ≡ Some other
  pub met : (before now : List ℕ) → Agree from to count before now → IsMet before need → IsMet now other

module _ (from to : List (List (Option Need))) (count : ℕ) (fits : (a k : ℕ) (need : Option Need) → count ≤ a → slice_get (entries_of from a) k ≡ Some need → Fits from to count a k need) where
  pub record Goes (turns : List ℕ) (before : List ℕ) : Type 0 where
    pub now : List ℕ
    pub agree : Agree from to count (before ++ turns) now

  go_on : (turns before now : List ℕ) → Agree from to count before now → MayFollow from before turns → Goes turns before
  go_on [] before now agree follow = record { now = now; agree = subst (λ (bs : List ℕ). Agree from to count bs now) (sym (append-nil before)) agree }
  go_on (t ∷ turns) before now agree follow =
      let step = by_kind in
      let rest = go_on turns (before ++ t ∷ []) step.0 step.1 follow.1 in
      record { now = rest.now; agree = subst (λ (bs : List ℕ). Agree from to count bs rest.now) (append_assoc before (t ∷ []) turns) rest.agree }
    where
      more : MayFollow from [] (before ++ t ∷ [])
      more = follow_push from [] before t agree.follow follow.0

      client : t < count → (after : List ℕ) × Agree from to count (before ++ t ∷ []) after
      client low = (
        now,
        record {
          follow = more;
          followed = agree.followed;
          others = λ a high. agree.others a high ∙ sym (turn_other a t before (λ same. omega arith));
          clients = agree.clients;
        },
      )

      other : count ≤ t → (after : List ℕ) × Agree from to count (before ++ t ∷ []) after
      other high =
          let h = has_turn from before t follow.0 in
          let fit = fits t (turns_of t before) h.need high h.next in (
            now ++ t ∷ [],
            record {
              follow = more;
              followed = follow_push to [] now t agree.followed (may_take to now t (entries_of to t) (turns_of t before) fit.other refl (agree.others t high) fit.at (fit.met before now agree h.met));
              others = λ a past. ⊎_elim
                  (λ (same : t ≡ a). subst (λ (n : ℕ). turns_of n (now ++ t ∷ []) ≡ turns_of n (before ++ t ∷ [])) same (turn_own t now ∙ ap suc (agree.others t high) ∙ sym (turn_own t before)))
                  (λ apart. turn_other a t now apart ∙ agree.others a past ∙ sym (turn_other a t before apart))
                  (cases_eq t a);
              clients = λ c low. turn_other c t now (λ same. omega arith) ∙ agree.clients c low;
            },
          )

      by_kind : (after : List ℕ) × Agree from to count (before ++ t ∷ []) after
      by_kind = ⊎_elim client other (cases_lt t count)

  -- an order of the first is one of the second, in which all clients have had their turns
  pub reordered : (free : (c k : ℕ) → c < count → k < length (entries_of to c) → slice_get (entries_of to c) k ≡ Some None) → (turns : List ℕ) → MayFollow from [] turns → Goes turns []
  reordered free turns follow =
      let begun = begun_by to count free count (omega arith) in
      go_on turns [] begun.turns (record {
        follow = tt;
        followed = begun.follow;
        others = λ a high. ⊎_elim (λ past. begun.later a past) (λ here. let same : count ≡ a = omega arith in subst (λ (n : ℕ). turns_of n begun.turns ≡ 0) same begun.here) (cases_lt count a);
        clients = begun.before;
      }) follow

-- ---- what clients need, as entries and as steps

pub free_steps : (lines : List ClientLine) (k : ℕ) → k < length (steps.client_needs lines) → slice_get (steps.client_needs lines) k ≡ Some None
free_steps [] zero low = refl
free_steps [] (suc k) low = absurd (omega arith)
free_steps (l ∷ ls) k low = by_test (is_pause l) k low (free_steps ls)
  where
    by_test : (b : Bool) (k : ℕ) → k < length (cond b (steps.client_needs ls) (None ∷ steps.client_needs ls)) → ((k : ℕ) → k < length (steps.client_needs ls) → slice_get (steps.client_needs ls) k ≡ Some None)
        → slice_get (cond b (steps.client_needs ls) (None ∷ steps.client_needs ls)) k ≡ Some None
    by_test true k low rest = rest k low
    by_test false zero low rest = refl
    by_test false (suc k) low rest = rest k (omega arith)

free_entries : (n k : ℕ) → k < n → slice_get {X = Option Need} (replicate n None) k ≡ Some None
free_entries zero k low = absurd (omega arith)
free_entries (suc n) zero low = refl
free_entries (suc n) (suc k) low = free_entries n k (omega arith)

-- a client makes no more steps than it has lines, and one
few_steps : (lines : List ClientLine) → length (steps.client_needs lines) ≤ suc (length lines)
few_steps [] = omega arith
few_steps (l ∷ ls) = let ih = few_steps ls in by_test (is_pause l) ih
  where
    by_test : (b : Bool) → length (steps.client_needs ls) ≤ suc (length ls) → length (cond b (steps.client_needs ls) (None ∷ steps.client_needs ls)) ≤ suc (suc (length ls))
    by_test true ih = omega arith
    by_test false ih = omega arith

-- the step at each of its lines is one of them
step_low : (m : ℕ) (lines : List ClientLine) (i d : ℕ) → i < suc (length lines) → slice_index_or (steps.numbers_from m lines) i d < m + length (steps.client_needs lines)
step_low m [] zero d low = omega arith
step_low m [] (suc i) d low = absurd (omega arith)
step_low m (l ∷ ls) zero d low = by_test (is_pause l)
  where
    some : (ls : List ClientLine) → 0 < length (steps.client_needs ls)
    some [] = omega arith
    some (l ∷ ls) = by (is_pause l) (some ls)
      where
        by : (b : Bool) → 0 < length (steps.client_needs ls) → 0 < length (cond b (steps.client_needs ls) (None ∷ steps.client_needs ls))
        by true ih = ih
        by false ih = omega arith

    by_test : (b : Bool) → m < m + length (cond b (steps.client_needs ls) (None ∷ steps.client_needs ls))
    by_test true = let least = some ls in omega arith
    by_test false = omega arith
step_low m (l ∷ ls) (suc i) d low = by_test (is_pause l) (step_low m ls i d (omega arith)) (step_low (suc m) ls i d (omega arith))
  where
    by_test : (b : Bool) → slice_index_or (steps.numbers_from m ls) i d < m + length (steps.client_needs ls) → slice_index_or (steps.numbers_from (suc m) ls) i d < suc m + length (steps.client_needs ls)
        → slice_index_or (steps.numbers_from (cond b m (suc m)) ls) i d < m + length (cond b (steps.client_needs ls) (None ∷ steps.client_needs ls))
    by_test true same more = same
    by_test false same more = omega (arith, more)

numbers_count : (m : ℕ) (lines : List ClientLine) → length (steps.numbers_from m lines) ≡ suc (length lines)
numbers_count m [] = refl
numbers_count m (l ∷ ls) = ap suc (numbers_count (cond (is_pause l) m (suc m)) ls)

module _ (script : ScriptData) (run : RunData) (shaped : IsShaped script) where
  abbrev entries : List (List (Option Need))
  entries = all_needs script run

  abbrev pub wants : List (List (Option Need))
  wants = steps.step_needs script.clients (all_needs script run)

  abbrev numbers : List (List ℕ)
  numbers = steps.all_numbers script.clients

  pub client_wants : (c : ℕ) → c < clients_of script.shape → entries_of wants c ≡ steps.client_needs (slice_index_or script.clients c [])
  client_wants c low =
      let place : 0 + c ≡ c = omega arith in
      needs_by_number script.clients 0 entries c (omega (arith, all_count script run))
      ∙ ap (λ (n : ℕ). steps.needs_at script.clients n (slice_index_or entries c [])) place
      ∙ ap (λ (t : Bool). cond t (steps.client_needs (slice_index_or script.clients c [])) (map (steps.renumbered numbers) (slice_index_or entries c []))) (lt-ltb c (length script.clients) (omega (arith, shaped.clients)))

  other_wants : (a : ℕ) → clients_of script.shape ≤ a → entries_of wants a ≡ map (steps.renumbered numbers) (entries_of entries a)
  other_wants a past = ⊎_elim
      (λ low.
      let place : 0 + a ≡ a = omega arith in
      needs_by_number script.clients 0 entries a low
      ∙ ap (λ (n : ℕ). steps.needs_at script.clients n (slice_index_or entries a [])) place
      ∙ ap (λ (t : Bool). cond t (steps.client_needs (slice_index_or script.clients a [])) (map (steps.renumbered numbers) (slice_index_or entries a []))) (le-ltb a (length script.clients) (omega (arith, shaped.clients))))
      (λ high. get_or_past wants a [] (omega (arith, count 0 entries)) ∙ sym (ap (map (steps.renumbered numbers)) (get_or_past entries a [] high)))
      (cases_lt a (length entries))
    where
      count : (n : ℕ) (all : List (List (Option Need))) → length (steps.needs_from script.clients n all) ≡ length all
      count n [] = refl
      count n (own ∷ all) = ap suc (count (suc n) all)

  client_entries : (c : ℕ) → c < clients_of script.shape → length (entries_of entries c) ≡ suc (length (slice_index_or script.clients c []))
  client_entries c low = ap (λ (os : List (Option Need)). length os) ((are_by_number script run).clients c low) ∙ length-replicate (suc (length (slice_index_or script.clients c []))) None

  own_numbers : (c : ℕ) → c < clients_of script.shape → slice_index_or numbers c [] ≡ steps.step_numbers (slice_index_or script.clients c [])
  own_numbers c low = get_or-map steps.step_numbers script.clients c [] [] (omega (arith, shaped.clients))

  no_numbers : (a : ℕ) → clients_of script.shape ≤ a → slice_index_or numbers a [] ≡ []
  no_numbers a past = get_or_past numbers a [] (omega (arith, length-map script.clients steps.step_numbers, shaped.clients))

  few_turns : (needs : List (List (Option Need))) (turns : List ℕ) → MayFollow needs [] turns → (a : ℕ) → turns_of a turns ≤ length (entries_of needs a)
  few_turns needs turns follow a = within_limit needs (λ (x : ℕ). length (entries_of needs x)) (λ x. inl (omega arith)) turns follow a

  -- from steps to entries
  to_entries : (a k : ℕ) (need : Option Need) → clients_of script.shape ≤ a → slice_get (entries_of wants a) k ≡ Some need → Fits wants entries (clients_of script.shape) a k need
  to_entries a k need past at =
      let inside : k < length (entries_of entries a) = subst (λ (n : ℕ). k < n) (ap (λ (os : List (Option Need)). length os) (other_wants a past) ∙ length-map (entries_of entries a) (steps.renumbered numbers)) (within_at (entries_of wants a) k need at) in
      let found = at_within (entries_of entries a) k inside in
      let same : Some (steps.renumbered numbers found.item) ≡ Some need = sym (ap (λ (os : List (Option Need)). slice_get os k) (other_wants a past) ∙ get_mapped (steps.renumbered numbers) (entries_of entries a) k ∙ ap (option_map (steps.renumbered numbers)) found.is) ∙ at in
      let is : steps.renumbered numbers found.item ≡ need = cc in
      record {
        other = found.item;
        at = found.is;
        met = λ before now agree met. by_need found.item before now agree (subst (IsMet before) (sym is) met);
      }
    where
      by_need : (o : Option Need) (before now : List ℕ) → Agree wants entries (clients_of script.shape) before now → IsMet before (steps.renumbered numbers o) → IsMet now o
      by_need None before now agree met = tt
      by_need (Some need) before now agree met = ⊎_elim
          (λ low.
          let lines : List ClientLine = slice_index_or script.clients need.actor [] in
          let number : slice_index_or (slice_index_or numbers need.actor []) need.entry need.entry ≡ slice_index_or (steps.step_numbers lines) need.entry need.entry = ap (λ (own : List ℕ). slice_index_or own need.entry need.entry) (own_numbers need.actor low) in
          let most = few_turns wants before agree.follow need.actor in
          let few = few_steps lines in
          let many = ap (λ (os : List (Option Need)). length os) (client_wants need.actor low) in
          let all = agree.clients need.actor low in
          let count = client_entries need.actor low in
          ⊎_elim
          (λ (there : need.entry < suc (length lines)). omega (arith, there, all, count))
          (λ beyond.
          let default : slice_index_or (steps.step_numbers lines) need.entry need.entry ≡ need.entry = get_or_past (steps.step_numbers lines) need.entry need.entry (omega (arith, numbers_count 0 lines)) in
          absurd (omega (arith, met, number, default, most, few, many)))
          (cases_lt need.entry (suc (length lines))))
          (λ high.
          let plain : slice_index_or (slice_index_or numbers need.actor []) need.entry need.entry ≡ need.entry = ap (λ (own : List ℕ). slice_index_or own need.entry need.entry) (no_numbers need.actor high) in
          let same = agree.others need.actor high in
          omega (arith, met, plain, same))
          (cases_lt need.actor (clients_of script.shape))

  -- from entries to steps
  to_steps : (a k : ℕ) (need : Option Need) → clients_of script.shape ≤ a → slice_get (entries_of entries a) k ≡ Some need → Fits entries wants (clients_of script.shape) a k need
  to_steps a k need past at = record {
    other = steps.renumbered numbers need;
    at = ap (λ (os : List (Option Need)). slice_get os k) (other_wants a past) ∙ get_mapped (steps.renumbered numbers) (entries_of entries a) k ∙ ap (option_map (steps.renumbered numbers)) at;
    met = λ before now agree met. by_need need before now agree met;
  }
    where
      by_need : (o : Option Need) (before now : List ℕ) → Agree entries wants (clients_of script.shape) before now → IsMet before o → IsMet now (steps.renumbered numbers o)
      by_need None before now agree met = tt
      by_need (Some need) before now agree met = ⊎_elim
          (λ low.
          let lines : List ClientLine = slice_index_or script.clients need.actor [] in
          let number : slice_index_or (slice_index_or numbers need.actor []) need.entry need.entry ≡ slice_index_or (steps.step_numbers lines) need.entry need.entry = ap (λ (own : List ℕ). slice_index_or own need.entry need.entry) (own_numbers need.actor low) in
          let most = few_turns entries before agree.follow need.actor in
          let count = client_entries need.actor low in
          let many = ap (λ (os : List (Option Need)). length os) (client_wants need.actor low) in
          let all = agree.clients need.actor low in
          let less = step_low 0 lines need.entry need.entry (omega (arith, met, most, count)) in
          omega (arith, number, less, many, all))
          (λ high.
          let plain : slice_index_or (slice_index_or numbers need.actor []) need.entry need.entry ≡ need.entry = ap (λ (own : List ℕ). slice_index_or own need.entry need.entry) (no_numbers need.actor high) in
          let same = agree.others need.actor high in
          omega (arith, met, plain, same))
          (cases_lt need.actor (clients_of script.shape))

  -- steps in one order are entries in one order
  pub order_of_entries : (turns : List ℕ) → IsWhole (steps.step_needs script.clients (all_needs script run)) turns → HasOrder (all_needs script run)
  order_of_entries turns whole =
      let goes = reordered wants entries (clients_of script.shape) to_entries (λ c k low inside. ap (λ (os : List (Option Need)). slice_get os k) ((are_by_number script run).clients c low) ∙ free_entries (suc (length (slice_index_or script.clients c []))) k (omega (arith, inside, client_entries c low))) turns whole.follow in
      record {
        turns = goes.now;
        follow = goes.agree.followed;
        all = λ a. ⊎_elim
            (λ low. goes.agree.clients a low)
            (λ high. goes.agree.others a high ∙ whole.all a ∙ ap (λ (os : List (Option Need)). length os) (other_wants a high) ∙ length-map (entries_of entries a) (steps.renumbered numbers))
            (cases_lt a (clients_of script.shape));
      }

  -- where steps stop, entries have no order
  pub no_order_of_entries : (actor entry : ℕ) → IsStop (steps.step_needs script.clients (all_needs script run)) actor entry → HasOrder (all_needs script run) → ⊥
  no_order_of_entries actor entry stop order =
      let goes = reordered entries wants (clients_of script.shape) to_steps (λ c k low inside. ap (λ (os : List (Option Need)). slice_get os k) (client_wants c low) ∙ free_steps (slice_index_or script.clients c []) k (subst (λ (n : ℕ). k < n) (ap (λ (os : List (Option Need)). length os) (client_wants c low)) inside)) order.turns order.follow in
      let most = stop.most goes.now goes.agree.followed in
      let short = stop.inside in
      ⊎_elim
      (λ low. let all = goes.agree.clients actor low in absurd (omega arith))
      (λ high.
      let same = goes.agree.others actor high in
      let all = order.all actor in
      let many = ap (λ (os : List (Option Need)). length os) (other_wants actor high) ∙ length-map (entries_of entries actor) (steps.renumbered numbers) in
      absurd (omega arith))
      (cases_lt actor (clients_of script.shape))
