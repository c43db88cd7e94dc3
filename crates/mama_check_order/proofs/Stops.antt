-- Lemmas on where a search for an order ends: at an order of all entries, or at an actor that can make no more.
use Rattle.std.proofs.Common.{◌≡◌, ℕ, zero, suc, ◌<◌, ◌≤◌, List, [], ◌∷◌, length, get_or, Option, refl, arith, ◌⊎◌, ⊎_elim}
use Rattle.std.proofs.lemmas.Bool.{cases_lt}
use Rattle.mama_check_order.specs.Order.{HasOrder}
use Rattle.mama_check_order.specs.Search.{entries_of, IsReached}
use Rattle.mama_check_order.specs.Turns.{IsWhole, IsMost, IsStop}
use Rattle.mama_check_order.specs.declared.order.Need.{Need}
use Rattle.mama_check_order.proofs.Orders.{reached_within}

-- where each actor has made all its entries, the turns are those of all
pub whole_reached : (needs : List (List (Option Need))) (made turns : List ℕ) → IsReached needs made turns
    → ((a : ℕ) → a < length needs → length (entries_of needs a) ≤ get_or made a 0) → IsWhole needs turns
whole_reached needs made turns r done = record {
  follow = r.follow;
  all = λ a.
      let most = reached_within needs made turns r a in
      let is = r.counts a in
      let least : length (entries_of needs a) ≤ get_or made a 0 = ⊎_elim (λ inside. done a inside) (λ past. let none = no_entries needs a past in omega arith) (cases_lt a (length needs)) in
      omega arith;
}
  where
    no_entries : (needs : List (List (Option Need))) (a : ℕ) → length needs ≤ a → length (entries_of needs a) ≡ 0
    no_entries [] a past = refl
    no_entries (n ∷ needs) zero past = absurd (omega arith)
    no_entries (n ∷ needs) (suc a) past = no_entries needs a (omega arith)

-- where one stopped before its end, and those before it did not
pub stop_reached : (needs : List (List (Option Need))) (made turns : List ℕ) (actor : ℕ) → IsReached needs made turns
    → ((a : ℕ) → a < actor → length (entries_of needs a) ≤ get_or made a 0) → get_or made actor 0 < length (entries_of needs actor)
    → IsMost needs actor (get_or made actor 0) → IsStop needs actor (get_or made actor 0)
stop_reached needs made turns actor r done short most = record {
  turns = turns;
  follow = r.follow;
  here = r.counts actor;
  before = λ a low.
      let within = reached_within needs made turns r a in
      let is = r.counts a in
      let least = done a low in
      omega arith;
  inside = short;
  most = most;
}

-- such turns are an order of all
pub whole_is_order : (needs : List (List (Option Need))) (turns : List ℕ) → IsWhole needs turns → HasOrder needs
whole_is_order needs turns w = record { turns = turns; follow = w.follow; all = w.all }

-- where an actor can make no more, there is none
pub stop_is_none : (needs : List (List (Option Need))) (actor entry : ℕ) → IsStop needs actor entry → HasOrder needs → ⊥
stop_is_none needs actor entry s order =
    let most = s.most order.turns order.follow in
    let all = order.all actor in
    let inside = s.inside in
    omega arith
