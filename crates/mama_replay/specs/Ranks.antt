-- inner: In which pass each step comes, by what it needs.
use Rattle.std.specs.Prelude.{◌≡◌, ℕ, zero, suc, ◌<◌, nat_lt, List, [], length, slice_get, slice_index_or, if◌then◌else◌, Option, None, Some}
use Rattle.mama_check_order.specs.Order.{turns_of}
use Rattle.mama_check_order.specs.Search.{entries_of}
use Rattle.mama_check_order.specs.declared.order.Need.{Need}

-- the passes of the steps of an actor, where ranks has those of each actor
abbrev pub ranks_at : List (List ℕ) → ℕ → List ℕ
ranks_at ranks actor = slice_index_or ranks actor []

abbrev pub rank_at : List (List ℕ) → ℕ → ℕ → ℕ
rank_at ranks actor k = slice_index_or (ranks_at ranks actor) k 0

-- the first pass after that of an actor's step before this one
abbrev pub after_own : List ℕ → ℕ → ℕ
after_own own zero = 0
after_own own (suc k) = suc (slice_index_or own k 0)

-- the first pass in which an actor finds what a step put: the same, where that was made by an actor before this one
abbrev pub after_need : List (List ℕ) → ℕ → Option Need → ℕ
after_need ranks actor None = 0
after_need ranks actor (Some need) = if nat_lt need.actor actor then rank_at ranks need.actor need.entry else suc (rank_at ranks need.actor need.entry)

abbrev pub later : ℕ → ℕ → ℕ
later met own = if nat_lt met own then own else met

-- the pass of a step: the first after the actor's step before it in which what it needs is there
abbrev pub IsRank : List (List ℕ) → ℕ → ℕ → Option Need → Type 0
IsRank ranks actor k need = rank_at ranks actor k ≡ later (after_need ranks actor need) (after_own (ranks_at ranks actor) k)

-- what is needed has its pass
abbrev pub IsRanked : List (List ℕ) → Option Need → Type 0
IsRanked ranks None = Unit {0}
IsRanked ranks (Some need) = need.entry < length (ranks_at ranks need.actor)

-- The steps that had their turns have their passes, which are below the number of the turns.
pub record AreRanks (needs : List (List (Option Need))) (turns : List ℕ) (ranks : List (List ℕ)) : Type 0 where
  pub as_many : (actor : ℕ) → length (ranks_at ranks actor) ≡ turns_of actor turns
  pub each : (actor k : ℕ) (need : Option Need) → k < length (ranks_at ranks actor) → slice_get (entries_of needs actor) k ≡ Some need → IsRank ranks actor k need
  pub needed : (actor k : ℕ) (need : Option Need) → k < length (ranks_at ranks actor) → slice_get (entries_of needs actor) k ≡ Some need → IsRanked ranks need
  pub low : (actor k : ℕ) → k < length (ranks_at ranks actor) → rank_at ranks actor k < length turns
