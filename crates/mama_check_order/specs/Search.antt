-- inner: How far a search for an order has come: how many entries of each actor have had their turn, and who asked whom to go
-- on.
use Rattle.std.specs.Prelude.{◌≡◌, ℕ, ◌<◌, ◌≤◌, List, [], length, slice_get, slice_index, slice_index_or, Option, None, Some, ⊤, ◌⊎◌, true}
use Rattle.std.specs.Option.{is_some}
use Rattle.mama_check_order.specs.Order.{turns_of, MayFollow}
use Rattle.mama_check_order.specs.declared.order.Need.{Need}

-- what the entries of an actor need; an actor that does not exist has no entries
abbrev pub entries_of : List (List (Option Need)) → ℕ → List (Option Need)
entries_of needs actor = slice_index_or needs actor []

-- These turns may follow one another, and so many entries of each actor have their turn in them.
pub record IsReached (needs : List (List (Option Need))) (made turns : List ℕ) : Type 0 where
  pub follow : MayFollow needs [] turns
  pub counts : (actor : ℕ) → turns_of actor turns ≡ slice_index made actor

-- an entry that needs nothing, or one that had its turn
abbrev pub IsMetBy : List ℕ → Option Need → Type 0
IsMetBy made None = ⊤
IsMetBy made (Some need) = need.entry < slice_index made need.actor

-- The next entry of an actor may have its turn.
pub record IsReady (needs : List (List (Option Need))) (made : List ℕ) (actor : ℕ) : Type 0 where
  pub need : Option Need
  pub next : slice_get (entries_of needs actor) (slice_index made actor) ≡ Some need
  pub met : IsMetBy made need

-- The next entry of an actor needs one that has not had its turn.
pub record Lacks (needs : List (List (Option Need))) (made : List ℕ) (actor : ℕ) (need : Need) : Type 0 where
  pub next : slice_get (entries_of needs actor) (slice_index made actor) ≡ Some (Some need)
  pub missing : slice_index made need.actor ≤ need.entry

-- no actor was asked to go on
abbrev pub NoneIsAsked : List (Option ℕ) → Type 0
NoneIsAsked askers = (actor : ℕ) → slice_index_or askers actor None ≡ None

-- each actor has made as many entries as before, or more
abbrev pub GoesOn : List ℕ → List ℕ → Type 0
GoesOn old new = (actor : ℕ) → slice_index old actor ≤ slice_index new actor

-- why an entry that is lacked cannot come: it does not exist, or its actor waits
abbrev pub CannotCome : List (List (Option Need)) → List (Option ℕ) → ℕ → Need → Type 0
CannotCome needs askers wanted need = (length (entries_of needs need.actor) ≤ need.entry) ⊎ ((need.actor ≡ wanted) ⊎ (is_some (slice_index_or askers need.actor None) ≡ true))
