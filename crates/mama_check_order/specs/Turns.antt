-- believed: An order of all entries, or the first actor that can make no more of its own.
use Rattle.std.specs.Prelude.{◌≡◌, ℕ, ◌<◌, ◌≤◌, List, [], length, slice_index_or, Result, Ok, Err, Option}
use Rattle.std.specs.Global.{Vec}
use Rattle.mama_check_order.specs.Order.{turns_of, MayFollow}
use Rattle.mama_check_order.specs.declared.order.Need.{Need}
use Rattle.mama_check_order.specs.declared.order.Stuck.{Stuck}

-- these turns may follow one another, and are those of all entries
pub record IsWhole (needs : List (List (Option Need))) (turns : List ℕ) : Type 0 where
  pub follow : MayFollow needs [] turns
  pub all : (actor : ℕ) → turns_of actor turns ≡ length (slice_index_or needs actor [])

-- in no order does an actor make more entries than this
abbrev pub IsMost : List (List (Option Need)) → ℕ → ℕ → Type 0
IsMost needs actor n = (turns : List ℕ) → MayFollow needs [] turns → turns_of actor turns ≤ n

-- In some order the actors before this one make all their entries, and this one makes so many, which are not all and the most
-- that it can make in any order.
pub record IsStop (needs : List (List (Option Need))) (actor entry : ℕ) : Type 0 where
  pub turns : List ℕ
  pub follow : MayFollow needs [] turns
  pub here : turns_of actor turns ≡ entry
  pub before : (a : ℕ) → a < actor → turns_of a turns ≡ length (slice_index_or needs a [])
  pub inside : entry < length (slice_index_or needs actor [])
  pub most : IsMost needs actor entry

abbrev pub IsOrderOf : List (List (Option Need)) → Result (Vec ℕ) Stuck → Type 0
IsOrderOf needs (Ok turns) = IsWhole needs turns.items
IsOrderOf needs (Err stuck) = IsStop needs stuck.actor stuck.entry
