-- believed: The cache of a context: updates by number, ascending.
use Rattle.std.specs.Prelude.{ℕ, suc, Bool, ◌==◌, nat_lt, nat_le, List, [], ◌∷◌, length, drop, filter, Option, None, Some, is_some, if◌then◌else◌}
use Rattle.std.specs.Ordering.{nat_cmp}
use Rattle.std.specs.declared.ops.Bound.{Bound}
use Rattle.std.specs.declared.ops.Bound.TheVariants.{Included, Excluded, Unbounded}
use Rattle.std.specs.Map.{lookup}
use Rattle.std.specs.BTreeMap.{is_at, insert_entry}
use Rattle.mama_msg.specs.Field.{FieldData}
use Rattle.mama_msg.specs.Message.{apply}

-- a cache: how many updates it may hold, and the updates that it holds, each with its number
pub record CacheData : Type 0 where
  pub size : ℕ
  pub updates : List (ℕ × List FieldData)

-- some update has this number
abbrev pub has_number : List (ℕ × List FieldData) → ℕ → Bool
has_number updates n = is_some (lookup (is_at (nat_cmp n)) updates)

-- the updates with one more in its place; an update with its number that is there stays
abbrev pub put : List (ℕ × List FieldData) → ℕ → List FieldData → List (ℕ × List FieldData)
put updates n body = if has_number updates n then updates else insert_entry nat_cmp updates n body

-- the updates without the lowest number, if there are more than the size
abbrev pub trimmed : ℕ → List (ℕ × List FieldData) → List (ℕ × List FieldData)
trimmed size updates = if nat_lt size (length updates) then drop 1 updates else updates

-- a cache with an update added
abbrev pub added : CacheData → ℕ → List FieldData → CacheData
added cache n body = record cache { updates = trimmed cache.size (put cache.updates n body) }

-- a cache without its updates
abbrev pub emptied : CacheData → CacheData
emptied cache = record cache { updates = [] }

-- the updates numbered above n
abbrev pub above : ℕ → List (ℕ × List FieldData) → List (ℕ × List FieldData)
above n updates = filter (λ e. nat_lt n e.0) updates

-- the updates from a bound on
abbrev pub from_bound : Bound ℕ → List (ℕ × List FieldData) → List (ℕ × List FieldData)
from_bound Unbounded updates = updates
from_bound (Excluded n) updates = above n updates
from_bound (Included n) updates = filter (λ e. nat_le n e.0) updates

-- the lowest number
abbrev pub lowest_number : List (ℕ × List FieldData) → Option ℕ
lowest_number [] = None
lowest_number (e ∷ es) = Some e.0

-- a cache without the updates numbered n or lower
abbrev pub past : ℕ → CacheData → CacheData
past n cache = record cache { updates = above n cache.updates }

-- a record at a number
pub record Reached : Type 0 where
  pub number : ℕ
  pub body : List FieldData

-- what a record at n reaches: each update that is numbered one above what was reached is applied
abbrev pub reached : List (ℕ × List FieldData) → ℕ → List FieldData → Reached
reached [] n body = record { number = n; body = body }
reached (e ∷ es) n body = if e.0 == suc n then reached es (suc n) (apply body e.1) else reached es n body
