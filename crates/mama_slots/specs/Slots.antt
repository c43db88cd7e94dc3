-- believed: Which slots of each queue are in use.
use Rattle.std.specs.Prelude.{◌≡◌, ℕ, ◌+◌, ◌<◌, ◌^◌, Bool, true, false, not, ◌&&◌, nat_lt, List, unwrap_or, is_some}
use Rattle.std.specs.List.{list_any}
use Rattle.std.specs.Map.{lookup}
use Rattle.std.specs.Ordering.{nat_cmp, ordering_then}
use Rattle.std.specs.BTreeMap.{is_at}
use Rattle.std.specs.declared.cmp.Ordering.{Ordering}

-- a queue and a slot before another: by queue, and then by slot
abbrev pub place_cmp : ℕ × ℕ → ℕ × ℕ → Ordering
place_cmp a c = ordering_then (nat_cmp a.0 c.0) (nat_cmp a.1 c.1)

-- how many slots of each queue were ever in use, and which of those are free
pub record SlotData : Type 0 where
  pub tops : List (ℕ × ℕ)
  pub freed : List (ℕ × ℕ)

-- how many slots of a queue were ever in use
abbrev pub top_of : SlotData → ℕ → ℕ
top_of slots queue = unwrap_or (lookup (is_at (nat_cmp queue)) slots.tops) 0

abbrev pub is_freed : SlotData → ℕ → ℕ → Bool
is_freed slots queue slot = list_any (is_at (place_cmp (queue, slot))) slots.freed

-- a slot is in use
abbrev pub in_use : SlotData → ℕ → ℕ → Bool
in_use slots queue slot = nat_lt slot (top_of slots queue) && not (is_freed slots queue slot)

-- it is written down how many slots of a queue were ever in use
abbrev pub has_queue : SlotData → ℕ → Bool
has_queue slots queue = is_some (lookup (is_at (nat_cmp queue)) slots.tops)

-- the slot of a queue to be put in use next: the least that is free, which may be written down
pub record IsNext (slots : SlotData) (queue slot : ℕ) : Type 0 where
  pub ready : has_queue slots queue ≡ true
  pub free : in_use slots queue slot ≡ false
  pub least : (k : ℕ) → k < slot → in_use slots queue k ≡ true
  pub few : slot + 1 < 2 ^ 32
