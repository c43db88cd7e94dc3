-- inner: When the slots that are free again are such as were in use.
use Rattle.std.specs.Prelude.{◌≡◌, ℕ, ◌<◌, true}
use Rattle.mama_slots.specs.Slots.{SlotData, top_of, is_freed}

-- a slot that is free again was in use
pub record IsBelowTops (slots : SlotData) : Type 0 where
  pub each : (queue slot : ℕ) → is_freed slots queue slot ≡ true → slot < top_of slots queue
