-- inner: Which slots are in use, as the rows of a table have them.
use Rattle.std.specs.Prelude.{◌≡◌, ℕ, Bool, false, not, ◌&&◌, ◌==◌, List, ◌++◌, if◌then◌else◌}
use Rattle.std.specs.List.{list_any}
use Rattle.mama_journal.specs.Journal.{count_of}
use Rattle.mama_slots.specs.Slots.{SlotData, in_use}
use Rattle.mama_laws_bridge.specs.Table.{SubRow, InboxRow, sub_slots, inbox_slots}

-- a slot that is in use is one row's and no other's, and a slot that is free is no row's
abbrev pub AreHeld : SlotData → List SubRow → List InboxRow → Type 0
AreHeld slots subs inboxes = (queue slot : ℕ) → count_of (λ n. n == slot) (sub_slots queue subs ++ inbox_slots queue inboxes) ≡ (if in_use slots queue slot then 1 else 0)

-- the same slots are in use
abbrev pub StayHeld : SlotData → SlotData → Type 0
StayHeld old new = (queue slot : ℕ) → in_use new queue slot ≡ in_use old queue slot

-- these slots of each queue are free, and of the others the same are in use
abbrev pub Frees : (ℕ → List ℕ) → SlotData → SlotData → Type 0
Frees gone old new = (queue slot : ℕ) → in_use new queue slot ≡ (in_use old queue slot && not (list_any (λ n. n == slot) (gone queue)))

-- all slots are free where the ending comes, and elsewhere the same are in use
abbrev pub KeepsHeld : Bool → SlotData → SlotData → Type 0
KeepsHeld ends old new = (queue slot : ℕ) → in_use new queue slot ≡ (if ends then false else in_use old queue slot)
