-- inner: how a link keeps the messages that it holds: a slot for each row whose message came, in the order of indexes, with the message where it is still held.
use Rattle.std.specs.Prelude.{◌≡◌, ℕ, ◌<◌, ◌≤◌, ◌==◌, List, [], ◌∷◌, ◌++◌, length, Option, None, Some, slice_index_or, slice_set, option_to_list, if◌then◌else◌}
use Rattle.std.specs.List.{flat_map}
use Rattle.mama_link.specs.declared.faults.Fault.{Fault}
use Rattle.mama_link.specs.declared.faults.Fault.TheVariants.{Lose}
use Rattle.mama_link.specs.Table.{holds_until}
use Rattle.mama_link.specs.Steps.{at_place}

-- where no entry stands, an entry that is never looked at
abbrev pub no_entry : ℕ × Fault
no_entry = (0, Lose)

-- the fault of the entry at the cursor, if it is the entry of the place
abbrev pub fault_here : Option (ℕ × Fault) → ℕ → Option Fault
fault_here None place = None
fault_here (Some entry) place = if entry.0 == place then Some entry.1 else None

-- the entries before the cursor are those of the messages that came
pub record IsCaughtUp (table : List (ℕ × Fault)) (passed cursor : ℕ) : Type 0 where
  pub within : cursor ≤ length table
  pub before : (k : ℕ) → k < cursor → (slice_index_or table k no_entry).0 ≤ passed
  pub after : (k : ℕ) → cursor ≤ k → k < length table → passed < (slice_index_or table k no_entry).0

module _ {T : Type 0} where
  -- the messages that stand in slots, with the indexes of their entries
  abbrev pub held_in : List (ℕ × Fault) → List (Option T) → List (ℕ × T)
  held_in [] slots = []
  held_in (entry ∷ entries) [] = []
  held_in (entry ∷ entries) (slot ∷ slots) = at_place entry.0 slot ++ held_in entries slots

  -- the messages in the slots of entries that hold until the place
  abbrev pub due_in : ℕ → List (ℕ × Fault) → List (Option T) → List T
  due_in place [] slots = []
  due_in place (entry ∷ entries) [] = []
  due_in place (entry ∷ entries) (slot ∷ slots) = (if holds_until place entry.0 entry.1 then option_to_list slot else []) ++ due_in place entries slots

  -- the slots without those messages
  abbrev pub without_due : ℕ → List (ℕ × Fault) → List (Option T) → List (Option T)
  without_due place [] slots = slots
  without_due place (entry ∷ entries) [] = []
  without_due place (entry ∷ entries) (slot ∷ slots) = (if holds_until place entry.0 entry.1 then None else slot) ∷ without_due place entries slots

  -- the messages that stand in the slots of these numbers
  abbrev pub found_at : List ℕ → List (Option T) → List T
  found_at numbers slots = flat_map (λ (n : ℕ). option_to_list (slice_index_or slots n None)) numbers

  -- what comes out when the slots of these numbers are emptied in turn
  abbrev pub taken_at : List ℕ → List (Option T) → List T
  taken_at [] slots = []
  taken_at (n ∷ numbers) slots = option_to_list (slice_index_or slots n None) ++ taken_at numbers (slice_set slots n None)

  -- the slots when those of these numbers are emptied
  abbrev pub emptied_at : List ℕ → List (Option T) → List (Option T)
  emptied_at [] slots = slots
  emptied_at (n ∷ numbers) slots = emptied_at numbers (slice_set slots n None)

-- what a link keeps: the cursor is caught up, and the messages held are counted
pub record IsKept {T : Type 0} (table : List (ℕ × Fault)) (passed count : ℕ) (slots : List (Option T)) : Type 0 where
  pub caught_up : IsCaughtUp table passed (length slots)
  pub counted : count ≡ length (held_in table slots)
