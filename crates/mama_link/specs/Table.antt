-- inner: how the rows are kept: by index, and by the place at which a held message is due.
use Rattle.std.specs.Prelude.{◌≡◌, ℕ, ◌+◌, Bool, false, ◌==◌, List, [], ◌∷◌, Option, None, Some, if◌then◌else◌}
use Rattle.std.specs.Ordering.{nat_cmp}
use Rattle.std.specs.BTreeMap.{BTreeMap, get, insert_entry, is_at}
use Rattle.std.specs.Map.{lookup, keys_of}
use Rattle.std.specs.Arc.{arc_value}
use Rattle.std.specs.List.{All}
use Rattle.std.specs.List.Sorted.{IsStrictlySortedBy}
use Rattle.std.specs.declared.alloc.Global.{Global}
use Rattle.std.specs.declared.sync.Arc.{Arc}
use Rattle.std.specs.declared.vec.Vec.{Vec}
use Rattle.mama_link.specs.declared.faults.Fault.{Fault}
use Rattle.mama_link.specs.declared.faults.Fault.TheVariants.{Lose, Dup, Hold, Cut}
use Rattle.mama_link.specs.declared.faults.FaultRow.{FaultRow}
use Rattle.mama_link.specs.Faults.{fault_at, first_fault}

-- the entries, with each row put at its place in the order of indexes
abbrev pub table_from : List (ℕ × Fault) → List FaultRow → List (ℕ × Fault)
table_from entries [] = entries
table_from entries (row ∷ rows) = table_from (insert_entry nat_cmp entries row.index row.fault) rows

-- the rows in the order of their indexes
abbrev pub table_of : List FaultRow → List (ℕ × Fault)
table_of rows = table_from [] rows

-- whether a fault holds the message i until the place
abbrev pub holds_until : ℕ → ℕ → Fault → Bool
holds_until place i Lose = false
holds_until place i Dup = false
holds_until place i (Hold by) = i + by == place
holds_until place i (Cut keep) = false

-- the slots, counted from n, of the entries that hold a message until the place
abbrev pub slots_due : ℕ → ℕ → List (ℕ × Fault) → List ℕ
slots_due place n [] = []
slots_due place n (entry ∷ entries) =
    if holds_until place entry.0 entry.1 then n ∷ slots_due place (n + 1) entries else slots_due place (n + 1) entries

-- the slots that stand at a place, which are none where nothing stands
abbrev pub slots_in : {A : Type 0} → Option (Vec ℕ A) → List ℕ
slots_in None = []
slots_in (Some slots) = slots.items

-- the slots that a map has at a place
abbrev pub slots_at : {A : Type 0} → BTreeMap ℕ (Vec ℕ A) → ℕ → List ℕ
slots_at dues place = slots_in (get nat_cmp dues place)

-- the entries tell what the rows do, none of which is bad, in the order of their indexes
pub record IsTable (rows : List FaultRow) (table : List (ℕ × Fault)) : Type 0 where
  pub sound : first_fault rows ≡ None
  pub ordered : IsStrictlySortedBy nat_cmp (keys_of table)
  pub found : (i : ℕ) → lookup (is_at (nat_cmp i)) table ≡ fault_at rows i
  pub told : All (λ (entry : ℕ × Fault). fault_at rows entry.0 ≡ Some entry.1) table

-- the table and the slots due at each place are those of the rows
pub record IsIndexed {A : Type 0} (rows : List FaultRow) (table : List (ℕ × Fault)) (dues : BTreeMap ℕ (Vec ℕ A)) : Type 0 where
  pub tabled : table ≡ table_of rows
  pub entries : IsTable rows table
  pub due : (place : ℕ) → slots_at dues place ≡ slots_due place 0 table

-- the rows of faults, which have no block where there are none
abbrev pub rows_of : Option (Arc (List FaultRow) Global) → List FaultRow
rows_of None = []
rows_of (Some block) = arc_value block
