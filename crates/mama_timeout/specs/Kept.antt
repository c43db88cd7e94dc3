-- inner: What a table of watches keeps.
use Rattle.std.specs.Prelude.{◌≡◌, ◌≢◌, ℕ, ◌<◌, ◌≤◌, true, false, List, [], length, map, is_none, Option, Some, None, slice_get, vec_len, vec_capacity}
use Rattle.std.specs.Global.{Vec}
use Rattle.std.specs.List.{list_any}
use Rattle.indexmap.specs.IndexMap.{IndexMap, get}
use Rattle.mama_event.specs.declared.ids.TimerId.{TimerId}
use Rattle.mama_event.specs.declared.watch.WatchNote.{WatchNote}
use Rattle.mama_event.specs.Object.{same_timer}
use Rattle.mama_timeout.specs.declared.table.Watch.{Watch}
use Rattle.mama_timeout.specs.Table.{WatchData, TableData}

abbrev pub watch_of : Watch → WatchData
watch_of w = record { number = w.number; row = w.row; notes = w.notes.items }

abbrev pub table_of : List Watch → Option ℕ → TableData
table_of watches used = record { watches = map watch_of watches; ready = is_none used }

-- the place of the watch of a timer: the only one, or there is none
abbrev pub IsPlaceOf : TimerId → List Watch → Option ℕ → Type 0
IsPlaceOf t watches None = list_any (λ (w : Watch). same_timer w.row.timer t) watches ≡ false
IsPlaceOf t watches (Some k) = (w : Watch) × (slice_get watches k ≡ Some w) × (same_timer w.row.timer t ≡ true)
    × ((j : ℕ) (v : Watch) → slice_get watches j ≡ Some v → same_timer v.row.timer t ≡ true → j ≡ k)

-- There is room for one note more at each watch but the one whose room was used, and for what each gives up.
pub record IsKept {T : Type 0} (watches : List Watch) (places : IndexMap TimerId ℕ T) (used : Option ℕ) (room : Vec (ℕ × Vec WatchNote)) : Type 0 where
  pub placed : (t : TimerId) → IsPlaceOf t watches (get same_timer places t)
  pub ready : (k : ℕ) (w : Watch) → slice_get watches k ≡ Some w → used ≢ Some k → vec_len w.notes < vec_capacity w.notes
  pub within : (k : ℕ) → used ≡ Some k → k < length watches
  pub none : room.items ≡ []
  pub enough : length watches ≤ vec_capacity room
