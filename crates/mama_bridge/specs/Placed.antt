-- inner: Who joined, and the places of those who are live.
use Rattle.std.specs.Prelude.{◌≡◌, ℕ, ◌<◌, Bool, true, false, List, length, filter, Option, None, Some, option_to_list, slice_set, slice_index_or}
use Rattle.std.specs.List.{list_any, flat_map}
use Rattle.std.specs.BTreeMap.{BTreeMap, get}
use Rattle.std.specs.declared.cmp.Ordering.{Ordering}
use Rattle.mama_event.specs.Object.{same_sub}
use Rattle.mama_event.specs.declared.ids.SubId.{SubId}
use Rattle.mama_laws_bridge.specs.Table.{without, changed}
use Rattle.mama_bridge.specs.declared.places.Place.{Place}
use Rattle.mama_bridge.specs.Ids.{sub_cmp}

-- what has not left, in order
abbrev pub present : {X : Type 0} → List (Option X) → List X
present entries = flat_map option_to_list entries

-- who joined, and the places of those who are live, in order of joining
pub record Placed : Type 0 where
  pub joined : List SubId
  pub live : List Place

abbrev pub is_place_of : SubId → Place → Bool
is_place_of s place = same_sub place.sub s

-- whether an entry is there and passes a test
abbrev pub entry_passes : {X : Type 0} → (X → Bool) → Option X → Bool
entry_passes test None = false
entry_passes test (Some x) = test x

-- the entry at an index is all that is there of what passes a test, and without it none passes
pub record IsOnlyAt {X : Type 0} (test : X → Bool) (entries : List (Option X)) (i : ℕ) : Type 0 where
  pub within : i < length entries
  pub there : entry_passes test (slice_index_or entries i None) ≡ true
  pub only : filter test (present entries) ≡ option_to_list (slice_index_or entries i None)
  pub rest : present (slice_set entries i None) ≡ without test (present entries)
  pub put : (x : X) → present (slice_set entries i (Some x)) ≡ changed test (λ _. x) (present entries)

-- where what passes a test is, if anything does
abbrev pub IsAt : {X : Type 0} → (X → Bool) → List (Option X) → Option ℕ → Type 0
IsAt test entries None = list_any test (present entries) ≡ false
IsAt test entries (Some i) = IsOnlyAt test entries i

-- what is there of entries is at the index that is noted for its name
abbrev pub IndexedBy : {K X : Type 0} → (K → K → Ordering) → (X → K) → BTreeMap K ℕ → List (Option X) → Type 0
IndexedBy {K} {X} cmp name indexes entries = (i : ℕ) (x : X) → slice_index_or entries i None ≡ Some x → get cmp indexes (name x) ≡ Some i

-- each place is at the index that is noted for it
abbrev pub Indexed : BTreeMap SubId ℕ → List (Option Place) → Type 0
Indexed indexes entries = IndexedBy sub_cmp (λ (place : Place). place.sub) indexes entries
