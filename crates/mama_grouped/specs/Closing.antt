-- inner: What the groups of a crew's seats heard, and their listeners, gathered by the numbers of the groups.
use Rattle.std.specs.Prelude.{◌≡◌, ℕ, suc, List, [], ◌∷◌, map, Option, None, Some}
use Rattle.std.specs.List.{All, slice_get}
use Rattle.mama_event.specs.declared.group.GroupNote.{GroupNote}
use Rattle.mama_group.specs.Listener.{GroupListenerData}
use Rattle.mama_group.specs.Table.{GroupData}
use Rattle.mama_grouped.specs.declared.hearing.Hearing.{Hearing}
use Rattle.mama_grouped.specs.declared.seat.GroupedSeat.{GroupedSeat}
use Rattle.mama_grouped.specs.Seat.{HasHeard}

-- what some groups heard, each with its number
abbrev pub lists_of : {H : Type 0} → Option (Hearing H) → List (ℕ × List GroupNote)
lists_of None = []
lists_of (Some hearing) = map (λ (g : GroupData). (g.number, g.notes)) hearing.groups

abbrev pub lists_in : {L H : Type 0} → GroupedSeat L H → List (ℕ × List GroupNote)
lists_in seat = lists_of seat.hearing

-- what a listener heard is what is said of its number
abbrev pub IsBy : (ℕ → List GroupNote) → GroupData → Type 0
IsBy by g = HasHeard g.number (by g.number) g.listener

abbrev pub AreBy : {H : Type 0} → (ℕ → List GroupNote) → Option (Hearing H) → Type 0
AreBy by None = Unit {0}
AreBy by (Some hearing) = All (IsBy by) hearing.groups

-- each listener that was found heard what is said of its place
abbrev pub AreFound : {H : Type 0} → (H → GroupListenerData) → (ℕ → List GroupNote) → List (Option H) → Type 0
AreFound {H} view by found = (k : ℕ) (l : H) → slice_get found k ≡ Some (Some l) → HasHeard k (by k) (view l)

-- listeners with their numbers, in order from one on
abbrev pub AreInOrder : {H : Type 0} → (H → GroupListenerData) → (ℕ → List GroupNote) → ℕ → List (ℕ × H) → Type 0
AreInOrder view by n [] = Unit {0}
AreInOrder view by n (b ∷ bs) = (b.0 ≡ n) × HasHeard n (by n) (view b.1) × AreInOrder view by (suc n) bs
