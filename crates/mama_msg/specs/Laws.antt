-- believed: what holds of all messages and updates.
use Rattle.std.specs.Prelude.{◌≡◌, ℕ, ◌+◌, false, not, List, [], length, fold, count_by, Some, if◌then◌else◌, slice_get}
use Rattle.mama_msg.specs.declared.field.Key.{Key}
use Rattle.mama_msg.specs.Field.{FieldData, key_of}
use Rattle.mama_msg.specs.Message.{AreDistinct, has_key, with_key, updated, apply}

-- a message applied to itself changes nothing
abbrev pub ApplyingItselfChangesNothing : Type 0
ApplyingItselfChangesNothing = (m : List FieldData) → AreDistinct m → apply m m ≡ m

-- an empty update changes nothing
abbrev pub ApplyingNothingChangesNothing : Type 0
ApplyingNothingChangesNothing = (m : List FieldData) → apply m [] ≡ m

-- an update applied to the empty message is the message
abbrev pub ApplyingToNothingGivesTheUpdate : Type 0
ApplyingToNothingGivesTheUpdate = (u : List FieldData) → apply [] u ≡ u

-- two updates applied in turn are one update, the second applied to the first
abbrev pub TwoUpdatesAreOne : Type 0
TwoUpdatesAreOne = (m u v : List FieldData) → AreDistinct v → apply (apply m u) v ≡ apply m (apply u v)

-- to apply an update is to update with each of its fields in order
abbrev pub ApplyingUpdatesInOrder : Type 0
ApplyingUpdatesInOrder = (m u : List FieldData) → AreDistinct u → fold updated m u ≡ apply m u

-- keys stay distinct
abbrev pub ApplyingKeepsKeysDistinct : Type 0
ApplyingKeepsKeysDistinct = (m u : List FieldData) → AreDistinct m → AreDistinct u → AreDistinct (apply m u)

-- at a key that the update names stands the update's field, and at each other key what stood there
abbrev pub ApplyingByKeys : Type 0
ApplyingByKeys = (k : Key) (m u : List FieldData) → AreDistinct u → with_key k (apply m u) ≡ (if has_key k u then with_key k u else with_key k m)

-- a field whose key the update does not name keeps its place and its value
abbrev pub UnnamedFieldsStay : Type 0
UnnamedFieldsStay = (m u : List FieldData) (i : ℕ) (f : FieldData) → slice_get m i ≡ Some f → has_key (key_of f) u ≡ false → slice_get (apply m u) i ≡ Some f

-- a field whose key the update names is replaced in its place
abbrev pub NamedFieldsAreReplaced : Type 0
NamedFieldsAreReplaced = (m u : List FieldData) (i : ℕ) (f g : FieldData) → slice_get m i ≡ Some f → with_key (key_of f) u ≡ Some g → slice_get (apply m u) i ≡ Some g

-- the message grows by the update's fields with new keys
abbrev pub ApplyingAddsNewKeys : Type 0
ApplyingAddsNewKeys = (m u : List FieldData) → length (apply m u) ≡ length m + count_by (λ f. not (has_key (key_of f) m)) u
