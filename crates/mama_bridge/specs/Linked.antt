-- inner: The links of one topic, as they stand in entries of which some are empty.
use Rattle.std.specs.Prelude.{◌≡◌, ℕ, ◌+◌, ◌<◌, ◌≤◌, Bool, false, List, ◌++◌, map, length, Option, None, Some, slice_index_or}
use Rattle.std.specs.BTreeMap.{BTreeMap, get}
use Rattle.mama_event.specs.Object.{same_sub}
use Rattle.mama_event.specs.declared.ids.SubId.{SubId}
use Rattle.mama_event.specs.declared.wire.PieceMsg.{PieceMsg}
use Rattle.mama_bridge.specs.declared.out.BridgeOut.{BridgeOut}
use Rattle.mama_bridge.specs.declared.subs.SubLink.{SubLink}
use Rattle.mama_bridge.specs.Ids.{sub_cmp}
use Rattle.mama_laws_bridge.specs.Table.{SubRow}
use Rattle.mama_bridge.specs.Links.{SubView, sub_seen, sub_view, end_outs, PassStep}
use Rattle.mama_bridge.specs.Placed.{IndexedBy}

-- the links in order of joining, and the subscription for whose link there is room, if one joins
pub record Linked : Type 0 where
  pub links : List SubLink
  pub awaited : Option SubId

abbrev pub is_link_of : SubId → SubLink → Bool
is_link_of s link = same_sub link.sub s

-- whose link an entry is, if it is not empty
abbrev pub entry_sub : Option SubLink → Option SubId
entry_sub None = None
entry_sub (Some link) = Some link.sub

abbrev pub subs_in : List (Option SubLink) → List (Option SubId)
subs_in entries = map entry_sub entries

-- each link is at the index that is noted for its subscription
abbrev pub AreIndexed : BTreeMap SubId ℕ → List (Option SubLink) → Type 0
AreIndexed indexes entries = IndexedBy sub_cmp (λ (link : SubLink). link.sub) indexes entries

-- no entry is a subscription's link
abbrev pub IsAbsent : SubId → List (Option SubLink) → Type 0
IsAbsent s entries = (i : ℕ) (link : SubLink) → slice_index_or entries i None ≡ Some link → same_sub link.sub s ≡ false

-- the entries from one index up to another are empty
abbrev pub IsGap : List (Option SubLink) → ℕ → ℕ → Type 0
IsGap entries from to = (i : ℕ) → from ≤ i → i < to → slice_index_or entries i None ≡ None

-- the index that is noted for the subscription whose link is to come is that of the last entry, which is empty
pub record IsLast (indexes : BTreeMap SubId ℕ) (subs : List (Option SubId)) (first : ℕ) (s : SubId) : Type 0 where
  pub index : ℕ
  pub noted : get sub_cmp indexes s ≡ Some index
  pub last : index + 1 ≡ length subs
  pub empty : slice_index_or subs index None ≡ None
  pub after : first ≤ index

abbrev pub IsAwaited : BTreeMap SubId ℕ → List (Option SubId) → ℕ → Option SubId → Type 0
IsAwaited indexes subs first None = Unit {0}
IsAwaited indexes subs first (Some s) = IsLast indexes subs first s

-- each subscription is at the index that is noted for it, and none is before the first
pub record IsNoted (indexes : BTreeMap SubId ℕ) (subs : List (Option SubId)) (first : ℕ) (awaited : Option SubId) : Type 0 where
  pub indexed : IndexedBy sub_cmp (λ (s : SubId). s) indexes subs
  pub empty : (i : ℕ) (s : SubId) → slice_index_or subs i None ≡ Some s → first ≤ i
  pub within : first ≤ length subs
  pub last : IsAwaited indexes subs first awaited

-- the prepared pass of an entry's link, if it is on the topic
abbrev pub PassEntry : {L : Type 0} → ℕ → Option SubLink → Option SubLink → List PieceMsg → List PieceMsg → List (BridgeOut L) → List (BridgeOut L) → Type 0
PassEntry topic None new msgs msgs' outs outs' = (new ≡ None) × (msgs' ≡ msgs) × (outs' ≡ outs)
PassEntry topic (Some old) new msgs msgs' outs outs' = (link : SubLink) × (new ≡ Some link) × (link.sub ≡ old.sub) × PassStep topic old link msgs msgs' outs outs'

-- the first entry from an index on that is not empty
abbrev pub IsFirst : List (Option SubLink) → ℕ → Option ℕ → Type 0
IsFirst entries from None = (j : ℕ) → from ≤ j → slice_index_or entries j None ≡ None
IsFirst entries from (Some i) = (i < length entries) × ((j : ℕ) → from ≤ j → j < i → slice_index_or entries j None ≡ None) × (link : SubLink) × (slice_index_or entries i None ≡ Some link)

-- how an entry is seen
abbrev pub entry_seen : Option SubLink → Option SubView
entry_seen None = None
entry_seen (Some link) = Some (sub_seen link)

module _ {L : Type 0} where
  -- the link of an entry is another, and this is put out for the row that it stands for
  abbrev pub EntryDoes : (SubRow → SubRow) → (SubRow → List (BridgeOut L)) → Option SubLink → Option SubLink → List (BridgeOut L) → List (BridgeOut L) → Type 0
  EntryDoes f put old new outs outs' = (row : SubRow) → entry_seen old ≡ Some (sub_view row) → (entry_seen new ≡ Some (sub_view (f row))) × (outs' ≡ outs ++ put row)

  -- the end of an entry's link is put out
  abbrev pub EntryEnds : Option SubLink → List (BridgeOut L) → List (BridgeOut L) → Type 0
  EntryEnds old outs outs' = (row : SubRow) → entry_seen old ≡ Some (sub_view row) → outs' ≡ outs ++ end_outs row
