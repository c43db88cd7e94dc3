-- inner: The links of the live subscriptions by topic, and their places in order of joining.
use Rattle.std.specs.Prelude.{◌≡◌, ℕ, Bool, false, ◌==◌, List, [], ◌∷◌, ◌++◌, ◌||◌, map, filter, sum_by, Option, None, Some, option_to_list, IfNone, if◌then◌else◌}
use Rattle.std.specs.List.{list_any, flat_map}
use Rattle.std.specs.Ordering.{nat_cmp}
use Rattle.std.specs.BTreeMap.{BTreeMap, get, values}
use Rattle.mama_event.specs.Object.{same_sub}
use Rattle.mama_event.specs.declared.ids.SubId.{SubId}
use Rattle.mama_laws_bridge.specs.Laws.{Alone}
use Rattle.mama_laws_bridge.specs.Table.{SubRow, InboxRow, of_sub, sub_slots, changed, without, kept}
use Rattle.mama_slots.specs.Slots.{SlotData}
use Rattle.mama_bridge.specs.Held.{Frees}
use Rattle.mama_bridge.specs.declared.live.Live.{Live}
use Rattle.mama_bridge.specs.declared.places.Place.{Place}
use Rattle.mama_bridge.specs.declared.inboxes.InboxLink.{InboxLink}
use Rattle.mama_bridge.specs.declared.out.BridgeOut.{BridgeOut}
use Rattle.mama_bridge.specs.declared.subs.SubLink.{SubLink}
use Rattle.mama_bridge.specs.Ids.{is_sub_among}
use Rattle.mama_bridge.specs.Linked.{Linked, is_link_of}
use Rattle.mama_bridge.specs.Links.{sub_seen, sub_view, sub_held, inbox_seen, inbox_view, row_is_on, end_outs, inbox_end_outs, fin_outs}

-- the links of a topic, which are none where nothing is kept of it
abbrev pub links_in : Option Linked → List SubLink
links_in None = []
links_in (Some kept) = kept.links

-- the links on a topic
abbrev pub links_on : BTreeMap ℕ Linked → ℕ → List SubLink
links_on topics topic = links_in (get nat_cmp topics topic)

-- how many messages the links of all topics hold
abbrev pub links_held : Linked → ℕ
links_held kept = sum_by sub_held kept.links

abbrev pub all_held : BTreeMap ℕ Linked → ℕ
all_held topics = sum_by links_held (values topics)

-- there is room for the link of a subscription on a topic
abbrev pub awaited_in : Option Linked → Option SubId
awaited_in None = None
awaited_in (Some kept) = kept.awaited

abbrev pub HasRoomOn : BTreeMap ℕ Linked → ℕ → SubId → Type 0
HasRoomOn topics topic s = awaited_in (get nat_cmp topics topic) ≡ Some s

-- the links of one topic are others, and those of all other topics are as they were
pub record OnTopic (topic : ℕ) (Does : List SubLink → List SubLink → Type 0) (old new : BTreeMap ℕ Linked) : Type 0 where
  pub here : Does (links_on old topic) (links_on new topic)
  pub others : (q : ℕ) → (topic == q) ≡ false → links_on new q ≡ links_on old q

-- the place of a row
abbrev pub place_of : SubRow → Place
place_of row = record { sub = row.sub; topic = row.terms.topic; queue = row.terms.queue; slot = row.slot }

-- who joined is noted, and so did each that has a row; the places are those of the rows, in order, and the links of each
-- topic stand for the rows on it
pub record IsLive (joined : List SubId) (rows : List SubRow) (live : Live) : Type 0 where
  pub known : (s : SubId) → is_sub_among live.places.joined s ≡ list_any (λ (r : SubId). same_sub r s) joined
  pub had : (s : SubId) → list_any (λ (r : SubId). same_sub r s) joined ≡ false → list_any (of_sub s) rows ≡ false
  pub places : live.places.live ≡ map place_of rows
  pub topics : (topic : ℕ) → map sub_seen (links_on live.topics topic) ≡ map sub_view (filter (row_is_on topic) rows)

-- nothing that contracts see has changed
abbrev pub StaysLive : Live → Live → Type 0
StaysLive old new = (joined : List SubId) (rows : List SubRow) → IsLive joined rows old → IsLive joined rows new

abbrev pub AloneSubs : List SubRow → Type 0
AloneSubs rows = Alone same_sub (λ (row : SubRow). row.sub) rows

module _ {L : Type 0} where
  -- the rows that pass a test are changed, and this is put out for each of them
  abbrev pub LiveDoes : (SubRow → Bool) → (SubRow → SubRow) → (SubRow → List (BridgeOut L)) → Live → Live → List (BridgeOut L) → List (BridgeOut L) → Type 0
  LiveDoes test change put old new outs outs' = (joined : List SubId) (rows : List SubRow) → IsLive joined rows old → AloneSubs rows
      → IsLive joined (changed test change rows) new × (outs' ≡ outs ++ flat_map put (filter test rows))

  -- a subscription's row is gone, and its end is put out
  abbrev pub LiveLeaves : SubId → Live → Live → List (BridgeOut L) → List (BridgeOut L) → Type 0
  LiveLeaves s old new outs outs' = (joined : List SubId) (rows : List SubRow) → IsLive joined rows old → AloneSubs rows
      → IsLive joined (without (of_sub s) rows) new × (outs' ≡ outs ++ flat_map end_outs (filter (of_sub s) rows))

  -- the ending, if it comes
  abbrev pub EndsLive : Bool → ℕ → ℕ → Live → List InboxLink → List (BridgeOut L) → List (BridgeOut L) → Type 0
  EndsLive ends publishers queues live inboxes outs outs' = (joined : List SubId) (rows : List SubRow) (others : List InboxRow) → IsLive joined rows live → map inbox_seen inboxes ≡ map inbox_view others
      → outs' ≡ outs ++ (if ends then flat_map end_outs rows ++ flat_map inbox_end_outs others ++ fin_outs publishers queues else [])

-- no row is left where the ending comes
abbrev pub KeepsLive : Bool → Live → Live → Type 0
KeepsLive ends old new = (joined : List SubId) (rows : List SubRow) → IsLive joined rows old → IsLive joined (kept ends rows) new

-- the slots of a subscription's rows are free
abbrev pub LiveFrees : SubId → Live → SlotData → SlotData → Type 0
LiveFrees s live old new = (joined : List SubId) (rows : List SubRow) → IsLive joined rows live → Frees (λ queue. sub_slots queue (filter (of_sub s) rows)) old new

-- one subscription more joined, which did not before, and its link is still to come
pub record Awaits (ended : Bool) (place : Place) (old new : Live) : Type 0 where
  pub fresh : is_sub_among old.places.joined place.sub ≡ false
  pub room : ended ≡ false → list_any (is_link_of place.sub) (links_on old.topics place.topic) ≡ false → HasRoomOn new.topics place.topic place.sub
  pub joined : (one : SubId) → is_sub_among new.places.joined one ≡ (is_sub_among old.places.joined one || same_sub place.sub one)
  pub places : new.places.live ≡ old.places.live ++ kept ended (place ∷ [])
  pub topics : (q : ℕ) → links_on new.topics q ≡ links_on old.topics q

-- the link of the one that joined is kept
abbrev pub Gains : Bool → SubLink → Live → Live → Type 0
Gains ended link old new = (before : Live) (joined : List SubId) (rows : List SubRow) (row : SubRow) → IsLive joined rows before → Awaits ended (place_of row) before old → sub_seen link ≡ sub_view row
    → IsLive (joined ++ row.sub ∷ []) (rows ++ kept ended (row ∷ [])) new

-- the next link of a place's topic is moved to the end of a list, if there is a place
abbrev pub TakesNext : Option Place → BTreeMap ℕ Linked → BTreeMap ℕ Linked → List SubLink → List SubLink → Type 0
TakesNext None old new links links' = (new ≡ old) × (links' ≡ links)
TakesNext (Some place) old new links links' = (next : Option SubLink) × OnTopic place.topic (λ a b. a ≡ option_to_list next ++ b) old new × IfNone next (links_on old place.topic ≡ []) × (links' ≡ links ++ option_to_list next)

-- the links that stand for the rows of these places, in order
abbrev pub IsTaken : List Place → BTreeMap ℕ Linked → List SubLink → Type 0
IsTaken places topics links = (rows : List SubRow) → places ≡ map place_of rows → ((topic : ℕ) → map sub_seen (links_on topics topic) ≡ map sub_view (filter (row_is_on topic) rows))
    → map sub_seen links ≡ map sub_view rows
