-- inner: What contracts see of the links that a bridge keeps, and what ties them to rows.
use Rattle.std.specs.Prelude.{◌≡◌, ℕ, ◌+◌, ◌-◌, Bool, true, ◌==◌, nat_lt, List, [], ◌∷◌, ◌++◌, length, map, take, filter, sum_by, Option, None, Some, option_to_list, if◌then◌else◌}
use Rattle.std.specs.List.{flat_map, AllByRecursion}
use Rattle.mama_msg.specs.Field.{FieldData}
use Rattle.mama_link.specs.Link.{emit}
use Rattle.mama_link.specs.Standing.{Standing, standing_after, StandsFor}
use Rattle.mama_link.specs.Prepared.{Readied, IsPreparedFor}
use Rattle.mama_event.specs.declared.ids.SubId.{SubId}
use Rattle.mama_event.specs.declared.ids.InboxId.{InboxId}
use Rattle.mama_event.specs.declared.market.MarketMsg.{MarketMsg}
use Rattle.mama_event.specs.declared.wire.PieceMsg.{PieceMsg}
use Rattle.mama_event.specs.Arrival.{piece_of, cut_body}
use Rattle.mama_payload.specs.Spelling.{spelling}
use Rattle.mama_payload.specs.Spelled.{HasSpelling}
use Rattle.mama_event.specs.declared.ids.ObjectId.TheVariants.{Sub, Inbox}
use Rattle.mama_event.specs.declared.to_queue.ToQueue.TheVariants as queued
use Rattle.mama_link.specs.Link.{rest}
use Rattle.mama_event.specs.Object.{same_sub}
use Rattle.mama_event.specs.declared.market.MsgKind.TheVariants.{Recap}
use Rattle.mama_event.specs.declared.market.SubKind.{SubKind}
use Rattle.mama_event.specs.declared.market.SubKind.TheVariants.{Market, Snapshot, Basic}
use Rattle.mama_event.specs.declared.to_publisher.ToPublisher.{ToPublisher}
use Rattle.mama_event.specs.declared.to_publisher.ToPublisher.TheVariants as asked
use Rattle.mama_event.specs.declared.to_timers.ToTimers.TheVariants as timed
use Rattle.mama_journal.specs.Journal.{numbers_below}
use Rattle.mama_rules_services.specs.Bridge.{passed_on}
use Rattle.mama_laws_bridge.specs.Laws.{Alone}
use Rattle.mama_laws_bridge.specs.Table.{SubRow, InboxRow, of_sub, of_inbox, sub_passed, inbox_passed, sub_wished, changed, without, inbox_slots}
use Rattle.mama_slots.specs.Slots.{SlotData}
use Rattle.mama_bridge.specs.Held.{Frees}
use Rattle.mama_bridge.specs.declared.out.BridgeOut.{BridgeOut}
use Rattle.mama_bridge.specs.declared.out.BridgeOut.TheVariants as out
use Rattle.mama_bridge.specs.declared.subs.SubLink.{SubLink}
use Rattle.mama_bridge.specs.declared.inboxes.InboxLink.{InboxLink}

-- the first of some bytes alone
abbrev pub cut_bytes : ℕ → List ℕ → List ℕ
cut_bytes keep bytes = take keep bytes

-- a piece is the whole of a message, which has a spelling
pub record IsPieceOf (m : MarketMsg) (piece : PieceMsg) : Type 0 where
  pub spelled : HasSpelling m.body
  pub whole : piece ≡ piece_of m

-- what rows were sent has spellings, as packets have
abbrev pub AreSpelled : List SubRow → Type 0
AreSpelled rows = AllByRecursion (λ (row : SubRow). AllByRecursion (λ (m : MarketMsg). HasSpelling m.body) row.sent) rows

abbrev pub AreRepliesSpelled : List InboxRow → Type 0
AreRepliesSpelled rows = AllByRecursion (λ (row : InboxRow). AllByRecursion (λ (body : List FieldData). HasSpelling body) row.sent) rows

-- the link of a live subscription, at rest
pub record SubView : Type 0 where
  pub sub : SubId
  pub topic : ℕ
  pub queue : ℕ
  pub slot : ℕ
  pub recaps : ℕ
  pub wished : ℕ
  pub link : Standing PieceMsg

abbrev pub sub_seen : SubLink → SubView
sub_seen link = record { sub = link.sub; topic = link.topic; queue = link.queue; slot = link.slot; recaps = link.recaps; wished = link.wished; link = link.link.standing }

-- as a row tells it
abbrev pub sub_view : SubRow → SubView
sub_view row = record { sub = row.sub; topic = row.terms.topic; queue = row.terms.queue; slot = row.slot; recaps = row.terms.recaps; wished = row.wished; link = standing_after row.terms.faults (map piece_of row.sent) }

-- the link of an open inbox, at rest
pub record InboxView : Type 0 where
  pub inbox : InboxId
  pub queue : ℕ
  pub slot : ℕ
  pub link : Standing (List ℕ)

abbrev pub inbox_seen : InboxLink → InboxView
inbox_seen link = record { inbox = link.inbox; queue = link.queue; slot = link.slot; link = link.link.standing }

abbrev pub inbox_view : InboxRow → InboxView
inbox_view row = record { inbox = row.inbox; queue = row.terms.queue; slot = row.slot; link = standing_after row.terms.faults (map spelling row.sent) }

-- how many messages a prepared pass puts out
abbrev pub ready_len : Option (Readied PieceMsg) → ℕ
ready_len None = 0
ready_len (Some pass) = pass.len

-- a pass of this message is prepared
abbrev pub Holds : PieceMsg → Option (Readied PieceMsg) → Type 0
Holds m None = ⊥
Holds m (Some pass) = pass.message ≡ m

-- what is prepared for a link is prepared well
pub record ReadyFor (link : SubLink) (pass : Readied PieceMsg) : Type 0 where
  pub prepared : IsPreparedFor cut_body link.link pass
  pub len : (x : List PieceMsg) → StandsFor x link.link.standing → pass.len ≡ length (emit cut_body link.link.standing.rows (x ++ pass.message ∷ []) (length x + 1))

abbrev pub IsReadyBy : SubLink → Option (Readied PieceMsg) → Type 0
IsReadyBy link None = Unit {0}
IsReadyBy link (Some pass) = ReadyFor link pass

abbrev pub IsReady : SubLink → Type 0
IsReady link = IsReadyBy link link.ready

-- what holds of each link
abbrev pub Each : {X : Type 0} → (X → Type 0) → List X → Type 0
Each P [] = Unit {0}
Each P (x ∷ xs) = P x × Each P xs

abbrev pub is_on : ℕ → SubLink → Bool
is_on topic link = link.topic == topic

-- where a link is on the topic, a pass is prepared for it, of this message
abbrev pub ReadyIf : ℕ → SubLink → Type 0
ReadyIf topic link = is_on topic link ≡ true → IsReady link

abbrev pub HoldsIf : ℕ → PieceMsg → SubLink → Type 0
HoldsIf topic m link = is_on topic link ≡ true → Holds m link.ready

-- how much the prepared pass of a link on the topic puts out
abbrev pub weight : ℕ → SubLink → ℕ
weight topic link = if is_on topic link then ready_len link.ready else 0

abbrev pub weights : ℕ → List SubLink → ℕ
weights topic links = sum_by (weight topic) links

abbrev pub row_is_on : ℕ → SubRow → Bool
row_is_on topic row = topic == row.terms.topic

module _ {L : Type 0} where
  -- pieces of a row, as they are put out
  abbrev pub sub_outs : SubRow → List PieceMsg → List (BridgeOut L)
  sub_outs row pieces = map (λ (p : PieceMsg). out.Queue row.terms.queue (queued.Deliver row.slot row.sub p)) pieces

  abbrev pub emit_outs : MarketMsg → SubRow → List (BridgeOut L)
  emit_outs m row = sub_outs row (passed_on cut_body row.terms.faults (map piece_of row.sent) (piece_of m ∷ []))

  abbrev pub end_outs : SubRow → List (BridgeOut L)
  end_outs row = sub_outs row (rest row.terms.faults (map piece_of row.sent)) ++ out.Queue row.terms.queue (queued.Gone row.slot (Sub row.sub)) ∷ []

  abbrev pub inbox_outs : InboxRow → List (List ℕ) → List (BridgeOut L)
  inbox_outs row pieces = map (λ (body : List ℕ). out.Queue row.terms.queue (queued.Reply row.slot row.inbox body)) pieces

  abbrev pub inbox_emit_outs : List FieldData → InboxRow → List (BridgeOut L)
  inbox_emit_outs body row = inbox_outs row (passed_on cut_bytes row.terms.faults (map spelling row.sent) (spelling body ∷ []))

  abbrev pub inbox_end_outs : InboxRow → List (BridgeOut L)
  inbox_end_outs row = inbox_outs row (rest row.terms.faults (map spelling row.sent)) ++ out.Queue row.terms.queue (queued.Gone row.slot (Inbox row.inbox)) ∷ []

  -- the prepared pass of a link on the topic
  abbrev pub PassStep : ℕ → SubLink → SubLink → List PieceMsg → List PieceMsg → List (BridgeOut L) → List (BridgeOut L) → Type 0
  PassStep topic old new msgs msgs' outs outs' = (row : SubRow) (m : MarketMsg) → sub_seen old ≡ sub_view row → HoldsIf topic (piece_of m) old → msgs ≡ []
      → (sub_seen new ≡ sub_view (if row_is_on topic row then sub_passed m row else row)) × (outs' ≡ outs ++ (if row_is_on topic row then emit_outs m row else [])) × (msgs' ≡ [])

  -- the prepared passes of all links on the topic
  abbrev pub PassSteps : ℕ → List SubLink → List SubLink → List PieceMsg → List PieceMsg → List (BridgeOut L) → List (BridgeOut L) → Type 0
  PassSteps topic old new msgs msgs' outs outs' = (rows : List SubRow) (m : MarketMsg) → map sub_seen old ≡ map sub_view rows → Each (HoldsIf topic (piece_of m)) old → msgs ≡ []
      → (map sub_seen new ≡ map sub_view (changed (row_is_on topic) (sub_passed m) rows)) × (outs' ≡ outs ++ flat_map (emit_outs m) (filter (row_is_on topic) rows)) × (msgs' ≡ [])

  -- the ends of links
  abbrev pub EndStep : SubLink → List PieceMsg → List PieceMsg → List (BridgeOut L) → List (BridgeOut L) → Type 0
  EndStep link msgs msgs' outs outs' = (row : SubRow) → sub_seen link ≡ sub_view row → msgs ≡ [] → (outs' ≡ outs ++ end_outs row) × (msgs' ≡ [])

  abbrev pub EndSteps : List SubLink → List PieceMsg → List PieceMsg → List (BridgeOut L) → List (BridgeOut L) → Type 0
  EndSteps links msgs msgs' outs outs' = (rows : List SubRow) → map sub_seen links ≡ map sub_view rows → msgs ≡ [] → (outs' ≡ outs ++ flat_map end_outs rows) × (msgs' ≡ [])

  abbrev pub InboxEndStep : InboxLink → List (List ℕ) → List (List ℕ) → List (BridgeOut L) → List (BridgeOut L) → Type 0
  InboxEndStep link bodies bodies' outs outs' = (row : InboxRow) → inbox_seen link ≡ inbox_view row → bodies ≡ [] → (outs' ≡ outs ++ inbox_end_outs row) × (bodies' ≡ [])

  abbrev pub InboxEndSteps : List InboxLink → List (List ℕ) → List (List ℕ) → List (BridgeOut L) → List (BridgeOut L) → Type 0
  InboxEndSteps links bodies bodies' outs outs' = (rows : List InboxRow) → map inbox_seen links ≡ map inbox_view rows → bodies ≡ [] → (outs' ≡ outs ++ flat_map inbox_end_outs rows) × (bodies' ≡ [])

-- how many messages a link holds, and the notice of its end
abbrev pub sub_held : SubLink → ℕ
sub_held link = length link.link.standing.held

abbrev pub inbox_held : InboxLink → ℕ
inbox_held link = length link.link.standing.held

-- a pass that is prepared for an inbox's link
pub record InboxReadyFor (link : InboxLink) (pass : Readied (List ℕ)) : Type 0 where
  pub prepared : IsPreparedFor cut_bytes link.link pass
  pub len : (x : List (List ℕ)) → StandsFor x link.link.standing → pass.len ≡ length (emit cut_bytes link.link.standing.rows (x ++ pass.message ∷ []) (length x + 1))

-- a row after a wish, which counts where the row's terms allow one more
abbrev pub wished_once : SubRow → SubRow
wished_once row = if nat_lt row.wished row.terms.recaps then sub_wished row else row

-- what is done to the rows that pass a test, and what is put out for them
module _ {L : Type 0} where
  abbrev pub SubsPass : (SubRow → Bool) → MarketMsg → List SubLink → List SubLink → List (BridgeOut L) → List (BridgeOut L) → Type 0
  SubsPass test m old new outs outs' = (rows : List SubRow) → map sub_seen old ≡ map sub_view rows → Alone same_sub (λ (row : SubRow). row.sub) rows
      → (map sub_seen new ≡ map sub_view (changed test (sub_passed m) rows)) × (outs' ≡ outs ++ flat_map (emit_outs m) (filter test rows))

  abbrev pub SubLeaves : SubId → List SubLink → List SubLink → List (BridgeOut L) → List (BridgeOut L) → Type 0
  SubLeaves s old new outs outs' = (rows : List SubRow) → map sub_seen old ≡ map sub_view rows → Alone same_sub (λ (row : SubRow). row.sub) rows
      → (map sub_seen new ≡ map sub_view (without (of_sub s) rows)) × (outs' ≡ outs ++ flat_map end_outs (filter (of_sub s) rows))

  abbrev pub wish_outs : ℕ → SubRow → List (BridgeOut L)
  wish_outs sender row = if nat_lt row.wished row.terms.recaps then out.Publisher (sender - 1) (asked.Want row.sub Recap) ∷ [] else []

  abbrev pub SubWishes : ℕ → SubId → List SubLink → List SubLink → List (BridgeOut L) → List (BridgeOut L) → Type 0
  SubWishes sender s old new outs outs' = (rows : List SubRow) → map sub_seen old ≡ map sub_view rows → Alone same_sub (λ (row : SubRow). row.sub) rows
      → (map sub_seen new ≡ map sub_view (changed (of_sub s) wished_once rows)) × (outs' ≡ outs ++ flat_map (wish_outs sender) (filter (of_sub s) rows))

  abbrev pub InboxPass : InboxId → List FieldData → List InboxLink → List InboxLink → List (BridgeOut L) → List (BridgeOut L) → Type 0
  InboxPass i body old new outs outs' = (rows : List InboxRow) → map inbox_seen old ≡ map inbox_view rows
      → (map inbox_seen new ≡ map inbox_view (changed (of_inbox i) (inbox_passed body) rows)) × (outs' ≡ outs ++ flat_map (inbox_emit_outs body) (filter (of_inbox i) rows))

  abbrev pub InboxCloses : InboxId → List InboxLink → List InboxLink → List (BridgeOut L) → List (BridgeOut L) → Type 0
  InboxCloses i old new outs outs' = (rows : List InboxRow) → map inbox_seen old ≡ map inbox_view rows
      → (map inbox_seen new ≡ map inbox_view (without (of_inbox i) rows)) × (outs' ≡ outs ++ flat_map inbox_end_outs (filter (of_inbox i) rows))

  -- a reply passes through the link of an entry, if it is not empty
  abbrev pub EntryAnswers : List FieldData → Option InboxLink → Option InboxLink → List (BridgeOut L) → List (BridgeOut L) → Type 0
  EntryAnswers body old new outs outs' = (rows : List InboxRow) → map inbox_seen (option_to_list old) ≡ map inbox_view rows
      → (map inbox_seen (option_to_list new) ≡ map inbox_view (map (inbox_passed body) rows)) × (outs' ≡ outs ++ flat_map (inbox_emit_outs body) rows)

  -- the entry is empty, and the end of the link that was there is put out
  abbrev pub EntryCloses : Option InboxLink → Option InboxLink → List (BridgeOut L) → List (BridgeOut L) → Type 0
  EntryCloses old new outs outs' = (new ≡ None) × ((rows : List InboxRow) → map inbox_seen (option_to_list old) ≡ map inbox_view rows → outs' ≡ outs ++ flat_map inbox_end_outs rows)

-- the slots of a queue that links have
abbrev pub link_slot : ℕ → ℕ → ℕ → List ℕ
link_slot queue of_queue slot = if of_queue == queue then slot ∷ [] else []

abbrev pub inbox_link_slots : ℕ → List InboxLink → List ℕ
inbox_link_slots queue links = flat_map (λ (link : InboxLink). link_slot queue link.queue link.slot) links

-- the slots of an inbox's rows are free
abbrev pub InboxFrees : InboxId → List InboxLink → SlotData → SlotData → Type 0
InboxFrees i links old new = (rows : List InboxRow) → map inbox_seen links ≡ map inbox_view rows → Frees (λ queue. inbox_slots queue (filter (of_inbox i) rows)) old new

-- what the ending puts out by links that stand for these rows
module _ {L : Type 0} where
  abbrev pub settle_outs : ℕ → List (BridgeOut L)
  settle_outs publishers = map (λ (r : ℕ). out.Publisher r asked.Settle) (numbers_below publishers)

  abbrev pub fin_outs : ℕ → ℕ → List (BridgeOut L)
  fin_outs publishers queues = out.Timers timed.Fin ∷ [] ++ map (λ (k : ℕ). out.Queue k queued.Fin) (numbers_below queues) ++ map (λ (r : ℕ). out.Publisher r asked.Fin) (numbers_below publishers)

  abbrev pub Ends : ℕ → ℕ → List SubLink → List InboxLink → List (BridgeOut L) → List (BridgeOut L) → Type 0
  Ends publishers queues subs inboxes outs outs' = (rows : List SubRow) (others : List InboxRow) → map sub_seen subs ≡ map sub_view rows → map inbox_seen inboxes ≡ map inbox_view others
      → outs' ≡ outs ++ (flat_map end_outs rows ++ flat_map inbox_end_outs others ++ fin_outs publishers queues)

-- a first image is for all but basic subscriptions
abbrev pub image_outs : {O : Type 0} → SubKind → List O → List O
image_outs Basic outs = []
image_outs Market outs = outs
image_outs Snapshot outs = outs

module _ {L : Type 0} where
  -- an event to the publisher that was found
  abbrev pub first_outs : Option ℕ → ToPublisher → List (BridgeOut L)
  first_outs None event = []
  first_outs (Some number) event = out.Publisher number event ∷ []
