-- inner: What ties what a bridge keeps to the table of what it heard.
use Rattle.std.specs.Prelude.{◌≡◌, ℕ, ◌<◌, false, List, [], ◌++◌, map, if◌then◌else◌}
use Rattle.std.specs.List.{list_any}
use Rattle.mama_event.specs.declared.ids.InboxId.{InboxId}
use Rattle.mama_event.specs.declared.ids.ObjectId.{ObjectId}
use Rattle.mama_event.specs.declared.shape.Shape.{Shape}
use Rattle.mama_event.specs.Object.{same_sub, same_inbox}
use Rattle.mama_event.specs.declared.to_bridge.BridgeNote.{BridgeNote}
use Rattle.mama_event.specs.declared.to_bridge.ToBridge.{ToBridge}
use Rattle.mama_event.specs.Ports.{publishers_of}
use Rattle.mama_rules_services.specs.Bridge.{BridgeEvent, BridgePut, heard}
use Rattle.mama_laws_bridge.specs.Table.{SubRow, InboxRow, Table, table_next, table_puts, table_of, all_set}
use Rattle.mama_laws_bridge.specs.Laws.{Alone}
use Rattle.mama_bridge.specs.declared.out.BridgeOut.{BridgeOut}
use Rattle.mama_bridge.specs.declared.desk.Desk.{Desk}
use Rattle.mama_bridge.specs.Outs.{put_note, listeners, brought, is_create}
use Rattle.mama_bridge.specs.Ids.{is_inbox_among}
use Rattle.mama_bridge.specs.Links.{inbox_seen, inbox_view, AreSpelled, AreRepliesSpelled}
use Rattle.mama_bridge.specs.Held.{AreHeld}
use Rattle.mama_bridge.specs.Live.{IsLive}

module _ {L : Type 0} where
  -- the new list is the old one and then these puts, with these listeners
  pub record Adds (tagged : L → ObjectId) (old new : List (BridgeOut L)) (more : List BridgePut) (carried : List L) : Type 0 where
    pub puts : map (put_note tagged) new ≡ map (put_note tagged) old ++ more
    pub listeners : listeners new ≡ listeners old ++ carried

-- what is kept stands for a table
pub record Stands (table : Table) (desk : Desk) : Type 0 where
  pub opened : (i : InboxId) → is_inbox_among desk.inboxes.opened i ≡ list_any (λ (r : InboxId). same_inbox r i) table.opened
  pub subs : IsLive table.joined table.subs desk.subs
  pub inboxes : map inbox_seen desk.inboxes.links ≡ map inbox_view table.inboxes
  pub slots : AreHeld desk.slots table.subs table.inboxes
  pub clients : desk.clients ≡ table.clients
  pub sends : desk.sends ≡ table.sends
  pub settled : desk.settled ≡ table.settled
  pub byes : desk.byes ≡ table.byes
  pub spelled : AreSpelled table.subs
  pub replies_spelled : AreRepliesSpelled table.inboxes

-- each row is there once
pub record Sound (table : Table) : Type 0 where
  pub subs_once : Alone same_sub (λ (row : SubRow). row.sub) table.subs
  pub inboxes_once : Alone same_inbox (λ (row : InboxRow). row.inbox) table.inboxes

-- an event was heard: what is kept stands for the next table, and what the table says was put
pub record Heard {L : Type 0} (tagged : L → ObjectId) (shape : Shape) (table : Table) (e : BridgeEvent) (after : Desk) (old new : List (BridgeOut L)) (carried : List L) : Type 0 where
  pub stands : Stands (table_next shape table e) after
  pub adds : Adds tagged old new (table_puts shape table e) carried

abbrev pub Hears : {L : Type 0} → (L → ObjectId) → Shape → BridgeEvent → Desk → Desk → List (BridgeOut L) → List (BridgeOut L) → List L → Type 0
Hears tagged shape e before after old new carried = (table : Table) → Stands table before → Sound table → Heard tagged shape table e after old new carried

-- the same of an event whose listener, if it brought one, goes with a Create
abbrev pub HearsOf : {L : Type 0} → (L → ObjectId) → Shape → BridgeEvent → ToBridge L → Desk → Desk → List (BridgeOut L) → List (BridgeOut L) → Type 0
HearsOf tagged shape e event before after old new = (table : Table) → Stands table before → Sound table
    → Heard tagged shape table e after old new (if list_any is_create (table_puts shape table e) then brought event else [])

-- nothing that contracts see has changed
abbrev pub AsBefore : Desk → Desk → Type 0
AsBefore before after = (table : Table) → Stands table before → Stands table after

-- only who joined, the links of subscriptions, and slots may have changed
pub record AllBut (before after : Desk) : Type 0 where
  pub opened : after.inboxes.opened ≡ before.inboxes.opened
  pub inboxes : after.inboxes.links ≡ before.inboxes.links
  pub clients : after.clients ≡ before.clients
  pub sends : after.sends ≡ before.sends
  pub settled : after.settled ≡ before.settled
  pub byes : after.byes ≡ before.byes

-- only who opened and the links of inboxes may have changed
pub record AllButInboxes (before after : Desk) : Type 0 where
  pub subs : after.subs ≡ before.subs
  pub clients : after.clients ≡ before.clients
  pub sends : after.sends ≡ before.sends
  pub settled : after.settled ≡ before.settled
  pub byes : after.byes ≡ before.byes

-- only links and slots may have changed
pub record AllButLinks (before after : Desk) : Type 0 where
  pub opened : after.inboxes.opened ≡ before.inboxes.opened
  pub clients : after.clients ≡ before.clients
  pub sends : after.sends ≡ before.sends
  pub settled : after.settled ≡ before.settled
  pub byes : after.byes ≡ before.byes

-- only who said Bye may have changed
pub record AllButByes (before after : Desk) : Type 0 where
  pub opened : after.inboxes.opened ≡ before.inboxes.opened
  pub subs : after.subs ≡ before.subs
  pub inboxes : after.inboxes.links ≡ before.inboxes.links
  pub slots : after.slots ≡ before.slots
  pub clients : after.clients ≡ before.clients
  pub sends : after.sends ≡ before.sends
  pub settled : after.settled ≡ before.settled

-- what a bridge keeps stands for the table of what it heard, and its journal has room for the last queue's Bye
pub record IsKept (shape : Shape) (publishers : ℕ) (journal : List (ℕ × BridgeNote)) (len capacity : ℕ) (desk : Desk) : Type 0 where
  pub stands : Stands (table_of shape (heard shape journal)) desk
  pub count : publishers ≡ publishers_of shape
  pub room : all_set desk.byes ≡ false → len < capacity
