-- What a bridge keeps after one entry more.
use Rattle.std.proofs.Common.{◌≡◌, ℕ, ◌<◌, zero, suc, Bool, true, false, not, ◌&&◌, List, [], ◌∷◌, ◌++◌, length, set, map, replicate, Option, None, Some, refl, sym, ◌∙◌, ap, subst}
use Rattle.std.proofs.lemmas.List.{map-append}
use Rattle.mama_event.specs.declared.ids.InboxId.{InboxId}
use Rattle.mama_event.specs.declared.shape.Shape.{Shape}
use Rattle.mama_event.specs.declared.to_bridge.BridgeNote.{BridgeNote}
use Rattle.mama_event.specs.declared.to_bridge.BridgeNote.TheVariants as b
use Rattle.mama_event.specs.Ports.{clients_of, publishers_of, queues_of}
use Rattle.mama_rules_services.specs.Ports.{Putter as Actor, bridge_putter}
use Rattle.mama_rules_services.specs.Bridge.{BridgeEvent, put_by, heard, bridge_puts_at}
use Rattle.mama_laws_bridge.specs.Table.{Table, table_puts, table_of, table_after, table_next, empty_table, all_set, marked, client_in, sender_in, settler_in, leaver_in}
use Rattle.mama_laws_bridge.specs.Byes.{all_left}
use Rattle.mama_laws_bridge.specs.Laws.{RowsAreLive, FlagsTell, TableTells, TableGrows}
use Rattle.mama_bridge.specs.Ids.{is_inbox_among}
use Rattle.mama_bridge.specs.declared.desk.Desk.{Desk}
use Rattle.mama_bridge.specs.declared.putter.Putter.{Putter}
use Rattle.mama_bridge.specs.declared.putter.Putter.TheVariants as putter
use Rattle.mama_bridge.specs.Putters.{actor_of, IsThere, HasFlags}
use Rattle.mama_bridge.specs.Routing.{is_last_bye}
use Rattle.mama_bridge.specs.Desk.{Stands, Sound, AllButByes, IsKept}
use Rattle.mama_bridge.specs.Links.{inbox_seen}
use Rattle.mama_slots.specs.Slots.{SlotData}
use Rattle.mama_bridge.specs.Held.{AreHeld}
use Rattle.mama_bridge.specs.Live.{IsLive}
use Rattle.mama_bridge.specs.declared.live.Live.{Live}

-- there is a flag for each client, publisher and queue

marked_length : (flags : List Bool) (n : Option ℕ) → length (marked flags n) ≡ length flags
marked_length flags None = refl
marked_length flags (Some n) = set_length flags n
  where
    set_length : (xs : List Bool) (i : ℕ) → length (set xs i true) ≡ length xs
    set_length [] i = refl
    set_length (x ∷ xs) zero = refl
    set_length (x ∷ xs) (suc i) = ap suc (set_length xs i)

replicate_length : (n : ℕ) → length (replicate n false) ≡ n
replicate_length zero = refl
replicate_length (suc n) = ap suc (replicate_length n)

clients_after : (shape : Shape) (es : List BridgeEvent) (table : Table) → length (table_after shape table es).clients ≡ length table.clients
clients_after shape [] table = refl
clients_after shape (e ∷ es) table = clients_after shape es (table_next shape table e) ∙ marked_length table.clients (client_in e)

sends_after : (shape : Shape) (es : List BridgeEvent) (table : Table) → length (table_after shape table es).sends ≡ length table.sends
sends_after shape [] table = refl
sends_after shape (e ∷ es) table = sends_after shape es (table_next shape table e) ∙ marked_length table.sends (sender_in e)

settled_after : (shape : Shape) (es : List BridgeEvent) (table : Table) → length (table_after shape table es).settled ≡ length table.settled
settled_after shape [] table = refl
settled_after shape (e ∷ es) table = settled_after shape es (table_next shape table e) ∙ marked_length table.settled (settler_in e)

byes_after : (shape : Shape) (es : List BridgeEvent) (table : Table) → length (table_after shape table es).byes ≡ length table.byes
byes_after shape [] table = refl
byes_after shape (e ∷ es) table = byes_after shape es (table_next shape table e) ∙ marked_length table.byes (leaver_in e)

pub has_flags : (shape : Shape) (es : List BridgeEvent) (desk : Desk) (by : Putter) → Stands (table_of shape es) desk → IsThere shape by → HasFlags desk by
has_flags shape es desk (putter.Client client) s there =
    subst (λ n. client < n) (sym (ap length s.clients ∙ clients_after shape es (empty_table shape) ∙ replicate_length (clients_of shape))) there
has_flags shape es desk (putter.Publisher publisher) s there = (
  subst (λ n. publisher < n) (sym (ap length s.sends ∙ sends_after shape es (empty_table shape) ∙ replicate_length (publishers_of shape))) there,
  subst (λ n. publisher < n) (sym (ap length s.settled ∙ settled_after shape es (empty_table shape) ∙ replicate_length (publishers_of shape))) there,
)
has_flags shape es desk (putter.Queue queue) s there =
    subst (λ n. queue < n) (sym (ap length s.byes ∙ byes_after shape es (empty_table shape) ∙ replicate_length (queues_of shape))) there
has_flags shape es desk putter.Nobody s there = tt

pub sound_of : (shape : Shape) (es : List BridgeEvent) → RowsAreLive shape es → Sound (table_of shape es)
sound_of shape es live = record { subs_once = live.subs_once; inboxes_once = live.inboxes_once }

-- what is kept after one entry more
pub kept_more : TableGrows → (shape : Shape) (publishers : ℕ) (journal : List (ℕ × BridgeNote)) (len capacity len' capacity' : ℕ) (desk desk' : Desk) (port : ℕ) (note : BridgeNote)
    → IsKept shape publishers journal len capacity desk → Stands (table_next shape (table_of shape (heard shape journal)) (put_by (bridge_putter shape port) note)) desk'
    → (all_set desk'.byes ≡ false → len' < capacity') → IsKept shape publishers (journal ++ (port, note) ∷ []) len' capacity' desk'
kept_more grows shape publishers journal len capacity len' capacity' desk desk' port note kept s room = record {
  stands = subst (λ (table : Table). Stands table desk') (sym (grows shape journal (port, note))) s;
  count = kept.count;
  room = room;
}

not_both : (b : Bool) → (b && not b) ≡ false
not_both true = refl
not_both false = refl

pub last_is : TableGrows → ((shape : Shape) (es : List BridgeEvent) → FlagsTell shape es) → (shape : Shape) (journal : List (ℕ × BridgeNote)) (port : ℕ) (note : BridgeNote)
    → is_last_bye (record { shape = shape; journal = journal }) port note ≡ (all_set (marked (table_of shape (heard shape journal)).byes (leaver_in (put_by (bridge_putter shape port) note))) && not (all_set (table_of shape (heard shape journal)).byes))
last_is grows tell shape journal port note =
    let e : BridgeEvent = put_by (bridge_putter shape port) note in
    ap (λ b. b && not (all_left shape (heard shape journal)))
    (ap (all_left shape) (sym (map-append (λ (f : ℕ × BridgeNote). put_by (bridge_putter shape f.0) f.1) journal ((port, note) ∷ [])))
    ∙ (tell shape (heard shape (journal ++ (port, note) ∷ []))).left ∙ ap (λ (table : Table). all_set table.byes) (grows shape journal (port, note)))
    ∙ ap (λ b. all_set (marked (table_of shape (heard shape journal)).byes (leaver_in e)) && not b) (tell shape (heard shape journal)).left

pub no_last : TableGrows → ((shape : Shape) (es : List BridgeEvent) → FlagsTell shape es) → (shape : Shape) (journal : List (ℕ × BridgeNote)) (port : ℕ) (note : BridgeNote)
    → leaver_in (put_by (bridge_putter shape port) note) ≡ None → is_last_bye (record { shape = shape; journal = journal }) port note ≡ false
no_last grows tell shape journal port note none =
    last_is grows tell shape journal port note ∙ ap (λ n. all_set (marked (table_of shape (heard shape journal)).byes n) && not (all_set (table_of shape (heard shape journal)).byes)) none
    ∙ not_both (all_set (table_of shape (heard shape journal)).byes)

stood : (table : Table) (desk desk' : Desk) → Stands table desk → desk'.byes ≡ table.byes → AllButByes desk desk' → Stands table desk'
stood table desk desk' s h rest = record {
  opened = λ one. ap (λ (known : List InboxId). is_inbox_among known one) rest.opened ∙ s.opened one;
  subs = subst (λ (live : Live). IsLive table.joined table.subs live) (sym rest.subs) s.subs;
  inboxes = ap (λ xs. map inbox_seen xs) rest.inboxes ∙ s.inboxes;
  slots = subst (λ (slots : SlotData). AreHeld slots table.subs table.inboxes) (sym rest.slots) s.slots;
  clients = rest.clients ∙ s.clients;
  sends = rest.sends ∙ s.sends;
  settled = rest.settled ∙ s.settled;
  byes = h;
  spelled = s.spelled;
  replies_spelled = s.replies_spelled;
}

-- a Bye marks its queue, and nothing else follows from it
pub bye_stands : (shape : Shape) (table : Table) (desk desk' : Desk) (by : Putter) → Stands table desk → desk'.byes ≡ marked desk.byes (leaver_in (put_by (actor_of by) b.Bye)) → AllButByes desk desk'
    → Stands (table_next shape table (put_by (actor_of by) b.Bye)) desk'
bye_stands shape table desk desk' (putter.Client n) s h rest = stood table desk desk' s (h ∙ s.byes) rest
bye_stands shape table desk desk' (putter.Publisher n) s h rest = stood table desk desk' s (h ∙ s.byes) rest
bye_stands shape table desk desk' (putter.Queue n) s h rest = record {
  opened = λ one. ap (λ (known : List InboxId). is_inbox_among known one) rest.opened ∙ s.opened one;
  subs = subst (λ (live : Live). IsLive table.joined table.subs live) (sym rest.subs) s.subs;
  inboxes = ap (λ xs. map inbox_seen xs) rest.inboxes ∙ s.inboxes;
  slots = subst (λ (slots : SlotData). AreHeld slots table.subs table.inboxes) (sym rest.slots) s.slots;
  clients = rest.clients ∙ s.clients;
  sends = rest.sends ∙ s.sends;
  settled = rest.settled ∙ s.settled;
  byes = h ∙ ap (λ flags. set flags n true) s.byes;
  spelled = s.spelled;
  replies_spelled = s.replies_spelled;
}
bye_stands shape table desk desk' putter.Nobody s h rest = stood table desk desk' s (h ∙ s.byes) rest

pub bye_is_quiet : (shape : Shape) (table : Table) (by : Putter) → table_puts shape table (put_by (actor_of by) b.Bye) ≡ []
bye_is_quiet shape table (putter.Client n) = refl
bye_is_quiet shape table (putter.Publisher n) = refl
bye_is_quiet shape table (putter.Queue n) = refl
bye_is_quiet shape table putter.Nobody = refl

pub quiet_bye : TableTells → (shape : Shape) (journal : List (ℕ × BridgeNote)) (port : ℕ) (by : Putter) → actor_of by ≡ bridge_putter shape port → bridge_puts_at shape journal (port, b.Bye) ≡ []
quiet_bye tells shape journal port by actor =
    tells shape journal (port, b.Bye) ∙ ap (λ (a : Actor). table_puts shape (table_of shape (heard shape journal)) (put_by a b.Bye)) (sym actor) ∙ bye_is_quiet shape (table_of shape (heard shape journal)) by

pub bye_last : TableGrows → ((shape : Shape) (es : List BridgeEvent) → FlagsTell shape es) → (shape : Shape) (publishers : ℕ) (journal : List (ℕ × BridgeNote)) (len capacity : ℕ) (desk : Desk) (port : ℕ) (by : Putter)
    → actor_of by ≡ bridge_putter shape port → IsKept shape publishers journal len capacity desk
    → is_last_bye (record { shape = shape; journal = journal }) port b.Bye ≡ (all_set (marked desk.byes (leaver_in (put_by (actor_of by) b.Bye))) && not (all_set desk.byes))
bye_last grows tell shape publishers journal len capacity desk port by actor kept =
    last_is grows tell shape journal port b.Bye
    ∙ ap (λ (a : Actor). all_set (marked (table_of shape (heard shape journal)).byes (leaver_in (put_by a b.Bye))) && not (all_set (table_of shape (heard shape journal)).byes)) (sym actor)
    ∙ ap (λ (flags : List Bool). all_set (marked flags (leaver_in (put_by (actor_of by) b.Bye))) && not (all_set flags)) (sym kept.stands.byes)

pub kept_bye : TableGrows → (shape : Shape) (publishers : ℕ) (journal : List (ℕ × BridgeNote)) (len capacity len' capacity' : ℕ) (desk desk' : Desk) (port : ℕ) (by : Putter)
    → actor_of by ≡ bridge_putter shape port → IsKept shape publishers journal len capacity desk → desk'.byes ≡ marked desk.byes (leaver_in (put_by (actor_of by) b.Bye)) → AllButByes desk desk'
    → (all_set desk'.byes ≡ false → len' < capacity') → IsKept shape publishers (journal ++ (port, b.Bye) ∷ []) len' capacity' desk'
kept_bye grows shape publishers journal len capacity len' capacity' desk desk' port by actor kept h rest room =
    kept_more grows shape publishers journal len capacity len' capacity' desk desk' port b.Bye kept
    (subst (λ (a : Actor). Stands (table_next shape (table_of shape (heard shape journal)) (put_by a b.Bye)) desk') actor
    (bye_stands shape (table_of shape (heard shape journal)) desk desk' by kept.stands h rest)) room

-- what the table says is put is what the bridge puts
pub puts_are : TableTells → (shape : Shape) (journal : List (ℕ × BridgeNote)) (port : ℕ) (by : Putter) (note : BridgeNote) → actor_of by ≡ bridge_putter shape port
    → table_puts shape (table_of shape (heard shape journal)) (put_by (actor_of by) note) ≡ bridge_puts_at shape journal (port, note)
puts_are tells shape journal port by note actor =
    ap (λ (a : Actor). table_puts shape (table_of shape (heard shape journal)) (put_by a note)) actor ∙ sym (tells shape journal (port, note))
