-- believed: What a bridge keeps, as a second definition over what it heard: a row for each live subscription and for each open
-- inbox, in order, which ids were there before, and who is done. What it puts is told by the rows alone.
use Rattle.std.specs.Prelude.{ℕ, suc, ◌-◌, Bool, true, false, not, ◌&&◌, ◌==◌, nat_lt, nat_le, List, [], ◌∷◌, ◌++◌, map, filter, Option, None, Some, slice_index, slice_set, replicate, if◌then◌else◌}
use Rattle.std.specs.List.{list_any, list_all, flat_map}
use Rattle.mama_msg.specs.Field.{FieldData}
use Rattle.mama_journal.specs.Journal.{numbers_below, least_free}
use Rattle.mama_link.specs.Link.{rest}
use Rattle.mama_event.specs.declared.ids.SubId.{SubId}
use Rattle.mama_event.specs.declared.ids.InboxId.{InboxId}
use Rattle.mama_event.specs.declared.ids.ObjectId.TheVariants.{Sub, Inbox}
use Rattle.mama_event.specs.declared.market.MarketMsg.{MarketMsg}
use Rattle.mama_event.specs.declared.market.MsgKind.TheVariants.{Recap}
use Rattle.mama_event.specs.declared.to_bridge.SubTerms.{SubTerms}
use Rattle.mama_event.specs.declared.to_bridge.InboxTerms.{InboxTerms}
use Rattle.mama_event.specs.declared.shape.Shape.{Shape}
use Rattle.mama_event.specs.declared.to_queue.Make.TheVariants as make
use Rattle.mama_event.specs.declared.to_publisher.PublisherNote.TheVariants as p
use Rattle.mama_event.specs.declared.to_timers.TimersNote.TheVariants as t
use Rattle.mama_event.specs.declared.to_queue.QueueNote.TheVariants as q
use Rattle.mama_event.specs.Ports.{clients_of, publishers_of, queues_of}
use Rattle.mama_event.specs.Object.{same_sub, same_inbox}
use Rattle.mama_event.specs.Arrival.{Arrival, ReplyArrival, arriving, answering, cut_arrival, cut_reply}
use Rattle.mama_event.specs.Noted.{delivered_note, replied_note}
use Rattle.mama_rules_services.specs.Bridge.{BridgeEvent, joins, leaves, opens, closes, asks, publishes, images, replies, wishes, client_done, sends_done, settled, bye, BridgePut, to_publisher, to_queue, to_timers, slot_on, to_first, wants_image, passed_on}

-- a live subscription: on what terms, in which slot, how many of its recap wishes were forwarded, and what went into its link
pub record SubRow : Type 0 where
  pub sub : SubId
  pub terms : SubTerms
  pub slot : ℕ
  pub wished : ℕ
  pub sent : List MarketMsg

-- an open inbox: on what terms, in which slot, and what went into its link
pub record InboxRow : Type 0 where
  pub inbox : InboxId
  pub terms : InboxTerms
  pub slot : ℕ
  pub sent : List (List FieldData)

-- the ids that ever joined and opened, the rows in order of joining and of opening, and which client, publisher and
-- queue said its last
pub record Table : Type 0 where
  pub joined : List SubId
  pub opened : List InboxId
  pub subs : List SubRow
  pub inboxes : List InboxRow
  pub clients : List Bool
  pub sends : List Bool
  pub settled : List Bool
  pub byes : List Bool

-- the table of a bridge that heard nothing
abbrev pub empty_table : Shape → Table
empty_table shape = record {
  joined = [];
  opened = [];
  subs = [];
  inboxes = [];
  clients = replicate (clients_of shape) false;
  sends = replicate (publishers_of shape) false;
  settled = replicate (publishers_of shape) false;
  byes = replicate (queues_of shape) false;
}

-- WHO IS DONE

abbrev pub all_set : List Bool → Bool
all_set flags = list_all (λ (flag : Bool). flag) flags

-- whose number an event says
abbrev pub client_in : BridgeEvent → Option ℕ
client_in (client_done c) = Some c
client_in _ = None

abbrev pub sender_in : BridgeEvent → Option ℕ
sender_in (sends_done r) = Some r
sender_in _ = None

abbrev pub settler_in : BridgeEvent → Option ℕ
settler_in (settled r) = Some r
settler_in _ = None

abbrev pub leaver_in : BridgeEvent → Option ℕ
leaver_in (bye k) = Some k
leaver_in _ = None

abbrev pub marked : List Bool → Option ℕ → List Bool
marked flags None = flags
marked flags (Some n) = slice_set flags n true

abbrev pub is_settling_by : List Bool → List Bool → Bool
is_settling_by clients sends = all_set clients && all_set sends

abbrev pub is_ended_by : List Bool → List Bool → List Bool → Bool
is_ended_by clients sends done = is_settling_by clients sends && all_set done

-- settling has begun
abbrev pub settling_now : Table → Bool
settling_now table = is_settling_by table.clients table.sends

-- the ending has come
abbrev pub ended_now : Table → Bool
ended_now table = is_ended_by table.clients table.sends table.settled

-- settling begins with this event
abbrev pub begins_settling : Table → BridgeEvent → Bool
begins_settling table e = is_settling_by (marked table.clients (client_in e)) (marked table.sends (sender_in e)) && not (settling_now table)

-- the ending comes with this event
abbrev pub begins_ending : Table → BridgeEvent → Bool
begins_ending table e =
    is_ended_by (marked table.clients (client_in e)) (marked table.sends (sender_in e)) (marked table.settled (settler_in e)) && not (ended_now table)

-- ROWS

abbrev pub of_sub : SubId → SubRow → Bool
of_sub s row = same_sub row.sub s

abbrev pub of_inbox : InboxId → InboxRow → Bool
of_inbox i row = same_inbox row.inbox i

-- whether an id joined, or opened, before
abbrev pub has_joined : SubId → Table → Bool
has_joined s table = list_any (λ (r : SubId). same_sub r s) table.joined

abbrev pub has_opened : InboxId → Table → Bool
has_opened i table = list_any (λ (r : InboxId). same_inbox r i) table.opened

-- the slots of a queue that rows have
abbrev pub sub_slots : ℕ → List SubRow → List ℕ
sub_slots queue rows = flat_map (λ (row : SubRow). slot_on queue (Some (row.terms.queue, row.slot))) rows

abbrev pub inbox_slots : ℕ → List InboxRow → List ℕ
inbox_slots queue rows = flat_map (λ (row : InboxRow). slot_on queue (Some (row.terms.queue, row.slot))) rows

-- the least slot of a queue that no row has
abbrev pub slot_for : ℕ → Table → ℕ
slot_for queue table = least_free (sub_slots queue table.subs ++ inbox_slots queue table.inboxes)

abbrev pub sub_passed : MarketMsg → SubRow → SubRow
sub_passed m row = record row { sent = row.sent ++ m ∷ [] }

abbrev pub inbox_passed : List FieldData → InboxRow → InboxRow
inbox_passed body row = record row { sent = row.sent ++ body ∷ [] }

-- whether a publisher sends a row's topic
abbrev pub is_on_topic_of : Shape → ℕ → SubRow → Bool
is_on_topic_of shape r row = slice_index shape.publisher_topics r == row.terms.topic

-- whether a row's wish for a recap of a sender is forwarded
abbrev pub may_ask : Shape → Bool → ℕ → SubRow → Bool
may_ask shape settling sender row =
    not settling && (nat_lt 0 sender && (nat_le sender (publishers_of shape) && nat_lt row.wished row.terms.recaps))

abbrev pub sub_wished : SubRow → SubRow
sub_wished row = record row { wished = suc row.wished }

-- WHAT THE ROWS PUT

abbrev pub sub_delivered : SubRow → List Arrival → List BridgePut
sub_delivered row arrivals = map (λ (a : Arrival). to_queue row.terms.queue (delivered_note row.slot row.sub a)) arrivals

abbrev pub inbox_replied : InboxRow → List ReplyArrival → List BridgePut
inbox_replied row arrivals = map (λ (a : ReplyArrival). to_queue row.terms.queue (replied_note row.slot row.inbox a)) arrivals

-- what comes out of a row's link where a message goes in
abbrev pub sub_emits : MarketMsg → SubRow → List BridgePut
sub_emits m row = sub_delivered row (passed_on cut_arrival row.terms.faults (arriving row.sent) (arriving (m ∷ [])))

abbrev pub inbox_emits : List FieldData → InboxRow → List BridgePut
inbox_emits body row = inbox_replied row (passed_on cut_reply row.terms.faults (answering row.sent) (answering (body ∷ [])))

-- the end of a row: what its link holds, and then its notice
abbrev pub sub_ends : SubRow → List BridgePut
sub_ends row = sub_delivered row (rest row.terms.faults (arriving row.sent)) ++ to_queue row.terms.queue (q.Gone row.slot (Sub row.sub)) ∷ []

abbrev pub inbox_ends : InboxRow → List BridgePut
inbox_ends row = inbox_replied row (rest row.terms.faults (answering row.sent)) ++ to_queue row.terms.queue (q.Gone row.slot (Inbox row.inbox)) ∷ []

abbrev pub sub_wishes : Shape → Bool → ℕ → SubRow → List BridgePut
sub_wishes shape settling sender row = if may_ask shape settling sender row then to_publisher (sender - 1) (p.Want row.sub Recap) ∷ [] else []

abbrev pub settles_all : Shape → List BridgePut
settles_all shape = map (λ (r : ℕ). to_publisher r p.Settle) (numbers_below (publishers_of shape))

-- the ending: each row's end, subscriptions first, and then Fin to all
abbrev pub ends_all : Shape → Table → List BridgePut
ends_all shape table =
    flat_map sub_ends table.subs ++ flat_map inbox_ends table.inboxes ++ to_timers t.Fin ∷ []
    ++ map (λ (k : ℕ). to_queue k q.Fin) (numbers_below (queues_of shape))
    ++ map (λ (r : ℕ). to_publisher r p.Fin) (numbers_below (publishers_of shape))

-- what an event puts that says someone is done
abbrev pub closing : Shape → Table → BridgeEvent → List BridgePut
closing shape table e =
    (if begins_settling table e then settles_all shape else []) ++ (if begins_ending table e then ends_all shape table else [])

-- what an event puts, by the rows
abbrev pub table_puts : Shape → Table → BridgeEvent → List BridgePut
table_puts shape table (joins s terms tag) =
    if has_joined s table then []
    else to_queue terms.queue (q.Create (slot_for terms.queue table) (Sub s) (make.Sub terms.kind terms.cache shape.strategy) tag) ∷ wants_image shape s terms.kind terms.topic
table_puts shape table (leaves s) = flat_map sub_ends (filter (of_sub s) table.subs)
table_puts shape table (opens i terms tag) =
    if has_opened i table then [] else to_queue terms.queue (q.Create (slot_for terms.queue table) (Inbox i) make.Inbox tag) ∷ []
table_puts shape table (closes i) = flat_map inbox_ends (filter (of_inbox i) table.inboxes)
table_puts shape table (asks i topic fids) =
    if list_any (of_inbox i) table.inboxes && not (settling_now table) then to_first shape topic (p.Ask i fids) else []
table_puts shape table (publishes r m) = flat_map (sub_emits m) (filter (is_on_topic_of shape r) table.subs)
table_puts shape table (images s m) = flat_map (sub_emits m) (filter (of_sub s) table.subs)
table_puts shape table (replies i body) = flat_map (inbox_emits body) (filter (of_inbox i) table.inboxes)
table_puts shape table (wishes s sender) = flat_map (sub_wishes shape (settling_now table) sender) (filter (of_sub s) table.subs)
table_puts shape table (client_done c) = closing shape table (client_done c)
table_puts shape table (sends_done r) = closing shape table (sends_done r)
table_puts shape table (settled r) = closing shape table (settled r)
table_puts shape table _ = []

-- HOW THE ROWS CHANGE

-- the rows where those that pass a test are changed
abbrev pub changed : {R : Type 0} → (R → Bool) → (R → R) → List R → List R
changed test change rows = map (λ row. if test row then change row else row) rows

-- the rows without those that pass a test
abbrev pub without : {R : Type 0} → (R → Bool) → List R → List R
without test rows = filter (λ row. not (test row)) rows

abbrev pub joined_next : Table → BridgeEvent → List SubId
joined_next table (joins s terms tag) = if has_joined s table then table.joined else table.joined ++ s ∷ []
joined_next table _ = table.joined

abbrev pub opened_next : Table → BridgeEvent → List InboxId
opened_next table (opens i terms tag) = if has_opened i table then table.opened else table.opened ++ i ∷ []
opened_next table _ = table.opened

-- no row outlives the ending
abbrev pub kept : {R : Type 0} → Bool → List R → List R
kept ends rows = if ends then [] else rows

abbrev pub new_sub : Table → SubId → SubTerms → SubRow
new_sub table s terms = record { sub = s; terms = terms; slot = slot_for terms.queue table; wished = 0; sent = [] }

abbrev pub new_inbox : Table → InboxId → InboxTerms → InboxRow
new_inbox table i terms = record { inbox = i; terms = terms; slot = slot_for terms.queue table; sent = [] }

abbrev pub subs_next : Shape → Table → BridgeEvent → List SubRow
subs_next shape table (joins s terms tag) =
    if has_joined s table then table.subs else table.subs ++ kept (ended_now table) (new_sub table s terms ∷ [])
subs_next shape table (leaves s) = without (of_sub s) table.subs
subs_next shape table (publishes r m) = changed (is_on_topic_of shape r) (sub_passed m) table.subs
subs_next shape table (images s m) = changed (of_sub s) (sub_passed m) table.subs
subs_next shape table (wishes s sender) = changed (λ row. of_sub s row && may_ask shape (settling_now table) sender row) sub_wished table.subs
subs_next shape table (client_done c) = kept (begins_ending table (client_done c)) table.subs
subs_next shape table (sends_done r) = kept (begins_ending table (sends_done r)) table.subs
subs_next shape table (settled r) = kept (begins_ending table (settled r)) table.subs
subs_next shape table _ = table.subs

abbrev pub inboxes_next : Table → BridgeEvent → List InboxRow
inboxes_next table (opens i terms tag) =
    if has_opened i table then table.inboxes else table.inboxes ++ kept (ended_now table) (new_inbox table i terms ∷ [])
inboxes_next table (closes i) = without (of_inbox i) table.inboxes
inboxes_next table (replies i body) = changed (of_inbox i) (inbox_passed body) table.inboxes
inboxes_next table (client_done c) = kept (begins_ending table (client_done c)) table.inboxes
inboxes_next table (sends_done r) = kept (begins_ending table (sends_done r)) table.inboxes
inboxes_next table (settled r) = kept (begins_ending table (settled r)) table.inboxes
inboxes_next table _ = table.inboxes

-- the table after one event more
abbrev pub table_next : Shape → Table → BridgeEvent → Table
table_next shape table e = record {
  joined = joined_next table e;
  opened = opened_next table e;
  subs = subs_next shape table e;
  inboxes = inboxes_next table e;
  clients = marked table.clients (client_in e);
  sends = marked table.sends (sender_in e);
  settled = marked table.settled (settler_in e);
  byes = marked table.byes (leaver_in e);
}

abbrev pub table_after : Shape → Table → List BridgeEvent → Table
table_after shape table [] = table
table_after shape table (e ∷ es) = table_after shape (table_next shape table e) es

-- the table of what a bridge heard
abbrev pub table_of : Shape → List BridgeEvent → Table
table_of shape es = table_after shape (empty_table shape) es
