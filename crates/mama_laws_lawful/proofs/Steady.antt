-- What the bridge puts before the ending ends no stream, and nothing of it goes to the timers.
use Rattle.std.specs.Prelude.{Ok, Err}
use Rattle.std.specs.List.{list_any, flat_map}
use Rattle.std.proofs.Common.{◌≡◌, Bool, true, false, not, ◌&&◌, cond, List, [], ◌∷◌, ◌++◌, filter, refl, sym, subst, append-nil}
use Rattle.mama_msg.specs.Field.{FieldData}
use Rattle.mama_link.specs.Link.{rest}
use Rattle.mama_event.specs.Arrival.{Arrival, ReplyArrival, arriving, answering, cut_arrival, cut_reply}
use Rattle.mama_event.specs.Noted.{delivered_note, replied_note}
use Rattle.mama_event.specs.declared.ids.ObjectId.TheVariants.{Sub, Inbox}
use Rattle.mama_event.specs.declared.market.MarketMsg.{MarketMsg}
use Rattle.mama_event.specs.declared.shape.Shape.{Shape}
use Rattle.mama_event.specs.declared.to_publisher.PublisherNote.TheVariants as p
use Rattle.mama_event.specs.declared.to_queue.Make.TheVariants as make
use Rattle.mama_event.specs.declared.to_queue.QueueNote.TheVariants as q
use Rattle.mama_rules_services.specs.Bridge.{BridgeEvent, joins, leaves, opens, closes, asks, publishes, images, replies, wishes, client_done, sends_done, settled, bye, no_event, BridgePut, to_publisher, to_queue, to_timers, to_first, wants_image, passed_on}
use Rattle.mama_laws_bridge.specs.Table.{SubRow, InboxRow, Table, of_sub, of_inbox, has_joined, has_opened, settling_now, begins_settling, begins_ending, slot_for, is_on_topic_of, sub_delivered, inbox_replied, sub_emits, inbox_emits, sub_ends, inbox_ends, settles_all, ends_all, closing, table_puts}
use Rattle.mama_laws_bridge.proofs.Lists.{Each, each_all, each_append, each_map, each_flat_map, each_weaker}
use Rattle.mama_laws_lawful.proofs.Silence.{is_silent, Silent, silent_first, silent_image, silent_if, silent_wishes, silent_settles}

-- a put that is neither a Fin nor to the timers
abbrev pub is_steady : BridgePut → Bool
is_steady (to_publisher r (p.Want sub kind)) = true
is_steady (to_publisher r (p.Ask inbox fids)) = true
is_steady (to_publisher r p.Settle) = true
is_steady (to_publisher r p.Fin) = false
is_steady (to_queue k (q.Create slot object make tag)) = true
is_steady (to_queue k (q.Deliver slot sub msg)) = true
is_steady (to_queue k (q.Reply slot inbox body)) = true
is_steady (to_queue k (q.Bad slot sub kind sender seq bytes)) = true
is_steady (to_queue k (q.BadReply slot inbox bytes)) = true
is_steady (to_queue k (q.Tick slot timer moment)) = true
is_steady (to_queue k (q.Gone slot object)) = true
is_steady (to_queue k q.Fin) = false
is_steady (to_timers note) = false

abbrev pub Steady : List BridgePut → Type 0
Steady puts = Each (λ (x : BridgePut). is_steady x ≡ true) puts

steady_one : (x : BridgePut) → is_silent x ≡ true → is_steady x ≡ true
steady_one (to_publisher r (p.Want sub kind)) h = refl
steady_one (to_publisher r (p.Ask inbox fids)) h = refl
steady_one (to_publisher r p.Settle) h = refl
steady_one (to_publisher r p.Fin) h = h
steady_one (to_queue k note) h = cc
steady_one (to_timers note) h = h

pub steady_silent : (puts : List BridgePut) → Silent puts → Steady puts
steady_silent puts h = each_weaker (λ (x : BridgePut). is_silent x ≡ true) (λ (x : BridgePut). is_steady x ≡ true) puts steady_one h

steady_arrival : (row : SubRow) (arrival : Arrival) → is_steady (to_queue row.terms.queue (delivered_note row.slot row.sub arrival)) ≡ true
steady_arrival row (Ok m) = refl
steady_arrival row (Err piece) = refl

steady_delivered : (row : SubRow) (arrivals : List Arrival) → Steady (sub_delivered row arrivals)
steady_delivered row arrivals =
    let to : Arrival → BridgePut = λ a. to_queue row.terms.queue (delivered_note row.slot row.sub a) in
    each_map (λ (x : BridgePut). is_steady x ≡ true) to arrivals (each_all (λ (a : Arrival). is_steady (to a) ≡ true) arrivals (steady_arrival row))

steady_answer : (row : InboxRow) (arrival : ReplyArrival) → is_steady (to_queue row.terms.queue (replied_note row.slot row.inbox arrival)) ≡ true
steady_answer row (Ok body) = refl
steady_answer row (Err bytes) = refl

steady_replied : (row : InboxRow) (arrivals : List ReplyArrival) → Steady (inbox_replied row arrivals)
steady_replied row arrivals =
    let to : ReplyArrival → BridgePut = λ a. to_queue row.terms.queue (replied_note row.slot row.inbox a) in
    each_map (λ (x : BridgePut). is_steady x ≡ true) to arrivals (each_all (λ (a : ReplyArrival). is_steady (to a) ≡ true) arrivals (steady_answer row))

pub steady_sub_ends : (rows : List SubRow) → Steady (flat_map sub_ends rows)
steady_sub_ends rows =
    each_flat_map (λ (x : BridgePut). is_steady x ≡ true) sub_ends rows
    (λ row. each_append (λ (x : BridgePut). is_steady x ≡ true) (sub_delivered row (rest row.terms.faults (arriving row.sent))) (to_queue row.terms.queue (q.Gone row.slot (Sub row.sub)) ∷ [])
    (steady_delivered row (rest row.terms.faults (arriving row.sent))) (refl, tt))

pub steady_inbox_ends : (rows : List InboxRow) → Steady (flat_map inbox_ends rows)
steady_inbox_ends rows =
    each_flat_map (λ (x : BridgePut). is_steady x ≡ true) inbox_ends rows
    (λ row. each_append (λ (x : BridgePut). is_steady x ≡ true) (inbox_replied row (rest row.terms.faults (answering row.sent))) (to_queue row.terms.queue (q.Gone row.slot (Inbox row.inbox)) ∷ [])
    (steady_replied row (rest row.terms.faults (answering row.sent))) (refl, tt))

steady_sub_emits : (m : MarketMsg) (rows : List SubRow) → Steady (flat_map (sub_emits m) rows)
steady_sub_emits m rows =
    each_flat_map (λ (x : BridgePut). is_steady x ≡ true) (sub_emits m) rows
    (λ row. steady_delivered row (passed_on cut_arrival row.terms.faults (arriving row.sent) (arriving (m ∷ []))))

steady_inbox_emits : (body : List FieldData) (rows : List InboxRow) → Steady (flat_map (inbox_emits body) rows)
steady_inbox_emits body rows =
    each_flat_map (λ (x : BridgePut). is_steady x ≡ true) (inbox_emits body) rows
    (λ row. steady_replied row (passed_on cut_reply row.terms.faults (answering row.sent) (answering (body ∷ []))))

steady_unless : (b : Bool) (puts : List BridgePut) → Steady puts → Steady (cond b [] puts)
steady_unless true puts h = tt
steady_unless false puts h = h

pub steady_settles : (shape : Shape) (b : Bool) → Steady (cond b (settles_all shape) [])
steady_settles shape b = steady_silent (cond b (settles_all shape) []) (silent_if b (settles_all shape) (silent_settles shape))

steady_closing : (shape : Shape) (table : Table) (e : BridgeEvent) → begins_ending table e ≡ false → Steady (closing shape table e)
steady_closing shape table e h =
    let settles : List BridgePut = cond (begins_settling table e) (settles_all shape) [] in
    subst (λ (b : Bool). Steady (settles ++ cond b (ends_all shape table) [])) (sym h)
    (subst Steady (sym (append-nil settles)) (steady_settles shape (begins_settling table e)))

-- what is put where the ending does not come
pub steady_puts : (shape : Shape) (table : Table) (e : BridgeEvent) → begins_ending table e ≡ false → Steady (table_puts shape table e)
steady_puts shape table (joins s terms tag) h =
    steady_unless (has_joined s table) (to_queue terms.queue (q.Create (slot_for terms.queue table) (Sub s) (make.Sub terms.kind terms.cache shape.strategy) tag) ∷ wants_image shape s terms.kind terms.topic)
    (refl, steady_silent (wants_image shape s terms.kind terms.topic) (silent_image shape s terms.kind terms.topic))
steady_puts shape table (leaves s) h = steady_sub_ends (filter (of_sub s) table.subs)
steady_puts shape table (opens i terms tag) h = steady_unless (has_opened i table) (to_queue terms.queue (q.Create (slot_for terms.queue table) (Inbox i) make.Inbox tag) ∷ []) (refl, tt)
steady_puts shape table (closes i) h = steady_inbox_ends (filter (of_inbox i) table.inboxes)
steady_puts shape table (asks i topic fids) h =
    steady_silent (table_puts shape table (asks i topic fids))
    (silent_if (list_any (of_inbox i) table.inboxes && not (settling_now table)) (to_first shape topic (p.Ask i fids)) (silent_first shape topic (p.Ask i fids) (λ r. refl)))
steady_puts shape table (publishes r m) h = steady_sub_emits m (filter (is_on_topic_of shape r) table.subs)
steady_puts shape table (images s m) h = steady_sub_emits m (filter (of_sub s) table.subs)
steady_puts shape table (replies i body) h = steady_inbox_emits body (filter (of_inbox i) table.inboxes)
steady_puts shape table (wishes s sender) h = steady_silent (table_puts shape table (wishes s sender)) (silent_wishes shape (settling_now table) sender (filter (of_sub s) table.subs))
steady_puts shape table (client_done c) h = steady_closing shape table (client_done c) h
steady_puts shape table (sends_done c) h = steady_closing shape table (sends_done c) h
steady_puts shape table (settled c) h = steady_closing shape table (settled c) h
steady_puts shape table (bye k) h = tt
steady_puts shape table no_event h = tt
