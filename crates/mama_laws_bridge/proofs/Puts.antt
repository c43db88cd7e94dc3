-- Of what is put, only a Create places an object, and only a forwarded wish counts as one.
use Rattle.std.specs.Prelude.{position}
use Rattle.std.specs.List.{flat_map}
use Rattle.std.proofs.Common.{◌≡◌, ℕ, ◌==◌, Bool, true, false, cond, List, [], ◌∷◌, ◌++◌, map, Option, None, Some, Ok, Err, refl}
use Rattle.mama_msg.specs.Field.{FieldData}
use Rattle.mama_journal.specs.Journal.{count_of, first_said, numbers_below}
use Rattle.mama_event.specs.declared.ids.SubId.{SubId}
use Rattle.mama_event.specs.declared.ids.ObjectId.{ObjectId}
use Rattle.mama_event.specs.declared.ids.ObjectId.TheVariants.{Sub, Inbox}
use Rattle.mama_event.specs.declared.market.MarketMsg.{MarketMsg}
use Rattle.mama_event.specs.declared.market.MsgKind.TheVariants.{Initial, Update, Recap}
use Rattle.mama_event.specs.declared.market.SubKind.{SubKind}
use Rattle.mama_event.specs.declared.market.SubKind.TheVariants.{Market, Snapshot, Basic}
use Rattle.mama_event.specs.declared.shape.Shape.{Shape}
use Rattle.mama_event.specs.declared.to_publisher.PublisherNote.{PublisherNote}
use Rattle.mama_event.specs.declared.to_publisher.PublisherNote.TheVariants as p
use Rattle.mama_event.specs.declared.to_timers.TimersNote.TheVariants as t
use Rattle.mama_event.specs.declared.to_queue.QueueNote.TheVariants as q
use Rattle.mama_event.specs.Ports.{publishers_of, queues_of}
use Rattle.mama_link.specs.Link.{rest}
use Rattle.mama_event.specs.Arrival.{Arrival, ReplyArrival, arriving, answering, cut_arrival, cut_reply}
use Rattle.mama_event.specs.Noted.{delivered_note, replied_note}
use Rattle.mama_event.specs.declared.ids.InboxId.{InboxId}
use Rattle.mama_rules_services.specs.Bridge.{BridgeEvent, BridgePut, to_publisher, to_queue, to_timers, created_in, to_found, to_first, wants_image, passed_on, is_recap_want}
use Rattle.mama_laws_bridge.specs.Table.{SubRow, InboxRow, Table, begins_settling, begins_ending, sub_delivered, inbox_replied, sub_emits, inbox_emits, sub_ends, inbox_ends, settles_all, ends_all, closing}
use Rattle.mama_laws_bridge.proofs.Lists.{Each, each_all, each_append, each_map, each_flat_map}

-- neither a Create nor a forwarded wish
abbrev pub plain : BridgePut → Bool
plain (to_publisher r (p.Want s Recap)) = false
plain (to_queue k (q.Create slot o made tag)) = false
plain _ = true

abbrev pub Plain : List BridgePut → Type 0
Plain puts = Each (λ (x : BridgePut). plain x ≡ true) puts

no_place : (o : ObjectId) (x : BridgePut) → plain x ≡ true → created_in o x ≡ None
no_place o (to_publisher r note) h = refl
no_place o (to_timers note) h = refl
no_place o (to_queue k (q.Create slot object made tag)) h = cc
no_place o (to_queue k (q.Deliver slot s m)) h = refl
no_place o (to_queue k (q.Reply slot i body)) h = refl
no_place o (to_queue k (q.Bad slot s kind sender seq bytes)) h = refl
no_place o (to_queue k (q.BadReply slot i bytes)) h = refl
no_place o (to_queue k (q.Tick slot timer moment)) h = refl
no_place o (to_queue k (q.Gone slot object)) h = refl
no_place o (to_queue k q.Fin) h = refl

no_wish : (s : SubId) (x : BridgePut) → plain x ≡ true → is_recap_want s x ≡ false
no_wish s (to_publisher r (p.Want u Initial)) h = refl
no_wish s (to_publisher r (p.Want u Update)) h = refl
no_wish s (to_publisher r (p.Want u Recap)) h = cc
no_wish s (to_publisher r (p.Ask i fids)) h = refl
no_wish s (to_publisher r p.Settle) h = refl
no_wish s (to_publisher r p.Fin) h = refl
no_wish s (to_queue k note) h = refl
no_wish s (to_timers note) h = refl

pub plain_places : (o : ObjectId) (puts : List BridgePut) → Plain puts → first_said (created_in o) puts ≡ None
plain_places o [] h = refl
plain_places o (x ∷ xs) h = let here = no_place o x h.0 in rw here (plain_places o xs h.1)

pub plain_wishes : (s : SubId) (puts : List BridgePut) → Plain puts → count_of (is_recap_want s) puts ≡ 0
plain_wishes s [] h = refl
plain_wishes s (x ∷ xs) h = let here = no_wish s x h.0 in rw here (plain_wishes s xs h.1)

plain_arrival : (queue slot : ℕ) (s : SubId) (a : Arrival) → plain (to_queue queue (delivered_note slot s a)) ≡ true
plain_arrival queue slot s (Ok m) = refl
plain_arrival queue slot s (Err piece) = refl

plain_answer : (queue slot : ℕ) (i : InboxId) (a : ReplyArrival) → plain (to_queue queue (replied_note slot i a)) ≡ true
plain_answer queue slot i (Ok body) = refl
plain_answer queue slot i (Err bytes) = refl

plain_delivered : (row : SubRow) (arrivals : List Arrival) → Plain (sub_delivered row arrivals)
plain_delivered row arrivals =
    each_map (λ (x : BridgePut). plain x ≡ true) (λ (a : Arrival). to_queue row.terms.queue (delivered_note row.slot row.sub a)) arrivals
    (each_all (λ (a : Arrival). plain (to_queue row.terms.queue (delivered_note row.slot row.sub a)) ≡ true) arrivals (plain_arrival row.terms.queue row.slot row.sub))

plain_replied : (row : InboxRow) (arrivals : List ReplyArrival) → Plain (inbox_replied row arrivals)
plain_replied row arrivals =
    each_map (λ (x : BridgePut). plain x ≡ true) (λ (a : ReplyArrival). to_queue row.terms.queue (replied_note row.slot row.inbox a)) arrivals
    (each_all (λ (a : ReplyArrival). plain (to_queue row.terms.queue (replied_note row.slot row.inbox a)) ≡ true) arrivals (plain_answer row.terms.queue row.slot row.inbox))

plain_sub_end : (row : SubRow) → Plain (sub_ends row)
plain_sub_end row =
    each_append (λ (x : BridgePut). plain x ≡ true) (sub_delivered row (rest row.terms.faults (arriving row.sent))) (to_queue row.terms.queue (q.Gone row.slot (Sub row.sub)) ∷ [])
    (plain_delivered row (rest row.terms.faults (arriving row.sent))) (refl, tt)

plain_inbox_end : (row : InboxRow) → Plain (inbox_ends row)
plain_inbox_end row =
    each_append (λ (x : BridgePut). plain x ≡ true) (inbox_replied row (rest row.terms.faults (answering row.sent))) (to_queue row.terms.queue (q.Gone row.slot (Inbox row.inbox)) ∷ [])
    (plain_replied row (rest row.terms.faults (answering row.sent))) (refl, tt)

pub plain_sub_emits : (m : MarketMsg) (rows : List SubRow) → Plain (flat_map (sub_emits m) rows)
plain_sub_emits m rows = each_flat_map (λ (x : BridgePut). plain x ≡ true) (sub_emits m) rows (λ row. plain_delivered row (passed_on cut_arrival row.terms.faults (arriving row.sent) (arriving (m ∷ []))))

pub plain_inbox_emits : (body : List FieldData) (rows : List InboxRow) → Plain (flat_map (inbox_emits body) rows)
plain_inbox_emits body rows = each_flat_map (λ (x : BridgePut). plain x ≡ true) (inbox_emits body) rows (λ row. plain_replied row (passed_on cut_reply row.terms.faults (answering row.sent) (answering (body ∷ []))))

pub plain_sub_ends : (rows : List SubRow) → Plain (flat_map sub_ends rows)
plain_sub_ends rows = each_flat_map (λ (x : BridgePut). plain x ≡ true) sub_ends rows plain_sub_end

pub plain_inbox_ends : (rows : List InboxRow) → Plain (flat_map inbox_ends rows)
plain_inbox_ends rows = each_flat_map (λ (x : BridgePut). plain x ≡ true) inbox_ends rows plain_inbox_end

plain_found : (found : Option ℕ) (note : PublisherNote) → ((r : ℕ) → plain (to_publisher r note) ≡ true) → Plain (to_found found note)
plain_found None note h = tt
plain_found (Some r) note h = (h r, tt)

pub plain_first : (shape : Shape) (topic : ℕ) (note : PublisherNote) → ((r : ℕ) → plain (to_publisher r note) ≡ true) → Plain (to_first shape topic note)
plain_first shape topic note h = plain_found (position (λ t. t == topic) shape.publisher_topics) note h

pub plain_image : (shape : Shape) (s : SubId) (kind : SubKind) (topic : ℕ) → Plain (wants_image shape s kind topic)
plain_image shape s Basic topic = tt
plain_image shape s Market topic = plain_first shape topic (p.Want s Initial) (λ r. refl)
plain_image shape s Snapshot topic = plain_first shape topic (p.Want s Initial) (λ r. refl)

pub plain_if : (b : Bool) (puts : List BridgePut) → Plain puts → Plain (cond b puts [])
plain_if true puts h = h
plain_if false puts h = tt

plain_numbers : (f : ℕ → BridgePut) (ns : List ℕ) → ((n : ℕ) → plain (f n) ≡ true) → Plain (map f ns)
plain_numbers f ns h = each_map (λ (x : BridgePut). plain x ≡ true) f ns (each_all (λ n. plain (f n) ≡ true) ns h)

plain_all_end : (shape : Shape) (table : Table) → Plain (ends_all shape table)
plain_all_end shape table =
    let P : BridgePut → Type 0 = λ (x : BridgePut). plain x ≡ true in
    let subs = flat_map sub_ends table.subs in
    let inboxes = flat_map inbox_ends table.inboxes in
    let queues : List BridgePut = map (λ k. to_queue k q.Fin) (numbers_below (queues_of shape)) in
    let publishers : List BridgePut = map (λ r. to_publisher r p.Fin) (numbers_below (publishers_of shape)) in
    let one = each_append P subs inboxes (plain_sub_ends table.subs) (plain_inbox_ends table.inboxes) in
    let two = each_append P (subs ++ inboxes) (to_timers t.Fin ∷ []) one (refl, tt) in
    let three = each_append P (subs ++ inboxes ++ to_timers t.Fin ∷ []) queues two (plain_numbers (λ k. to_queue k q.Fin) (numbers_below (queues_of shape)) (λ n. refl)) in
    each_append P (subs ++ inboxes ++ to_timers t.Fin ∷ [] ++ queues) publishers three (plain_numbers (λ r. to_publisher r p.Fin) (numbers_below (publishers_of shape)) (λ n. refl))

pub plain_closing : (shape : Shape) (table : Table) (e : BridgeEvent) → Plain (closing shape table e)
plain_closing shape table e =
    each_append (λ (x : BridgePut). plain x ≡ true) (cond (begins_settling table e) (settles_all shape) []) (cond (begins_ending table e) (ends_all shape table) [])
    (plain_if (begins_settling table e) (settles_all shape) (plain_numbers (λ r. to_publisher r p.Settle) (numbers_below (publishers_of shape)) (λ n. refl)))
    (plain_if (begins_ending table e) (ends_all shape table) (plain_all_end shape table))
