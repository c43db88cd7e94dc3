-- A legal record is one that a log can tell. What clients put is the script's, and so are the orders that queues put; so
-- the bridge names what is declared, whatever messages came; so publishers are asked as they may be, and their messages are
-- sound; so is all that queues take, call back and put.
use Rattle.std.specs.Prelude.{ℕ, zero, suc, ◌+◌, ◌^◌, ◌<◌, ◌≤◌, Bool, true, false, ◌==◌, List, [], ◌∷◌, map, length, slice_index_or, if◌then◌else◌}
use Rattle.std.specs.List.{All, AllByRecursion, flat_map}
use Rattle.std.proofs.Common.{refl, sym, subst, arith, get_or, ⊎_elim}
use Rattle.std.proofs.lemmas.Bool.{cases_lt}
use Rattle.std.proofs.lemmas.List.{get_or_past}
use Rattle.std.proofs.lemmas.List.Elements.{recursion_from_All, All-from_recursion, All-from_get_or}
use Rattle.mama_journal.specs.Lane.{by_port}
use Rattle.mama_event.specs.Ports.{clients_of, publishers_of, queues_of}
use Rattle.mama_event.specs.declared.ids.ObjectId.{ObjectId}
use Rattle.mama_event.specs.declared.ids.ObjectId.TheVariants.{Sub, Timer, Inbox}
use Rattle.mama_event.specs.declared.shape.Shape.{Shape}
use Rattle.mama_event.specs.declared.callback.CallNote.{CallNote}
use Rattle.mama_event.specs.declared.to_bridge.BridgeNote.{BridgeNote}
use Rattle.mama_event.specs.declared.to_bridge.BridgeNote.TheVariants as b
use Rattle.mama_event.specs.declared.to_timers.TimersNote.{TimersNote}
use Rattle.mama_event.specs.declared.to_timers.TimersNote.TheVariants as t
use Rattle.mama_event.specs.declared.to_queue.QueueNote.{QueueNote}
use Rattle.mama_event.specs.declared.to_queue.QueueNote.TheVariants as q
use Rattle.mama_event.specs.declared.publisher_entry.PublisherEntry.{PublisherEntry}
use Rattle.mama_event.specs.declared.publisher_entry.PublisherEntry.TheVariants as entry
use Rattle.mama_rules_services.specs.Ports.{Putter, ByClient, ByPublisher, ByQueue, ByBridge, ByTimers, ByNobody, bridge_putter, timers_putter, queue_putter}
use Rattle.mama_rules_services.specs.Bridge.{BridgeEvent, joins, opens, no_event, put_by, heard, BridgePut, to_publisher, to_queue, to_timers, bridge_puts}
use Rattle.mama_rules_services.specs.Timers.{TimersEvent, arms, timers_puts}
use Rattle.mama_rules_services.specs.Timers as timing
use Rattle.mama_rules_queue.specs.Queue.{QueuePut, calls_of, deeds}
use Rattle.mama_rules_queue.specs.Queue as queue
use Rattle.mama_rules_queue.specs.Group.{group_notes}
use Rattle.mama_rules_queue.specs.Watch.{watch_notes}
use Rattle.mama_script.specs.Script.{ScriptData}
use Rattle.mama_script.specs.Tree.{IsScript, script_text}
use Rattle.mama_script.specs.Within.{IsWithin}
use Rattle.mama_record.specs.RunData.{RunData}
use Rattle.mama_rules_rounds.specs.Client.{Planned, bridge_part, timers_part}
use Rattle.mama_rules_rounds.specs.Setting.{Setting, Grouped, Watched, no_section, orders_by, rows_on, publisher_part, queue_part, timer_part}
use Rattle.mama_rules_rounds.specs.Sections.{setting_of}
use Rattle.mama_rules_rounds.specs.Told.{object_calls, noted, last_image, group_told, watch_told}
use Rattle.mama_rules_legal.specs.Form.{IsFormed}
use Rattle.mama_rules_legal.specs.Legal.{IsLegal}
use Rattle.mama_rules_legal.specs.Edges.{AreEdges, client_puts, queue_puts, put_on_bridge, put_on_timers, put_on_queue, taken_by}
use Rattle.mama_laws_legal.proofs.AllSent.{count_publishers}
use Rattle.mama_laws_legal.proofs.Putters.{by_bridge_port, by_timers_port}
use Rattle.mama_log_line.specs.Names.{NamesData, names_of}
use Rattle.mama_log_line.specs.Entering.{IsPublisherNote, MayEnterPublisher, BridgeFromClient, BridgeFromPublisher, BridgeFromQueue, BridgeFrom, MayEnterBridge, TimersFromClient, TimersFromQueue, TimersFromBridge, TimersFrom, MayEnterTimers, IsLinked, IsTimed, QueueFromBridge, QueueFromTimers, QueueFrom, MayEnterQueue, MayOrder, MayHearGroup, MayNote, IsLastImage}
use Rattle.mama_log_read.specs.Logged.{IsMoment, MayCall, MayHearAll, MayHearNotes, MayNoteAll, IsLogged}
use Rattle.mama_laws_genuine.proofs.Elements.{all_if, all_flat_map, all_map, all_mapped, all_any, all_weaker, all_by_port, all_by_ports}
use Rattle.mama_laws_genuine.proofs.Lines.{length-publishers}
use Rattle.mama_laws_logged.specs.Telling.{AreMoments, LegalRecordsAreLogged}
use Rattle.mama_laws_logged.proofs.Fits.{IsObject, Arrives, IsAnswered, IsPlan, IsSender, ClientPut, PublisherPut, IsWatch, QueuePutFits, OrderNote, OrderPut, Names, IsFin, Places, LinkPut, Any, AnyReply, Arms, Takes, IsCall}
use Rattle.mama_laws_logged.proofs.Few.{IsFew, names_few}
use Rattle.mama_laws_logged.proofs.SlotsFit.{free_slot_small}
use Rattle.mama_laws_logged.proofs.ClientsFit.{clients_fit}
use Rattle.mama_laws_logged.proofs.PlansFit.{objects_fit, orders_fit}
use Rattle.mama_laws_logged.proofs.SendersFit.{senders_fit, publisher_fits}
use Rattle.mama_laws_logged.proofs.Fronts.{front_broken, arrives_cut, answered_cut}
use Rattle.mama_laws_logged.proofs.BridgeFits.{Sends, any_sends, bridge_fits}
use Rattle.mama_laws_logged.proofs.TimersFit.{timers_fit}
use Rattle.mama_laws_logged.proofs.QueuesFit.{calls_fit, images_fit}
use Rattle.mama_laws_logged.proofs.WatchesFit.{watches_fit, rows_on_fit}
use Rattle.mama_laws_logged.proofs.ListsFit.{group_fits, watch_fits, queue_fits, orders_put}

at_place : {X : Type 0} (P : X → Type 0) (xs : List X) (n : ℕ) (x : X) → n < length xs → AllByRecursion P xs → P (get_or xs n x)
at_place P [] n x within all = absurd (omega arith)
at_place P (y ∷ xs) zero x within all = all.0
at_place P (y ∷ xs) (suc n) x within all = at_place P xs n x (omega arith) all.1

-- ---- notes, and who puts them

module _ (names : NamesData) where
  linked_object : (o : ObjectId) → IsLinked names o → IsObject names o
  linked_object (Sub id) h = h
  linked_object (Timer id) h = absurd h
  linked_object (Inbox id) h = h

  timed_object : (o : ObjectId) → IsTimed names o → IsObject names o
  timed_object (Sub id) h = absurd h
  timed_object (Timer id) h = h
  timed_object (Inbox id) h = absurd h

  bridge_of_client : (put : QueuePut) → ClientPut names put → AllByRecursion (BridgeFromClient names) (bridge_part put)
  bridge_of_client (queue.to_bridge note) h = (h, tt)
  bridge_of_client (queue.to_timers note) h = tt

  timers_of_client : (put : QueuePut) → ClientPut names put → AllByRecursion (TimersFromClient names) (timers_part put)
  timers_of_client (queue.to_bridge note) h = tt
  timers_of_client (queue.to_timers note) h = (h, tt)

  bridge_of_orders : (put : QueuePut) → OrderPut names put → AllByRecursion (OrderNote names) (bridge_part put)
  bridge_of_orders (queue.to_bridge note) h = (h, tt)
  bridge_of_orders (queue.to_timers note) h = tt

  bridge_of_queue : (put : QueuePut) → QueuePutFits names put → AllByRecursion (BridgeFromQueue names) (bridge_part put)
  bridge_of_queue (queue.to_bridge note) h = (h, tt)
  bridge_of_queue (queue.to_timers note) h = tt

  timers_of_queue : (put : QueuePut) → QueuePutFits names put → AllByRecursion (TimersFromQueue names) (timers_part put)
  timers_of_queue (queue.to_bridge note) h = tt
  timers_of_queue (queue.to_timers note) h = (h, tt)

  timers_of_bridge : (put : BridgePut) → LinkPut names Any AnyReply put → AllByRecursion TimersFromBridge (timer_part put)
  timers_of_bridge (to_publisher n note) h = tt
  timers_of_bridge (to_queue k note) h = tt
  timers_of_bridge (to_timers note) h = (fin_alone note h, tt)
    where
      fin_alone : (note : TimersNote) → IsFin note → TimersFromBridge note
      fin_alone t.Fin h = tt
      fin_alone _ h = absurd h

  asked_part : (n : ℕ) (put : BridgePut) → LinkPut names Any AnyReply put → AllByRecursion (IsPublisherNote names) (publisher_part n put)
  asked_part n (to_publisher m note) h = all_if (IsPublisherNote names) (m == n) (note ∷ []) [] (h, tt) tt
  asked_part n (to_queue k note) h = tt
  asked_part n (to_timers note) h = tt

  -- ---- what the bridge hears, where messages and wishes may be any

  abbrev Noted : Putter → BridgeNote → Type 0
  Noted (ByClient c) note = BridgeFromClient names note
  Noted (ByPublisher n) note = Unit {0}
  Noted (ByQueue k) note = OrderNote names note
  Noted _ note = ⊥

  names_if : (c : Bool) (e f : BridgeEvent) → Names names e → Names names f → Names names (if c then e else f)
  names_if true e f one two = one
  names_if false e f one two = two

  client_names : (c : ℕ) (note : BridgeNote) → BridgeFromClient names note → Names names (put_by (ByClient c) note)
  client_names c (b.Join sub terms tag) h = names_if (sub.client == c) (joins sub terms tag) no_event h tt
  client_names c (b.OpenInbox inbox terms tag) h = names_if (inbox.client == c) (opens inbox terms tag) no_event h tt
  client_names c (b.Ask inbox topic fids) h = (h.0, h.2)
  client_names c _ h = tt

  publisher_names : (n : ℕ) (note : BridgeNote) → Names names (put_by (ByPublisher n) note)
  publisher_names n (b.Publish msg) = tt
  publisher_names n _ = tt

  queue_names : (k : ℕ) (note : BridgeNote) → OrderNote names note → Names names (put_by (ByQueue k) note)
  queue_names k (b.Ask inbox topic fids) h = (h.0, h.2)
  queue_names k _ h = tt

  heard_names : (who : Putter) (note : BridgeNote) → Noted who note → Names names (put_by who note)
  heard_names (ByClient c) note h = client_names c note h
  heard_names (ByPublisher n) note h = publisher_names n note
  heard_names (ByQueue k) note h = queue_names k note h
  heard_names _ note h = absurd h

  -- ---- where publishers' messages are sound

  abbrev Told : Putter → BridgeNote → Type 0
  Told (ByClient c) note = BridgeFromClient names note
  Told (ByPublisher n) note = PublisherPut names note
  Told (ByQueue k) note = OrderNote names note
  Told _ note = ⊥

  abbrev SendsSound : BridgeEvent → Type 0
  SendsSound = Sends (Arrives names.nums) (IsAnswered names.nums) names.shape

  sound_if : (c : Bool) (e f : BridgeEvent) → SendsSound e → SendsSound f → SendsSound (if c then e else f)
  sound_if true e f one two = one
  sound_if false e f one two = two

  client_sound : (c : ℕ) (note : BridgeNote) → SendsSound (put_by (ByClient c) note)
  client_sound c (b.Join sub terms tag) = sound_if (sub.client == c) (joins sub terms tag) no_event tt tt
  client_sound c (b.OpenInbox inbox terms tag) = sound_if (inbox.client == c) (opens inbox terms tag) no_event tt tt
  client_sound c _ = tt

  publisher_sound : (n : ℕ) (note : BridgeNote) → PublisherPut names note → SendsSound (put_by (ByPublisher n) note)
  publisher_sound n (b.Publish msg) h = h
  publisher_sound n (b.Image sub msg) h = h.1
  publisher_sound n (b.Reply inbox body) h = h.1
  publisher_sound n _ h = tt

  queue_sound : (k : ℕ) (note : BridgeNote) → SendsSound (put_by (ByQueue k) note)
  queue_sound k (b.Join sub terms tag) = tt
  queue_sound k _ = tt

  -- what the bridge hears names what is declared, and its messages are sound
  heard_sound : (who : Putter) (note : BridgeNote) → Told who note → Names names (put_by who note) × SendsSound (put_by who note)
  heard_sound (ByClient c) note h = (client_names c note h, client_sound c note)
  heard_sound (ByPublisher n) note h = (publisher_names n note, publisher_sound n note h)
  heard_sound (ByQueue k) note h = (queue_names k note h, queue_sound k note)
  heard_sound _ note h = absurd h

  from_publisher : (note : BridgeNote) → PublisherPut names note → BridgeFromPublisher names note
  from_publisher (b.Publish msg) h = h.msg
  from_publisher (b.Image sub msg) h = (h.0, h.1.msg)
  from_publisher (b.Reply inbox body) h = h
  from_publisher b.SendsDone h = tt
  from_publisher b.Settled h = tt
  from_publisher _ h = absurd h

  -- ---- what queues take

  from_bridge : (note : QueueNote) → Places names (Arrives names.nums) (IsAnswered names.nums) note → QueueFromBridge names note × Takes names note
  from_bridge (q.Create slot object make tag) h = (h, linked_object object h.1)
  from_bridge (q.Deliver slot sub msg) h = ((h.0, h.1, h.2.msg), (h.1, h.2))
  from_bridge (q.Reply slot inbox body) h = (h, (h.1, h.2))
  from_bridge (q.Bad slot sub kind sender seq bytes) h = ((h.0, h.1, h.2.sender, h.2.seq, front_broken names.nums bytes h.2.front), h.1)
  from_bridge (q.BadReply slot inbox bytes) h = ((h.0, h.1, front_broken names.nums bytes h.2), h.1)
  from_bridge (q.Tick slot timer moment) h = absurd h
  from_bridge (q.Gone slot object) h = (h, linked_object object h.1)
  from_bridge q.Fin h = (tt, tt)

  bridge_brings : (k : ℕ) (put : BridgePut) → LinkPut names (Arrives names.nums) (IsAnswered names.nums) put
      → AllByRecursion (λ (note : QueueNote). QueueFromBridge names note × Takes names note) (queue_part k put)
  bridge_brings k (to_publisher n note) h = tt
  bridge_brings k (to_queue m note) h =
      all_if (λ (note : QueueNote). QueueFromBridge names note × Takes names note) (m == k) (note ∷ []) [] (from_bridge note h, tt) tt
  bridge_brings k (to_timers note) h = tt

  from_timers : (note : QueueNote) → QueueFromTimers names note → QueueFromTimers names note × Takes names note
  from_timers (q.Create slot object make tag) h = (h, timed_object object h.1)
  from_timers (q.Tick slot timer moment) h = (h, (h.1, h.2))
  from_timers (q.Gone slot object) h = (h, timed_object object h.1)
  from_timers q.Fin h = (h, tt)
  from_timers (q.Deliver slot sub msg) h = absurd h
  from_timers (q.Reply slot inbox body) h = absurd h
  from_timers (q.Bad slot sub kind sender seq bytes) h = absurd h
  from_timers (q.BadReply slot inbox bytes) h = absurd h

  -- ---- what the timer service hears

  arms_if : (c : Bool) (e f : TimersEvent) → Arms names e → Arms names f → Arms names (if c then e else f)
  arms_if true e f one two = one
  arms_if false e f one two = two

  client_arms : (c : ℕ) (note : TimersNote) → TimersFromClient names note → Arms names (timing.put_by (ByClient c) note)
  client_arms c (t.Arm timer queue interval tag) h = arms_if (timer.client == c) (arms timer queue interval tag) timing.no_event (h.0, h.2) tt
  client_arms c _ h = tt

  queue_arms : (k : ℕ) (note : TimersNote) → Arms names (timing.put_by (ByQueue k) note)
  queue_arms k t.Bye = tt
  queue_arms k _ = tt

  bridge_arms : (note : TimersNote) → Arms names (timing.put_by ByBridge note)
  bridge_arms t.Fin = tt
  bridge_arms _ = tt

  heard_arms : (who : Putter) (note : TimersNote) → TimersFrom names who note → Arms names (timing.put_by who note)
  heard_arms (ByClient c) note h = client_arms c note h
  heard_arms (ByQueue k) note h = queue_arms k note
  heard_arms ByBridge note h = bridge_arms note
  heard_arms _ note h = absurd h

  -- ---- entries and callbacks

  publisher_enters : (journal : List PublisherEntry) → AllByRecursion (IsPublisherNote names) (taken_by journal) → AllByRecursion (MayEnterPublisher names) journal
  publisher_enters [] all = tt
  publisher_enters (entry.Send ∷ journal) all = (tt, publisher_enters journal all)
  publisher_enters (entry.Done ∷ journal) all = (tt, publisher_enters journal all)
  publisher_enters (entry.Took note ∷ journal) all = (all.0, publisher_enters journal all.1)

  may_call : (o : ObjectId) (n : CallNote) → IsCall names o n.call n.orders → MayCall names o n
  may_call o n h = record { call = h.call; orders = All-from_recursion (MayOrder names) n.orders h.orders; few = h.few }

-- ---- a record

module _ (script : ScriptData) (is : IsScript script) (within : IsWithin script) (short : length (script_text script) ≤ 67108864)
    (run : RunData) (moments : AreMoments run.clients) (legal : IsLegal script run) where
  abbrev names : NamesData
  names = names_of script

  abbrev shape : Shape
  shape = script.shape

  abbrev setting : Setting
  setting = setting_of script

  edges : AreEdges script run
  edges = legal.edges

  few : IsFew names
  few = names_few script is within

  orders : (o : ObjectId) (call : ℕ) → AllByRecursion (MayOrder names) (orders_by setting o call) × (length (orders_by setting o call) ≤ 8)
  orders = orders_fit script is within

  -- there are few actors, so ports have small numbers
  ports_few : clients_of shape + publishers_of shape + queues_of shape ≤ 2000
  ports_few =
      let clients : clients_of shape ≤ 64 = subst (λ (n : ℕ). n ≤ 64) (sym is.shaped.clients) within.clients_few in
      let publishers : publishers_of shape ≤ 1024 = subst (λ (n : ℕ). n ≤ 1024) (sym (count_publishers script is.shaped)) within.publishers_few in
      let queues : queues_of shape ≤ 64 = within.queues_few in
      omega (arith, clients, publishers, queues)

  there : (n : ℕ) → n < publishers_of shape → n < length script.publishers
  there n inside = subst (λ (k : ℕ). n < k) (count_publishers script is.shaped) inside

  -- ---- clients, and the orders of queues

  client_put : (c : ℕ) → AllByRecursion (ClientPut names) (client_puts script run.clients c)
  client_put c =
      clients_fit script is within run.clients
      (all_weaker (All IsMoment) (AllByRecursion IsMoment) (recursion_from_All IsMoment) run.clients (recursion_from_All (All IsMoment) run.clients moments)) c

  client_bridge : (c : ℕ) → AllByRecursion (BridgeFromClient names) (flat_map bridge_part (client_puts script run.clients c))
  client_bridge c = all_flat_map (ClientPut names) (BridgeFromClient names) bridge_part (bridge_of_client names) (client_puts script run.clients c) (client_put c)

  abbrev journal_of : ℕ → List (ℕ × QueueNote)
  journal_of k = slice_index_or run.queues k []

  order_bridge : (k : ℕ) → AllByRecursion (OrderNote names) (flat_map bridge_part (queue_puts setting k (journal_of k)))
  order_bridge k =
      all_flat_map (OrderPut names) (OrderNote names) bridge_part (bridge_of_orders names) (queue_puts setting k (journal_of k))
      (orders_put names (orders_by setting) orders (rows_on k setting.watches) (journal_of k))

  -- ---- what the bridge took, for the names alone

  abbrev on_bridge : Putter → List BridgeNote
  on_bridge who = put_on_bridge setting (client_puts script run.clients) run.publishers run.queues who

  all_noted : (who : Putter) → AllByRecursion (Noted names who) (on_bridge who)
  all_noted (ByClient c) = client_bridge c
  all_noted (ByPublisher n) = all_any (Noted names (ByPublisher n)) (λ note. tt) (on_bridge (ByPublisher n))
  all_noted (ByQueue k) = order_bridge k
  all_noted ByBridge = tt
  all_noted ByTimers = tt
  all_noted ByNobody = tt

  noted_bridge : AllByRecursion (λ (e : ℕ × BridgeNote). Noted names (bridge_putter shape e.0) e.1) run.bridge
  noted_bridge =
      all_by_ports (λ port note. Noted names (bridge_putter shape port) note) run.bridge
      (λ port. subst (AllByRecursion (Noted names (bridge_putter shape port))) (sym (edges.bridge port)) (all_noted (bridge_putter shape port)))

  linked : AllByRecursion (LinkPut names Any AnyReply) (bridge_puts shape run.bridge)
  linked =
      bridge_fits names shape refl (free_slot_small names few shape) Any (λ keep a h. tt) AnyReply (λ keep a h. tt) (heard shape run.bridge)
      (all_map (λ (e : ℕ × BridgeNote). Noted names (bridge_putter shape e.0) e.1) (λ (e : BridgeEvent). Names names e × Sends Any AnyReply shape e)
      (λ (e : ℕ × BridgeNote). put_by (bridge_putter shape e.0) e.1)
      (λ e h. (heard_names names (bridge_putter shape e.0) e.1 h, any_sends shape (put_by (bridge_putter shape e.0) e.1))) run.bridge noted_bridge)

  -- ---- publishers

  asked : (n : ℕ) → n < length script.publishers → AllByRecursion (IsPublisherNote names) (taken_by (slice_index_or run.publishers n []))
  asked n inside =
      subst (AllByRecursion (IsPublisherNote names)) (sym (edges.publishers n inside))
      (all_flat_map (LinkPut names Any AnyReply) (IsPublisherNote names) (publisher_part n) (asked_part names n) (bridge_puts shape run.bridge) linked)

  sender : (n : ℕ) → n < length script.publishers → IsSender names.nums (slice_index_or setting.publishers n no_section)
  sender n inside =
      at_place (IsSender names.nums) setting.publishers n no_section (subst (λ (k : ℕ). n < k) (sym (length-publishers 0 script.publishers)) inside) (senders_fit script is within short)

  published : (n : ℕ) → n < length script.publishers → AllByRecursion (PublisherPut names) (on_bridge (ByPublisher n))
  published n inside = publisher_fits names (slice_index_or setting.publishers n no_section) (sender n inside) (slice_index_or run.publishers n []) (asked n inside)

  publishers_enter : All (All (MayEnterPublisher names)) run.publishers
  publishers_enter =
      All-from_get_or (All (MayEnterPublisher names)) run.publishers []
      (λ n inside. All-from_recursion (MayEnterPublisher names) (slice_index_or run.publishers n [])
      (publisher_enters names (slice_index_or run.publishers n []) (asked n (subst (λ (k : ℕ). n < k) legal.shaped.publishers inside))))

  -- ---- what the bridge took and put, with its messages

  all_told : (port : ℕ) → AllByRecursion (Told names (bridge_putter shape port)) (on_bridge (bridge_putter shape port))
  all_told port = by_bridge_port shape (λ port who. AllByRecursion (Told names who) (on_bridge who))
      (λ c inside. client_bridge c) (λ n inside. published n (there n inside)) (λ k inside. order_bridge k) (λ n past. tt) port

  told_bridge : AllByRecursion (λ (e : ℕ × BridgeNote). Told names (bridge_putter shape e.0) e.1) run.bridge
  told_bridge =
      all_by_ports (λ port note. Told names (bridge_putter shape port) note) run.bridge
      (λ port. subst (AllByRecursion (Told names (bridge_putter shape port))) (sym (edges.bridge port)) (all_told port))

  passed : AllByRecursion (LinkPut names (Arrives names.nums) (IsAnswered names.nums)) (bridge_puts shape run.bridge)
  passed =
      bridge_fits names shape refl (free_slot_small names few shape) (Arrives names.nums) (arrives_cut names.nums) (IsAnswered names.nums) (answered_cut names.nums) (heard shape run.bridge)
      (all_map (λ (e : ℕ × BridgeNote). Told names (bridge_putter shape e.0) e.1) (λ (e : BridgeEvent). Names names e × SendsSound names e)
      (λ (e : ℕ × BridgeNote). put_by (bridge_putter shape e.0) e.1)
      (λ e h. heard_sound names (bridge_putter shape e.0) e.1 h) run.bridge told_bridge)

  -- ---- the timer service

  order_timers : (k : ℕ) → AllByRecursion (TimersFromQueue names) (flat_map timers_part (queue_puts setting k (journal_of k)))
  order_timers k =
      all_flat_map (OrderPut names) (TimersFromQueue names) timers_part (timers_of_orders) (queue_puts setting k (journal_of k))
      (orders_put names (orders_by setting) orders (rows_on k setting.watches) (journal_of k))
    where
      timers_of_orders : (put : QueuePut) → OrderPut names put → AllByRecursion (TimersFromQueue names) (timers_part put)
      timers_of_orders (queue.to_bridge note) h = tt
      timers_of_orders (queue.to_timers note) h = (h, tt)

  abbrev on_timers : Putter → List TimersNote
  on_timers who = put_on_timers setting (client_puts script run.clients) run.queues run.bridge who

  abbrev TimersBy : ℕ → Putter → TimersNote → Type 0
  TimersBy port who note = (port < 2 ^ 32) × TimersFrom names who note

  low_timers : (port : ℕ) (who : Putter) → port < 2 ^ 32 → (notes : List TimersNote) → AllByRecursion (TimersFrom names who) notes → AllByRecursion (TimersBy port who) notes
  low_timers port who low notes all = all_weaker (TimersFrom names who) (TimersBy port who) (λ note h. (low, h)) notes all

  all_timers : (port : ℕ) → AllByRecursion (TimersBy port (timers_putter shape port)) (on_timers (timers_putter shape port))
  all_timers port = by_timers_port shape (λ port who. AllByRecursion (TimersBy port who) (on_timers who))
      (λ c inside. low_timers c (ByClient c) (omega (arith, ports_few)) (on_timers (ByClient c))
      (all_flat_map (ClientPut names) (TimersFromClient names) timers_part (timers_of_client names) (client_puts script run.clients c) (client_put c)))
      (λ k inside. low_timers (clients_of shape + k) (ByQueue k) (omega (arith, ports_few)) (on_timers (ByQueue k)) (order_timers k))
      (low_timers (clients_of shape + queues_of shape) ByBridge (omega (arith, ports_few)) (on_timers ByBridge)
      (all_flat_map (LinkPut names Any AnyReply) TimersFromBridge timer_part (timers_of_bridge names) (bridge_puts shape run.bridge) linked))
      (λ n past. tt) port

  timers_by : AllByRecursion (λ (e : ℕ × TimersNote). TimersBy e.0 (timers_putter shape e.0) e.1) run.timers
  timers_by =
      all_by_ports (λ port note. TimersBy port (timers_putter shape port) note) run.timers
      (λ port. subst (AllByRecursion (TimersBy port (timers_putter shape port))) (sym (edges.timers port)) (all_timers port))

  timed : AllByRecursion (λ (e : ℕ × QueueNote). QueueFromTimers names e.1) (timers_puts shape run.timers)
  timed =
      timers_fit names few shape (timing.heard shape run.timers)
      (all_map (λ (e : ℕ × TimersNote). TimersBy e.0 (timers_putter shape e.0) e.1) (Arms names) (λ (e : ℕ × TimersNote). timing.put_by (timers_putter shape e.0) e.1)
      (λ e h. heard_arms names (timers_putter shape e.0) e.1 h.1) run.timers timers_by)

  -- ---- queues

  abbrev Entered : Putter → QueueNote → Type 0
  Entered who note = QueueFrom names who note × Takes names note

  all_entered : (k : ℕ) (who : Putter) → AllByRecursion (Entered who) (put_on_queue shape run.bridge run.timers k who)
  all_entered k ByBridge =
      all_flat_map (LinkPut names (Arrives names.nums) (IsAnswered names.nums)) (Entered ByBridge) (queue_part k) (bridge_brings names k) (bridge_puts shape run.bridge) passed
  all_entered k ByTimers =
      all_weaker (QueueFromTimers names) (Entered ByTimers) (from_timers names) (by_port k (timers_puts shape run.timers))
      (all_by_port (QueueFromTimers names) k (timers_puts shape run.timers) timed)
  all_entered k (ByClient c) = tt
  all_entered k (ByPublisher n) = tt
  all_entered k (ByQueue m) = tt
  all_entered k ByNobody = tt

  entered : (k : ℕ) → k < queues_of shape → AllByRecursion (λ (e : ℕ × QueueNote). Entered (queue_putter e.0) e.1) (journal_of k)
  entered k inside =
      all_by_ports (λ port note. Entered (queue_putter port) note) (journal_of k)
      (λ port. subst (AllByRecursion (Entered (queue_putter port))) (sym (edges.queues k inside port)) (all_entered k (queue_putter port)))

  abbrev Taken : ℕ × QueueNote → Type 0
  Taken e = Takes names e.1

  taken : (k : ℕ) → AllByRecursion Taken (journal_of k)
  taken k =
      ⊎_elim
      (λ inside. all_weaker (λ (e : ℕ × QueueNote). Entered (queue_putter e.0) e.1) Taken (λ e h. h.1) (journal_of k) (entered k inside))
      (λ past. subst (AllByRecursion Taken) (sym (get_or_past run.queues k [] (subst (λ (n : ℕ). n ≤ k) (sym legal.shaped.queues) past))) tt)
      (cases_lt k (queues_of shape))

  queues_enter : All (All (MayEnterQueue names)) run.queues
  queues_enter =
      All-from_get_or (All (MayEnterQueue names)) run.queues []
      (λ k inside. All-from_recursion (MayEnterQueue names) (journal_of k)
      (all_weaker (λ (e : ℕ × QueueNote). Entered (queue_putter e.0) e.1) (MayEnterQueue names) (λ e h. h.0) (journal_of k)
      (entered k (subst (λ (n : ℕ). k < n) legal.shaped.queues inside))))

  -- ---- the bridge's journal, with the wishes

  abbrev BridgeBy : ℕ → Putter → BridgeNote → Type 0
  BridgeBy port who note = (port < 2 ^ 32) × BridgeFrom names who note

  low_bridge : (port : ℕ) (who : Putter) → port < 2 ^ 32 → (notes : List BridgeNote) → AllByRecursion (BridgeFrom names who) notes → AllByRecursion (BridgeBy port who) notes
  low_bridge port who low notes all = all_weaker (BridgeFrom names who) (BridgeBy port who) (λ note h. (low, h)) notes all

  all_bridge : (port : ℕ) → AllByRecursion (BridgeBy port (bridge_putter shape port)) (on_bridge (bridge_putter shape port))
  all_bridge port = by_bridge_port shape (λ port who. AllByRecursion (BridgeBy port who) (on_bridge who))
      (λ c inside. low_bridge c (ByClient c) (omega (arith, ports_few)) (on_bridge (ByClient c)) (client_bridge c))
      (λ n inside. low_bridge (clients_of shape + n) (ByPublisher n) (omega (arith, ports_few)) (on_bridge (ByPublisher n))
      (all_weaker (PublisherPut names) (BridgeFromPublisher names) (from_publisher names) (on_bridge (ByPublisher n)) (published n (there n inside))))
      (λ k inside. low_bridge (clients_of shape + publishers_of shape + k) (ByQueue k) (omega (arith, ports_few)) (on_bridge (ByQueue k))
      (all_flat_map (QueuePutFits names) (BridgeFromQueue names) bridge_part (bridge_of_queue names) (queue_puts setting k (journal_of k))
      (queue_fits names (orders_by setting) orders (rows_on k setting.watches) (rows_on_fit script is within k) (journal_of k) (taken k))))
      (λ n past. tt) port

  bridge_enters : AllByRecursion (MayEnterBridge names) run.bridge
  bridge_enters =
      all_weaker (λ (e : ℕ × BridgeNote). BridgeBy e.0 (bridge_putter shape e.0) e.1) (MayEnterBridge names) (λ e h. record { port = h.0; note = h.1 }) run.bridge
      (all_by_ports (λ port note. BridgeBy port (bridge_putter shape port) note) run.bridge
      (λ port. subst (AllByRecursion (BridgeBy port (bridge_putter shape port))) (sym (edges.bridge port)) (all_bridge port)))

  -- ---- callbacks and images

  heard_calls : (p : Planned) → IsPlan names p → MayHearAll names (object_calls setting run.queues p)
  heard_calls p plan =
      let calls : List CallNote = map noted (calls_of p.object (deeds (orders_by setting) (journal_of p.queue))) in
      All-from_recursion (MayCall names p.object) calls
      (all_weaker (λ (n : CallNote). IsCall names p.object n.call n.orders) (MayCall names p.object) (may_call names p.object) calls
      (calls_fit names (orders_by setting) orders p.object (journal_of p.queue) (taken p.queue)))

  all_calls : AllByRecursion (MayHearAll names) run.calls
  all_calls =
      subst (AllByRecursion (MayHearAll names)) (sym legal.calls.calls)
      (all_map (IsPlan names) (MayHearAll names) (object_calls setting run.queues) heard_calls setting.objects (objects_fit script is within))

  all_taken : AllByRecursion (AllByRecursion Taken) run.queues
  all_taken = recursion_from_All (AllByRecursion Taken) run.queues (All-from_get_or (AllByRecursion Taken) run.queues [] (λ k inside. taken k))

  all_images : AllByRecursion (IsLastImage names) run.images
  all_images =
      subst (AllByRecursion (IsLastImage names)) (sym legal.calls.images)
      (all_flat_map (IsPlan names) (IsLastImage names) (last_image setting run.queues) (λ p plan. images_fit names setting orders run.queues all_taken p plan.object)
      setting.objects (objects_fit script is within))

  -- ---- groups and watches

  heard_notes : (g : Grouped) → MayHearNotes names (group_told setting run.queues g)
  heard_notes g =
      All-from_recursion (MayHearGroup names) (group_notes (orders_by setting) g.members (journal_of g.queue))
      (group_fits names (orders_by setting) orders g.members (journal_of g.queue) (taken g.queue))

  all_groups : AllByRecursion (MayHearNotes names) run.groups
  all_groups = subst (AllByRecursion (MayHearNotes names)) (sym legal.lists.groups) (all_mapped (MayHearNotes names) (group_told setting run.queues) heard_notes setting.groups)

  noted_notes : (w : Watched) → IsWatch w.row → MayNoteAll (watch_told setting run.queues w)
  noted_notes w fits =
      All-from_recursion MayNote (watch_notes (orders_by setting) w.row (journal_of w.queue))
      (watch_fits names (orders_by setting) orders w.row fits (journal_of w.queue) (taken w.queue))

  all_watches : AllByRecursion MayNoteAll run.watches
  all_watches =
      subst (AllByRecursion MayNoteAll) (sym legal.lists.watches)
      (all_map (λ (w : Watched). IsWatch w.row) MayNoteAll (watch_told setting run.queues) noted_notes setting.watches (watches_fit script is within))

  logged : IsFormed script run → IsLogged script run
  logged formed = record {
    formed = formed;
    clients = moments;
    publishers = publishers_enter;
    bridge = All-from_recursion (MayEnterBridge names) run.bridge bridge_enters;
    timers = All-from_recursion (MayEnterTimers names) run.timers
        (all_weaker (λ (e : ℕ × TimersNote). TimersBy e.0 (timers_putter shape e.0) e.1) (MayEnterTimers names) (λ e h. record { port = h.0; note = h.1 }) run.timers timers_by);
    queues = queues_enter;
    calls = All-from_recursion (MayHearAll names) run.calls all_calls;
    images = All-from_recursion (IsLastImage names) run.images all_images;
    groups = All-from_recursion (MayHearNotes names) run.groups all_groups;
    watches = All-from_recursion MayNoteAll run.watches all_watches;
  }

pub records_are_logged : LegalRecordsAreLogged
records_are_logged script run is within short moments formed legal = logged script is within short run moments legal formed
