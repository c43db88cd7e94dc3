-- Where every edge of a record is whole, each message that was taken is one of the publishers.
use Rattle.std.specs.Prelude.{slice_index_or}
use Rattle.std.specs.List.{AllByRecursion}
use Rattle.std.proofs.Common.{ℕ, ◌+◌, ◌<◌, ◌≤◌, ◌==◌, List, [], ◌∷◌, length, sym, ◌∙◌, ap, subst, ⊎_elim, zero-add}
use Rattle.std.proofs.lemmas.Bool.{cases_lt}
use Rattle.std.proofs.lemmas.List.{get_or_past}
use Rattle.std.proofs.lemmas.List.Elements.{recursion_from_All, All-from_get_or}
use Rattle.std.proofs.lemmas.Option.{slice_get-get_or}
use Rattle.mama_msg.specs.Field.{FieldData}
use Rattle.mama_event.specs.Ports.{queues_of}
use Rattle.mama_event.specs.declared.market.MarketMsg.{MarketMsg}
use Rattle.mama_event.specs.declared.to_bridge.BridgeNote.{BridgeNote}
use Rattle.mama_event.specs.declared.to_bridge.BridgeNote.TheVariants as b
use Rattle.mama_event.specs.declared.to_queue.QueueNote.{QueueNote}
use Rattle.mama_event.specs.declared.publisher_entry.PublisherEntry.{PublisherEntry}
use Rattle.mama_event.specs.declared.publisher_entry.PublisherEntry.TheVariants.{Send, Done, Took}
use Rattle.mama_event.specs.Publisher.{PublisherScript, publisher_puts}
use Rattle.mama_rules_services.specs.Bridge.{BridgePut, to_publisher, to_queue, to_timers, bridge_puts}
use Rattle.mama_rules_services.specs.Timers.{timers_puts}
use Rattle.mama_rules_services.specs.Ports.{Putter, ByClient, ByPublisher, ByQueue, ByBridge, ByTimers, ByNobody, bridge_putter, queue_putter}
use Rattle.mama_rules_queue.specs.Queue.{QueuePut}
use Rattle.mama_rules_queue.specs.Queue as queue
use Rattle.mama_script.specs.Script.{ScriptData}
use Rattle.mama_record.specs.RunData.{RunData}
use Rattle.mama_rules_rounds.specs.Client.{bridge_part}
use Rattle.mama_rules_rounds.specs.Setting.{no_section, orders_by, rows_on, publisher_part, queue_part}
use Rattle.mama_rules_rounds.specs.Sections.{publishers_from, all_client_steps, setting_of}
use Rattle.mama_rules_legal.specs.Calls.{IsShapedFor}
use Rattle.mama_rules_legal.specs.Edges.{client_puts, queue_puts, put_on_bridge, put_on_queue, taken_by, AreEdges}
use Rattle.mama_laws_genuine.specs.Sent.{IsReply, IsSent, Delivers, AreSent}
use Rattle.mama_laws_genuine.proofs.Elements.{all_if, all_flat_map, all_at, all_weaker, all_by_port, all_any, all_from_ports}
use Rattle.mama_laws_genuine.proofs.Carried.{InBridgeNote, InQueuePut, InBridgePut, AsksImage, IsPlainEntry, note_weaker}
use Rattle.mama_laws_genuine.proofs.Bridging.{all_bridge_puts}
use Rattle.mama_laws_genuine.proofs.Timing.{all_timers_puts, all_queue_puts}
use Rattle.mama_laws_genuine.proofs.Sending.{IsOf, IsReplyOf, all_publisher_lane}
use Rattle.mama_laws_genuine.proofs.Lines.{length-publishers, number-publishers, such_clients}

-- ---- the parts of puts

in_publisher_part : (G : MarketMsg → Type 0) (R : List FieldData → Type 0) (r : ℕ) (put : BridgePut) → InBridgePut G R put → AllByRecursion AsksImage (publisher_part r put)
in_publisher_part G R r (to_publisher n note) h = all_if AsksImage (n == r) (note ∷ []) [] (h, tt) tt
in_publisher_part G R r (to_queue n note) h = tt
in_publisher_part G R r (to_timers note) h = tt

in_queue_part : (G : MarketMsg → Type 0) (R : List FieldData → Type 0) (k : ℕ) (put : BridgePut) → InBridgePut G R put → AllByRecursion (Delivers G R) (queue_part k put)
in_queue_part G R k (to_publisher n note) h = tt
in_queue_part G R k (to_queue n note) h = all_if (Delivers G R) (n == k) (note ∷ []) [] (h, tt) tt
in_queue_part G R k (to_timers note) h = tt

in_bridge_part : (G : MarketMsg → Type 0) (R : List FieldData → Type 0) (put : QueuePut) → InQueuePut G R put → AllByRecursion (InBridgeNote G R) (bridge_part put)
in_bridge_part G R (queue.to_bridge note) h = (h, tt)
in_bridge_part G R (queue.to_timers note) h = tt

-- ---- wants

abbrev Anything : MarketMsg → Type 0
Anything m = Unit {0}

abbrev AnyReply : List FieldData → Type 0
AnyReply body = Unit {0}

any_note : (note : BridgeNote) → InBridgeNote Anything AnyReply note
any_note (b.Publish msg) = tt
any_note _ = tt

-- a publisher that takes only wants for images has a plain journal
plain_journal : (journal : List PublisherEntry) → AllByRecursion AsksImage (taken_by journal) → AllByRecursion IsPlainEntry journal
plain_journal [] all = tt
plain_journal (Send ∷ journal) all = (tt, plain_journal journal all)
plain_journal (Done ∷ journal) all = (tt, plain_journal journal all)
plain_journal (Took note ∷ journal) all = (all.0, plain_journal journal all.1)

module _ (script : ScriptData) (run : RunData) (shaped : IsShapedFor script run) (edges : AreEdges script run) where
  abbrev publishers : List PublisherScript
  publishers = publishers_from 0 script.publishers

  abbrev section : ℕ → PublisherScript
  section r = slice_index_or publishers r no_section

  abbrev journal_of : ℕ → List PublisherEntry
  journal_of r = slice_index_or run.publishers r []

  abbrev Such : MarketMsg → Type 0
  Such m = IsSent publishers m

  abbrev Replied : List FieldData → Type 0
  Replied body = IsReply publishers body

  -- whatever messages came, the bridge asks for images as such
  all_asked : AllByRecursion (InBridgePut Anything AnyReply) (bridge_puts script.shape run.bridge)
  all_asked =
      all_bridge_puts Anything AnyReply script.shape run.bridge
      (all_any (λ (e : ℕ × BridgeNote). InBridgeNote Anything AnyReply e.1) (λ e. any_note e.1) run.bridge)

  pub plain : (r : ℕ) → r < length script.publishers → AllByRecursion IsPlainEntry (journal_of r)
  plain r within =
      plain_journal (journal_of r)
      (subst (AllByRecursion AsksImage) (sym (edges.publishers r within))
      (all_flat_map (InBridgePut Anything AnyReply) AsksImage (publisher_part r) (in_publisher_part Anything AnyReply r) (bridge_puts script.shape run.bridge) all_asked))

  -- ---- the bridge's lane

  of_publisher : (r : ℕ) → r < length publishers → (m : MarketMsg) → IsOf (section r) m → Such m
  of_publisher r within m is = record {
    place = r;
    publisher = section r;
    stands = slice_get-get_or publishers r no_section within;
    sender = is.sender ∙ ap (λ (n : ℕ). n + 1) (number-publishers 0 script.publishers r within ∙ zero-add r);
    body = is.body;
  }

  reply_of : (r : ℕ) → r < length publishers → (body : List FieldData) → IsReplyOf (section r) body → Replied body
  reply_of r within body is = record {
    place = r;
    publisher = section r;
    stands = slice_get-get_or publishers r no_section within;
    number = is.number;
    within = is.within;
    fids = is.fids;
    fields = is.fields;
  }

  all_published : (r : ℕ) → AllByRecursion (InBridgeNote Such Replied) (publisher_puts (section r) (journal_of r))
  all_published r =
      ⊎_elim
      (λ within. all_weaker (InBridgeNote (IsOf (section r)) (IsReplyOf (section r))) (InBridgeNote Such Replied)
      (let here : r < length publishers = subst (λ (n : ℕ). r < n) (sym (length-publishers 0 script.publishers)) within in
      note_weaker (IsOf (section r)) Such (IsReplyOf (section r)) Replied (of_publisher r here) (reply_of r here))
      (publisher_puts (section r) (journal_of r)) (all_publisher_lane (section r) (journal_of r) (plain r within)))
      (λ past. subst (λ (journal : List PublisherEntry). AllByRecursion (InBridgeNote Such Replied) (publisher_puts (section r) journal))
      (sym (get_or_past run.publishers r [] (subst (λ (n : ℕ). n ≤ r) (sym shaped.publishers) past))) tt)
      (cases_lt r (length script.publishers))

  all_clients : (c : ℕ) → AllByRecursion (InQueuePut Such Replied) (client_puts script run.clients c)
  all_clients c =
      all_flat_map (AllByRecursion (InQueuePut Such Replied)) (InQueuePut Such Replied) (λ (step : List QueuePut). step) (λ step all. all)
      (slice_index_or (all_client_steps (queues_of script.shape) 0 run.clients script.clients) c [])
      (all_at (AllByRecursion (InQueuePut Such Replied)) (all_client_steps (queues_of script.shape) 0 run.clients script.clients) c
      (such_clients Such Replied (queues_of script.shape) 0 run.clients script.clients))

  all_on_bridge : (putter : Putter)
      → AllByRecursion (InBridgeNote Such Replied) (put_on_bridge (setting_of script) (client_puts script run.clients) run.publishers run.queues putter)
  all_on_bridge (ByClient c) = all_flat_map (InQueuePut Such Replied) (InBridgeNote Such Replied) bridge_part (in_bridge_part Such Replied) (client_puts script run.clients c) (all_clients c)
  all_on_bridge (ByPublisher r) = all_published r
  all_on_bridge (ByQueue k) =
      let journal : List (ℕ × QueueNote) = slice_index_or run.queues k [] in
      all_flat_map (InQueuePut Such Replied) (InBridgeNote Such Replied) bridge_part (in_bridge_part Such Replied) (queue_puts (setting_of script) k journal)
      (all_queue_puts Such Replied (orders_by (setting_of script)) (rows_on k (setting_of script).watches) journal)
  all_on_bridge ByBridge = tt
  all_on_bridge ByTimers = tt
  all_on_bridge ByNobody = tt

  bridge_such : AllByRecursion (λ (e : ℕ × BridgeNote). InBridgeNote Such Replied e.1) run.bridge
  bridge_such =
      all_from_ports (InBridgeNote Such Replied) run.bridge
      (λ port. subst (AllByRecursion (InBridgeNote Such Replied)) (sym (edges.bridge port)) (all_on_bridge (bridge_putter script.shape port)))

  -- ---- the queues' lanes

  all_on_queue : (k : ℕ) (putter : Putter) → AllByRecursion (Delivers Such Replied) (put_on_queue script.shape run.bridge run.timers k putter)
  all_on_queue k ByBridge =
      all_flat_map (InBridgePut Such Replied) (Delivers Such Replied) (queue_part k) (in_queue_part Such Replied k) (bridge_puts script.shape run.bridge)
      (all_bridge_puts Such Replied script.shape run.bridge bridge_such)
  all_on_queue k ByTimers = all_by_port (Delivers Such Replied) k (timers_puts script.shape run.timers) (all_timers_puts Such Replied script.shape run.timers)
  all_on_queue k (ByClient c) = tt
  all_on_queue k (ByPublisher r) = tt
  all_on_queue k (ByQueue n) = tt
  all_on_queue k ByNobody = tt

  abbrev Told : ℕ × QueueNote → Type 0
  Told e = Delivers Such Replied e.1

  queue_such : (k : ℕ) → k < length run.queues → AllByRecursion Told (slice_index_or run.queues k [])
  queue_such k within =
      let here : k < queues_of script.shape = subst (λ (n : ℕ). k < n) shaped.queues within in
      all_from_ports (Delivers Such Replied) (slice_index_or run.queues k [])
      (λ port. subst (AllByRecursion (Delivers Such Replied)) (sym (edges.queues k here port)) (all_on_queue k (queue_putter port)))

  -- each message that a queue took is one of the publishers
  pub queues_sent : AreSent publishers run.queues
  queues_sent = recursion_from_All (AllByRecursion Told) run.queues (All-from_get_or (AllByRecursion Told) run.queues [] queue_such)
