-- A subscription on a topic that one publisher of the script has is fed by that publisher alone, wherever every edge is
-- whole, whichever thread ran what when. No publisher is asked for an update, so the subscription's updates are those that
-- the publishers of its topic send by their lines, of which there is one. Its queue wishes recaps of the senders of its
-- updates, and its watches of the first publisher of its topic. So the bridge asks no other publisher for an image of it.
use Rattle.std.specs.Prelude.{◌-◌, slice_index, slice_index_or, slice_get, position, if◌then◌else◌, ◌⊎◌, Option, None, Some}
use Rattle.std.specs.List.{AllByRecursion, flat_map}
use Rattle.std.proofs.Common.{◌≡◌, ℕ, zero, suc, ◌+◌, ◌<◌, ◌==◌, Bool, true, false, List, [], ◌∷◌, ◌++◌, length, refl, sym, ◌∙◌, ap, subst, arith, inl, inr, zero-add}
use Rattle.std.proofs.lemmas.Bool.{both_ways}
use Rattle.std.proofs.lemmas.Bool.Decides.{Decides-eqb}
use Rattle.std.proofs.lemmas.List.Quantifiers.{position-Some}
use Rattle.mama_journal.specs.Journal.{count_of}
use Rattle.mama_journal.specs.Lane.{by_port}
use Rattle.mama_msg.specs.Field.{FieldData}
use Rattle.mama_event.specs.Object.{same_sub}
use Rattle.mama_event.specs.Ports.{clients_of, publishers_of, queues_of, bridge_port_of_publisher}
use Rattle.mama_event.specs.Publisher.{SendLine, PublisherScript, is_send, updates_sent, record_at, answer_of, sent_of, publisher_puts_at, publisher_puts}
use Rattle.mama_event.specs.declared.ids.SubId.{SubId}
use Rattle.mama_event.specs.declared.shape.Shape.{Shape}
use Rattle.mama_event.specs.declared.market.MarketMsg.{MarketMsg}
use Rattle.mama_event.specs.declared.to_bridge.SubTerms.{SubTerms}
use Rattle.mama_event.specs.declared.to_bridge.BridgeNote.{BridgeNote}
use Rattle.mama_event.specs.declared.to_bridge.BridgeNote.TheVariants as b
use Rattle.mama_event.specs.declared.to_timers.TimersNote.{TimersNote}
use Rattle.mama_event.specs.declared.to_publisher.PublisherNote.{PublisherNote}
use Rattle.mama_event.specs.declared.to_publisher.PublisherNote.TheVariants as note
use Rattle.mama_event.specs.declared.to_queue.QueueNote.{QueueNote}
use Rattle.mama_event.specs.declared.to_queue.QueueNote.TheVariants as q
use Rattle.mama_event.specs.declared.publisher_entry.PublisherEntry.{PublisherEntry}
use Rattle.mama_event.specs.declared.publisher_entry.PublisherEntry.TheVariants as entry
use Rattle.mama_dq.specs.Table.{is_update}
use Rattle.mama_rules_services.specs.Ports.{Putter, ByClient, ByPublisher, ByQueue, ByBridge, ByTimers, ByNobody, bridge_putter, queue_putter}
use Rattle.mama_rules_services.specs.Bridge.{BridgeEvent, joins, opens, no_event, from_client, from_publisher, from_queue, put_by, heard, sent_to, BridgePut, to_publisher, to_queue, to_timers, bridge_puts}
use Rattle.mama_rules_services.specs.Timers.{timers_puts}
use Rattle.mama_rules_queue.specs.Queue.{QueuePut}
use Rattle.mama_rules_queue.specs.Queue as queue
use Rattle.mama_script.specs.Script.{ScriptData}
use Rattle.mama_script.specs.Tree.{IsShaped, first_sender}
use Rattle.mama_record.specs.RunData.{RunData}
use Rattle.mama_rules_rounds.specs.Client.{bridge_part}
use Rattle.mama_rules_rounds.specs.Setting.{Setting, no_section, orders_by, rows_on, publisher_part, queue_part}
use Rattle.mama_rules_rounds.specs.Sections.{setting_of}
use Rattle.mama_rules_legal.specs.Edges.{AreEdges, client_puts, queue_puts, put_on_bridge, put_to_publisher, put_on_queue, taken_by}
use Rattle.mama_rules_legal.specs.Streams.{terms_of}
use Rattle.mama_laws_legal.proofs.AllSent.{count_publishers}
use Rattle.mama_laws_legal.proofs.Putters.{by_bridge_port}
use Rattle.mama_laws_genuine.specs.Sent.{Delivers}
use Rattle.mama_laws_genuine.specs.Order.{IsFedBy}
use Rattle.mama_laws_genuine.proofs.Elements.{all_if, all_flat_map, all_map, all_any, all_by_port, all_weaker, all_puts_after, all_from_ports, all_by_ports}
use Rattle.mama_laws_genuine.proofs.Lines.{length-publishers, number-publishers}
use Rattle.mama_laws_genuine.proofs.Timing.{all_timers_puts}
use Rattle.mama_laws_genuine.proofs.Asking.{OwnUpdate}
use Rattle.mama_laws_genuine.proofs.Wishing.{Brings, Wishes, WishPut, OwnRow, all_wished}
use Rattle.mama_laws_genuine.proofs.Feeding.{Feeds, Wants, InPut, all_fed}
use Rattle.mama_laws_genuine.proofs.Topics.{first_is, all_rows_on, rows_own}
use Rattle.mama_laws_genuine.proofs.Joining.{Joins, JoinPut, joins_on}

-- ---- the one publisher of a topic

-- a place holds the number, and no other does
pub record IsOnly (wanted : ℕ) (topics : List ℕ) (place : ℕ) : Type 0 where
  pub known : place < length topics
  pub topic : slice_index topics place ≡ wanted
  pub alone : (n : ℕ) → n < length topics → slice_index topics n ≡ wanted → n ≡ place

module _ (wanted : ℕ) where
  abbrev is_wanted : ℕ → Bool
  is_wanted topic = topic == wanted

  abbrev Nowhere : List ℕ → Type 0
  Nowhere topics = (n : ℕ) → n < length topics → slice_index topics n ≡ wanted → ⊥

  one_more : (topic : ℕ) (topics : List ℕ) → (topic == wanted) ≡ false → Nowhere topics → Nowhere (topic ∷ topics)
  one_more topic topics other none zero within is = both_ways (topic == wanted) other ((Decides-eqb topic wanted).1 is)
  one_more topic topics other none (suc n) within is = none n (omega arith) is

  -- none is counted where the number is at no place
  none_there : (topics : List ℕ) → count_of is_wanted topics ≡ 0 → Nowhere topics
  none_there [] none = λ n within is. absurd (past_all n within)
    where
      past_all : (n : ℕ) → n < 0 → ⊥
      past_all n within = omega arith
  none_there (topic ∷ topics) none = by_case (topic == wanted) refl none (none_there topics)
    where
      by_case : (c : Bool) → (topic == wanted) ≡ c → (if c then suc (count_of is_wanted topics) else count_of is_wanted topics) ≡ 0
          → (count_of is_wanted topics ≡ 0 → Nowhere topics) → Nowhere (topic ∷ topics)
      by_case true same none later = absurd (omega arith)
      by_case false other none later = one_more topic topics other (later none)

  at_first : (topic : ℕ) (topics : List ℕ) → Nowhere topics → topic ≡ wanted → IsOnly wanted (topic ∷ topics) 0
  at_first topic topics none is = record { known = omega arith; topic = is; alone = alone }
    where
      alone : (n : ℕ) → n < length (topic ∷ topics) → slice_index (topic ∷ topics) n ≡ wanted → n ≡ 0
      alone zero within same = refl
      alone (suc n) within same = absurd (none n (omega arith) same)

  behind : (topic : ℕ) (topics : List ℕ) → (topic == wanted) ≡ false → (place : ℕ) → IsOnly wanted topics place → IsOnly wanted (topic ∷ topics) (suc place)
  behind topic topics other place found = record { known = omega (arith, found.known); topic = found.topic; alone = alone }
    where
      alone : (n : ℕ) → n < length (topic ∷ topics) → slice_index (topic ∷ topics) n ≡ wanted → n ≡ suc place
      alone zero within same = absurd (both_ways (topic == wanted) other ((Decides-eqb topic wanted).1 same))
      alone (suc n) within same = ap suc (found.alone n (omega arith) same)

  pub only : (topics : List ℕ) → count_of is_wanted topics ≡ 1 → (place : ℕ) × IsOnly wanted topics place
  only [] one = absurd (omega arith)
  only (topic ∷ topics) one = by_case (topic == wanted) refl one (only topics)
    where
      by_case : (c : Bool) → (topic == wanted) ≡ c → (if c then suc (count_of is_wanted topics) else count_of is_wanted topics) ≡ 1
          → (count_of is_wanted topics ≡ 1 → (place : ℕ) × IsOnly wanted topics place) → (place : ℕ) × IsOnly wanted (topic ∷ topics) place
      by_case true same one later = (0, at_first topic topics (none_there topics (omega arith)) ((Decides-eqb topic wanted).0 same))
      by_case false other one later = let found = later one in (suc found.0, behind topic topics other found.0 found.1)

-- ---- what is put on the bridge's lane

-- any message, and any number
abbrev AnyMsg : MarketMsg → Type 0
AnyMsg m = Unit {0}

abbrev AnyNumber : ℕ → Type 0
AnyNumber n = Unit {0}

abbrev AnyNote : BridgeNote → Type 0
AnyNote note = Unit {0}

module _ (s : SubId) (Asked : ℕ → Type 0) where
  -- a publisher's messages are its own, its image messages are no updates, and one that answers for the subscription is such
  abbrev Answers : ℕ → BridgeNote → Type 0
  Answers n (b.Publish msg) = msg.sender ≡ n + 1
  Answers n (b.Image sub msg) = (is_update msg.kind ≡ false) × (same_sub sub s ≡ true → Asked n)
  Answers n _ = Unit {0}

  abbrev WantEntry : ℕ → PublisherEntry → Type 0
  WantEntry n entry.Send = Unit {0}
  WantEntry n entry.Done = Unit {0}
  WantEntry n (entry.Took note) = Wants s Asked n note

  sent_answers : (n : ℕ) (held : List FieldData) (seq : ℕ) (line : Option SendLine) → AllByRecursion (Answers n) (sent_of n held seq line)
  sent_answers n held seq (Some (SendLine.Update body)) = (refl, tt)
  sent_answers n held seq (Some SendLine.Recap) = (refl, tt)
  sent_answers n held seq None = tt

  asked_answers : (n : ℕ) (held : List FieldData) (seq : ℕ) (asked : PublisherNote) → Wants s Asked n asked → AllByRecursion (Answers n) (answer_of n held seq asked)
  asked_answers n held seq (note.Want sub kind) h = (h, tt)
  asked_answers n held seq (note.Ask inbox fids) h = (tt, tt)
  asked_answers n held seq note.Settle h = (tt, tt)
  asked_answers n held seq note.Fin h = tt

  entry_answers : (publisher : PublisherScript) (before : List PublisherEntry) (e : PublisherEntry) → WantEntry publisher.number e
      → AllByRecursion (Answers publisher.number) (publisher_puts_at publisher before e)
  entry_answers publisher before entry.Send h =
      sent_answers publisher.number (record_at publisher (before ++ entry.Send ∷ [])) (updates_sent publisher (before ++ entry.Send ∷ [])) (slice_get publisher.lines (count_of is_send before))
  entry_answers publisher before entry.Done h = (tt, tt)
  entry_answers publisher before (entry.Took asked) h = asked_answers publisher.number (record_at publisher before) (updates_sent publisher before) asked h

  want_entries : (n : ℕ) (journal : List PublisherEntry) → AllByRecursion (Wants s Asked n) (taken_by journal) → AllByRecursion (WantEntry n) journal
  want_entries n [] all = tt
  want_entries n (entry.Send ∷ journal) all = (tt, want_entries n journal all)
  want_entries n (entry.Done ∷ journal) all = (tt, want_entries n journal all)
  want_entries n (entry.Took asked ∷ journal) all = (all.0, want_entries n journal all.1)

  publisher_answers : (n : ℕ) (publisher : PublisherScript) → publisher.number ≡ n → (journal : List PublisherEntry) → AllByRecursion (Wants s Asked n) (taken_by journal)
      → AllByRecursion (Answers n) (publisher_puts publisher journal)
  publisher_answers n publisher is journal all =
      subst (λ (m : ℕ). AllByRecursion (Answers m) (publisher_puts publisher journal)) is
      (all_puts_after (WantEntry publisher.number) (Answers publisher.number) (publisher_puts_at publisher) (entry_answers publisher) [] journal
      (subst (λ (m : ℕ). AllByRecursion (WantEntry m) journal) (sym is) (want_entries n journal all)))

-- ---- what the bridge makes of it

-- What holds of a note that an actor put, by what holds of those of publishers and of queues.
abbrev PutBy : SubId → ℕ → (ℕ → BridgeNote → Type 0) → (BridgeNote → Type 0) → Putter → BridgeNote → Type 0
PutBy s wanted FromPublisher FromQueue (ByClient c) note = Joins s wanted note
PutBy s wanted FromPublisher FromQueue (ByPublisher n) note = FromPublisher n note
PutBy s wanted FromPublisher FromQueue (ByQueue k) note = FromQueue note
PutBy s wanted FromPublisher FromQueue ByBridge note = Unit {0}
PutBy s wanted FromPublisher FromQueue ByTimers note = Unit {0}
PutBy s wanted FromPublisher FromQueue ByNobody note = Unit {0}

module _ (shape : Shape) (s : SubId) (wanted : ℕ) (FromPublisher : ℕ → BridgeNote → Type 0) (FromQueue : BridgeNote → Type 0)
    (Mine : MarketMsg → Type 0) (Wished Asked : ℕ → Type 0)
    (first : (n : ℕ) → position (λ (topic : ℕ). topic == wanted) shape.publisher_topics ≡ Some n → Asked n)
    (asked : (sender : ℕ) → Wished sender → Asked (sender - 1))
    (publisher_feeds : (n : ℕ) → n < publishers_of shape → (note : BridgeNote) → FromPublisher n note → Feeds shape s wanted Mine Wished Asked first asked (from_publisher n note))
    (queue_feeds : (k : ℕ) (note : BridgeNote) → FromQueue note → Feeds shape s wanted Mine Wished Asked first asked (from_queue k note)) where
  abbrev Feeding : BridgeEvent → Type 0
  Feeding e = Feeds shape s wanted Mine Wished Asked first asked e

  feeding_if : (c : Bool) (e f : BridgeEvent) → Feeding e → Feeding f → Feeding (if c then e else f)
  feeding_if true e f one two = one
  feeding_if false e f one two = two

  client_feeds : (c : ℕ) (note : BridgeNote) → Joins s wanted note → Feeding (from_client c note)
  client_feeds c (b.Join sub terms tag) h = feeding_if (sub.client == c) (joins sub terms tag) no_event h tt
  client_feeds c (b.OpenInbox inbox terms tag) h = feeding_if (inbox.client == c) (opens inbox terms tag) no_event tt tt
  client_feeds c _ h = tt

  feeds : (port : ℕ) (note : BridgeNote) → PutBy s wanted FromPublisher FromQueue (bridge_putter shape port) note → Feeding (put_by (bridge_putter shape port) note)
  feeds port = by_bridge_port shape (λ port who. (note : BridgeNote) → PutBy s wanted FromPublisher FromQueue who note → Feeding (put_by who note))
      (λ c within note h. client_feeds c note h)
      (λ n within note h. publisher_feeds n within note h)
      (λ k within note h. queue_feeds k note h)
      (λ n past note h. tt) port

  abbrev Fits : ℕ × BridgeNote → Type 0
  Fits e = PutBy s wanted FromPublisher FromQueue (bridge_putter shape e.0) e.1

  abbrev Putting : BridgePut → Type 0
  Putting put = InPut shape s wanted Mine Wished Asked first asked put

  all_puts_fit : (journal : List (ℕ × BridgeNote)) → AllByRecursion Fits journal → AllByRecursion Putting (bridge_puts shape journal)
  all_puts_fit journal all =
      all_fed shape s wanted Mine Wished Asked first asked (heard shape journal)
      (all_map Fits Feeding (λ (e : ℕ × BridgeNote). put_by (bridge_putter shape e.0) e.1) (λ e h. feeds e.0 e.1 h) journal all)

  want_part : (n : ℕ) (put : BridgePut) → Putting put → AllByRecursion (Wants s Asked n) (publisher_part n put)
  want_part n (to_publisher m note) h =
      (elim (m == n) as (λ c. (m == n) ≡ c → AllByRecursion (Wants s Asked n) (if c then note ∷ [] else [])) [
        | true ↦ λ same. (subst (λ (k : ℕ). Wants s Asked k note) ((Decides-eqb m n).0 same) h, tt)
        | false ↦ λ other. tt
      ]) refl
  want_part n (to_queue k event) h = tt
  want_part n (to_timers event) h = tt

  -- what each publisher is asked
  wanted_of : (journal : List (ℕ × BridgeNote)) → AllByRecursion Fits journal → (n : ℕ) → AllByRecursion (Wants s Asked n) (put_to_publisher shape journal n)
  wanted_of journal all n = all_flat_map Putting (Wants s Asked n) (publisher_part n) (want_part n) (bridge_puts shape journal) (all_puts_fit journal all)

  bring_part : (k : ℕ) (put : BridgePut) → Putting put → AllByRecursion (Brings s Mine) (queue_part k put)
  bring_part k (to_publisher n note) h = tt
  bring_part k (to_queue m event) h = all_if (Brings s Mine) (m == k) (event ∷ []) [] (h, tt) tt
  bring_part k (to_timers event) h = tt

  abbrev Never : MarketMsg → Type 0
  Never m = ⊥

  abbrev AnyBody : List FieldData → Type 0
  AnyBody body = Unit {0}

  brings_none : (event : QueueNote) → Delivers Never AnyBody event → Brings s Mine event
  brings_none (q.Create slot object make tag) h = tt
  brings_none (q.Deliver slot sub msg) h = absurd h
  brings_none (q.Reply slot inbox body) h = tt
  brings_none (q.Bad slot sub kind sender seq bytes) h = tt
  brings_none (q.BadReply slot inbox bytes) h = tt
  brings_none (q.Tick slot timer moment) h = tt
  brings_none (q.Gone slot object) h = tt
  brings_none q.Fin h = tt

  -- what each queue is brought
  brought_by : (bridge : List (ℕ × BridgeNote)) → AllByRecursion Fits bridge → (timers : List (ℕ × TimersNote)) (k : ℕ) (who : Putter)
      → AllByRecursion (Brings s Mine) (put_on_queue shape bridge timers k who)
  brought_by bridge all timers k ByBridge = all_flat_map Putting (Brings s Mine) (queue_part k) (bring_part k) (bridge_puts shape bridge) (all_puts_fit bridge all)
  brought_by bridge all timers k ByTimers =
      all_weaker (Delivers Never AnyBody) (Brings s Mine) brings_none (by_port k (timers_puts shape timers))
      (all_by_port (Delivers Never AnyBody) k (timers_puts shape timers) (all_timers_puts Never AnyBody shape timers))
  brought_by bridge all timers k (ByClient c) = tt
  brought_by bridge all timers k (ByPublisher n) = tt
  brought_by bridge all timers k (ByQueue n) = tt
  brought_by bridge all timers k ByNobody = tt

-- ---- the journals of a record

module _ (script : ScriptData) (counted : IsShaped script) (run : RunData) (edges : AreEdges script run)
    (s : SubId) (wanted r : ℕ) (lone : IsOnly wanted script.shape.publisher_topics r)
    (known : (c : ℕ) → AllByRecursion (JoinPut s wanted) (client_puts script run.clients c))
    (rows : AllByRecursion (OwnRow s (r + 1)) script.watches) where
  abbrev shape : Shape
  shape = script.shape

  abbrev setting : Setting
  setting = setting_of script

  there : (n : ℕ) → n < publishers_of shape → n < length script.publishers
  there n within = subst (λ (k : ℕ). n < k) (count_publishers script counted) within

  bridge_join : (put : QueuePut) → JoinPut s wanted put → AllByRecursion (Joins s wanted) (bridge_part put)
  bridge_join (queue.to_bridge event) h = (h, tt)
  bridge_join (queue.to_timers event) h = tt

  bridge_wish : (put : QueuePut) → WishPut s (r + 1) put → AllByRecursion (Wishes s (r + 1)) (bridge_part put)
  bridge_wish (queue.to_bridge event) h = (h, tt)
  bridge_wish (queue.to_timers event) h = tt

  -- what a publisher and a queue put by their journals
  abbrev publisher_put : ℕ → List BridgeNote
  publisher_put n = publisher_puts (slice_index_or setting.publishers n no_section) (slice_index_or run.publishers n [])

  abbrev queue_put : ℕ → List BridgeNote
  queue_put k = flat_map bridge_part (queue_puts setting k (slice_index_or run.queues k []))

  -- what the bridge took, where it is known what publishers and queues put
  all_fit : (FromPublisher : ℕ → BridgeNote → Type 0) (FromQueue : BridgeNote → Type 0)
      → ((n : ℕ) → n < publishers_of shape → AllByRecursion (FromPublisher n) (publisher_put n))
      → ((k : ℕ) → k < queues_of shape → AllByRecursion FromQueue (queue_put k))
      → AllByRecursion (λ (e : ℕ × BridgeNote). PutBy s wanted FromPublisher FromQueue (bridge_putter shape e.0) e.1) run.bridge
  all_fit FromPublisher FromQueue publishers queues =
      all_by_ports (λ port note. PutBy s wanted FromPublisher FromQueue (bridge_putter shape port) note) run.bridge
      (λ port. subst (AllByRecursion (PutBy s wanted FromPublisher FromQueue (bridge_putter shape port))) (sym (edges.bridge port)) (all_put port))
    where
      all_put : (port : ℕ) → AllByRecursion (PutBy s wanted FromPublisher FromQueue (bridge_putter shape port))
          (put_on_bridge setting (client_puts script run.clients) run.publishers run.queues (bridge_putter shape port))
      all_put port = by_bridge_port shape (λ port who. AllByRecursion (PutBy s wanted FromPublisher FromQueue who) (put_on_bridge setting (client_puts script run.clients) run.publishers run.queues who))
          (λ c within. all_flat_map (JoinPut s wanted) (Joins s wanted) bridge_part bridge_join (client_puts script run.clients c) (known c))
          (λ n within. publishers n within)
          (λ k within. queues k within)
          (λ n past. tt) port

  -- what a publisher puts, where it is known what it was asked
  answered : (Asked : ℕ → Type 0) → ((n : ℕ) → AllByRecursion (Wants s Asked n) (put_to_publisher shape run.bridge n))
      → (n : ℕ) → n < publishers_of shape → AllByRecursion (Answers s Asked n) (publisher_put n)
  answered Asked each n within =
      publisher_answers s Asked n (slice_index_or setting.publishers n no_section)
      (number-publishers 0 script.publishers n (subst (λ (k : ℕ). n < k) (sym (length-publishers 0 script.publishers)) (there n within)) ∙ zero-add n)
      (slice_index_or run.publishers n [])
      (subst (AllByRecursion (Wants s Asked n)) (sym (edges.publishers n (there n within))) (each n))

  any_put : (n : ℕ) → n < publishers_of shape → AllByRecursion AnyNote (publisher_put n)
  any_put n within = all_any AnyNote (λ note. tt) (publisher_put n)

  any_wish : (k : ℕ) → k < queues_of shape → AllByRecursion AnyNote (queue_put k)
  any_wish k within = all_any AnyNote (λ note. tt) (queue_put k)

  -- no publisher is asked for an update, so only what it sends by its lines is one

  abbrev AnyFeeds : BridgeEvent → Type 0
  AnyFeeds e = Feeds shape s wanted AnyMsg AnyNumber AnyNumber (λ n found. tt) (λ sender wished. tt) e

  any_publisher_feeds : (n : ℕ) → n < publishers_of shape → (note : BridgeNote) → Unit {0} → AnyFeeds (from_publisher n note)
  any_publisher_feeds n within (b.Publish msg) h = λ same. tt
  any_publisher_feeds n within (b.Image sub msg) h = λ same. tt
  any_publisher_feeds n within _ h = tt

  any_queue_feeds : (k : ℕ) (note : BridgeNote) → Unit {0} → AnyFeeds (from_queue k note)
  any_queue_feeds k (b.RecapWish sub sender) h = λ same. tt
  any_queue_feeds k b.Bye h = tt
  any_queue_feeds k _ h = tt

  no_updates_asked : (n : ℕ) → AllByRecursion (Wants s AnyNumber n) (put_to_publisher shape run.bridge n)
  no_updates_asked n =
      wanted_of shape s wanted (λ n note. AnyNote note) AnyNote AnyMsg AnyNumber AnyNumber (λ n found. tt) (λ sender wished. tt) any_publisher_feeds any_queue_feeds
      run.bridge (all_fit (λ n note. AnyNote note) AnyNote any_put any_wish) n

  -- so the updates of the subscription are of the one publisher of its topic, and its queue wishes recaps of no other

  abbrev UpdateFeeds : BridgeEvent → Type 0
  UpdateFeeds e = Feeds shape s wanted (OwnUpdate (r + 1)) AnyNumber AnyNumber (λ n found. tt) (λ sender wished. tt) e

  update_publisher_feeds : (n : ℕ) → n < publishers_of shape → (note : BridgeNote) → Answers s AnyNumber n note → UpdateFeeds (from_publisher n note)
  update_publisher_feeds n within (b.Publish msg) h = λ same update. h ∙ ap (λ (m : ℕ). m + 1) (lone.alone n within same)
  update_publisher_feeds n within (b.Image sub msg) h = λ same update. absurd (both_ways (is_update msg.kind) h.0 update)
  update_publisher_feeds n within _ h = tt

  update_queue_feeds : (k : ℕ) (note : BridgeNote) → Unit {0} → UpdateFeeds (from_queue k note)
  update_queue_feeds k (b.RecapWish sub sender) h = λ same. tt
  update_queue_feeds k b.Bye h = tt
  update_queue_feeds k _ h = tt

  updates_brought : (k : ℕ) (who : Putter) → AllByRecursion (Brings s (OwnUpdate (r + 1))) (put_on_queue shape run.bridge run.timers k who)
  updates_brought k who =
      brought_by shape s wanted (Answers s AnyNumber) AnyNote (OwnUpdate (r + 1)) AnyNumber AnyNumber (λ n found. tt) (λ sender wished. tt) update_publisher_feeds update_queue_feeds
      run.bridge (all_fit (Answers s AnyNumber) AnyNote (answered AnyNumber no_updates_asked) any_wish) run.timers k who

  own_wishes : (k : ℕ) → k < queues_of shape → AllByRecursion (Wishes s (r + 1)) (queue_put k)
  own_wishes k within =
      let journal : List (ℕ × QueueNote) = slice_index_or run.queues k [] in
      all_flat_map (WishPut s (r + 1)) (Wishes s (r + 1)) bridge_part bridge_wish (queue_puts setting k journal)
      (all_wished s (r + 1) (orders_by setting) (rows_on k setting.watches) (all_rows_on (OwnRow s (r + 1)) script rows k) journal
      (all_from_ports (Brings s (OwnUpdate (r + 1))) journal
      (λ port. subst (AllByRecursion (Brings s (OwnUpdate (r + 1)))) (sym (edges.queues k within port)) (updates_brought k (queue_putter port)))))

  -- so no other publisher is asked for an image of it

  abbrev Lone : ℕ → Type 0
  Lone n = n ≡ r

  abbrev OfLone : ℕ → Type 0
  OfLone sender = sender ≡ r + 1

  first_lone : (n : ℕ) → position (λ (topic : ℕ). topic == wanted) shape.publisher_topics ≡ Some n → Lone n
  first_lone n found =
      let at = position-Some (λ (topic : ℕ). topic == wanted) shape.publisher_topics n 0 found in
      lone.alone n at.0 ((Decides-eqb (slice_index shape.publisher_topics n) wanted).0 at.1)

  less_one : (sender : ℕ) → OfLone sender → Lone (sender - 1)
  less_one sender is = omega arith

  abbrev LoneFeeds : BridgeEvent → Type 0
  LoneFeeds e = Feeds shape s wanted AnyMsg OfLone Lone first_lone less_one e

  lone_publisher_feeds : (n : ℕ) → n < publishers_of shape → (note : BridgeNote) → Unit {0} → LoneFeeds (from_publisher n note)
  lone_publisher_feeds n within (b.Publish msg) h = λ same. tt
  lone_publisher_feeds n within (b.Image sub msg) h = λ same. tt
  lone_publisher_feeds n within _ h = tt

  lone_queue_feeds : (k : ℕ) (note : BridgeNote) → Wishes s (r + 1) note → LoneFeeds (from_queue k note)
  lone_queue_feeds k (b.RecapWish sub sender) h = h
  lone_queue_feeds k b.Bye h = tt
  lone_queue_feeds k _ h = tt

  lone_asked : (n : ℕ) → AllByRecursion (Wants s Lone n) (put_to_publisher shape run.bridge n)
  lone_asked n =
      wanted_of shape s wanted (λ n note. AnyNote note) (Wishes s (r + 1)) AnyMsg OfLone Lone first_lone less_one lone_publisher_feeds lone_queue_feeds
      run.bridge (all_fit (λ n note. AnyNote note) (Wishes s (r + 1)) any_put own_wishes) n

  -- ---- what is sent to the subscription

  sent_by : (port : ℕ) (event : BridgeNote) → PutBy s wanted (Answers s Lone) AnyNote (bridge_putter script.shape port) event
      → (sent_to script.shape s wanted (put_by (bridge_putter script.shape port) event) ≡ []) ⊎ (port ≡ bridge_port_of_publisher script.shape r)
  sent_by port = by_bridge_port script.shape
      (λ port who. (event : BridgeNote) → PutBy s wanted (Answers s Lone) AnyNote who event → (sent_to script.shape s wanted (put_by who event) ≡ []) ⊎ (port ≡ bridge_port_of_publisher script.shape r))
      (λ c within event h. inl (client_none c event))
      (λ n within event h. publisher_sends n within event h)
      (λ k within event h. inl (queue_none k event))
      (λ n past event h. inl refl) port
    where
      none_if : (c : Bool) (e : BridgeEvent) → sent_to script.shape s wanted e ≡ [] → sent_to script.shape s wanted (if c then e else no_event) ≡ []
      none_if true e none = none
      none_if false e none = refl

      client_none : (c : ℕ) (event : BridgeNote) → sent_to script.shape s wanted (from_client c event) ≡ []
      client_none c (b.Join sub terms tag) = none_if (sub.client == c) (joins sub terms tag) refl
      client_none c (b.OpenInbox inbox terms tag) = none_if (inbox.client == c) (opens inbox terms tag) refl
      client_none c _ = refl

      queue_none : (k : ℕ) (event : BridgeNote) → sent_to script.shape s wanted (from_queue k event) ≡ []
      queue_none k b.Bye = refl
      queue_none k _ = refl

      publisher_sends : (n : ℕ) → n < publishers_of script.shape → (event : BridgeNote) → Answers s Lone n event
          → (sent_to script.shape s wanted (from_publisher n event) ≡ []) ⊎ (clients_of script.shape + n ≡ bridge_port_of_publisher script.shape r)
      publisher_sends n within (b.Publish msg) h =
          (elim (slice_index script.shape.publisher_topics n == wanted) as (λ c. (slice_index script.shape.publisher_topics n == wanted) ≡ c
          → ((if c then msg ∷ [] else []) ≡ []) ⊎ (clients_of script.shape + n ≡ bridge_port_of_publisher script.shape r)) [
            | true ↦ λ same. inr (ap (λ (k : ℕ). clients_of script.shape + k) (lone.alone n within ((Decides-eqb (slice_index script.shape.publisher_topics n) wanted).0 same)))
            | false ↦ λ other. inl refl
          ]) refl
      publisher_sends n within (b.Image sub msg) h =
          (elim (same_sub sub s) as (λ c. same_sub sub s ≡ c → ((if c then msg ∷ [] else []) ≡ []) ⊎ (clients_of script.shape + n ≡ bridge_port_of_publisher script.shape r)) [
            | true ↦ λ same. inr (ap (λ (k : ℕ). clients_of script.shape + k) (h.1 same))
            | false ↦ λ other. inl refl
          ]) refl
      publisher_sends n within _ h = inl refl

  pub fed_by : IsFedBy script.shape s wanted r run.bridge
  fed_by = record {
    known = lone.known;
    topic = lone.topic;
    alone = all_weaker (λ (e : ℕ × BridgeNote). PutBy s wanted (Answers s Lone) AnyNote (bridge_putter script.shape e.0) e.1)
        (λ (e : ℕ × BridgeNote). (sent_to script.shape s wanted (put_by (bridge_putter script.shape e.0) e.1) ≡ []) ⊎ (e.0 ≡ bridge_port_of_publisher script.shape r))
        (λ e h. sent_by e.0 e.1 h) run.bridge
        (all_fit (Answers s Lone) AnyNote (answered Lone lone_asked) any_wish);
  }

-- Where every edge is whole, the one publisher of its topic feeds a subscription that the lines join.
pub fed_alone : (script : ScriptData) → IsShaped script → (run : RunData) → AreEdges script run → (s : SubId) (wanted r : ℕ) → IsOnly wanted script.shape.publisher_topics r
    → (terms : SubTerms) → terms_of script run s ≡ Some terms → terms.topic ≡ wanted → IsFedBy script.shape s wanted r run.bridge
fed_alone script counted run edges s wanted r lone terms said topic =
    fed_by script counted run edges s wanted r lone
    (λ c. subst (λ (n : ℕ). AllByRecursion (JoinPut s n) (client_puts script run.clients c)) topic (joins_on s script run.clients terms said c))
    (rows_own script counted run s terms said r (first_own terms.topic topic))
  where
    next_id : 1 + r ≡ r + 1
    next_id = omega arith

    less_known : (k : ℕ) → k < r → k < length script.shape.publisher_topics
    less_known k below = omega (arith, lone.known)

    too_low : (k : ℕ) → k < r → k ≡ r → ⊥
    too_low k below same = omega arith

    first_own : (t : ℕ) → t ≡ wanted → first_sender t 1 script.shape.publisher_topics ≡ r + 1
    first_own t is =
        ap (λ (n : ℕ). first_sender n 1 script.shape.publisher_topics) is
        ∙ first_is wanted script.shape.publisher_topics 1 r lone.known lone.topic
        (λ k below same. absurd (too_low k below (lone.alone k (less_known k below) same))) ∙ next_id
