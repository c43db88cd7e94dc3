-- The images of a script's record, and the laws for rounds.
use Rattle.std.specs.Prelude.{slice_index_or, Option, Some, None}
use Rattle.std.specs.List.{AllByRecursion}
use Rattle.std.proofs.Common.{◌≡◌, ℕ, List, [], refl, sym, subst}
use Rattle.mama_journal.specs.Journal.{first_said}
use Rattle.mama_msg.specs.Field.{FieldData}
use Rattle.mama_event.specs.declared.ids.SubId.{SubId}
use Rattle.mama_event.specs.declared.ids.ObjectId.{ObjectId}
use Rattle.mama_event.specs.declared.ids.ObjectId.TheVariants.{Sub, Timer, Inbox}
use Rattle.mama_event.specs.declared.market.MarketMsg.{MarketMsg}
use Rattle.mama_event.specs.declared.market.SubKind.{SubKind}
use Rattle.mama_event.specs.declared.market.SubKind.TheVariants.{Market, Snapshot, Basic}
use Rattle.mama_event.specs.declared.market.Quality.TheVariants as quality
use Rattle.mama_event.specs.declared.order.PlanRow.{PlanRow}
use Rattle.mama_event.specs.declared.to_queue.Make.{Make}
use Rattle.mama_event.specs.declared.to_queue.Make.TheVariants as make
use Rattle.mama_event.specs.declared.to_queue.QueueNote.{QueueNote}
use Rattle.mama_event.specs.Publisher.{PublisherScript}
use Rattle.mama_dq.specs.declared.table.Phase.{Phase}
use Rattle.mama_dq.specs.declared.table.Phase.TheVariants.{Await, LiveOk, LiveStale, LiveKept}
use Rattle.mama_dq.specs.Cache.{CacheData}
use Rattle.mama_dq.specs.Context.{ContextData, quality_in}
use Rattle.mama_dq.specs.Strategy.{fold}
use Rattle.mama_rules_queue.specs.Queue.{deeds, messages_of, context_of, make_in}
use Rattle.mama_record.specs.RunData.{RunData, LastImage}
use Rattle.mama_script.specs.Script.{ScriptData}
use Rattle.mama_rules_rounds.specs.Setting.{Setting, orders_by}
use Rattle.mama_rules_rounds.specs.Client.{Planned}
use Rattle.mama_rules_rounds.specs.Sections.{publishers_from, setting_of}
use Rattle.mama_rules_rounds.specs.Told.{image_in, last_image, object_calls, noted}
use Rattle.mama_event.specs.declared.callback.Callback.{Callback}
use Rattle.mama_event.specs.declared.callback.CallNote.{CallNote}
use Rattle.mama_event.specs.declared.order.Order.{Order}
use Rattle.mama_event.specs.declared.shape.Strategy.{Strategy}
use Rattle.mama_event.specs.declared.shape.Strategy.TheVariants.{One}
use Rattle.mama_rules_queue.specs.Queue.{calls_of}
use Rattle.mama_record.specs.RunData.{ObjectCalls}
use Rattle.mama_rules_legal.specs.Calls.{IsShapedFor, AreCalls}
use Rattle.mama_rules_legal.specs.Edges.{AreEdges}
use Rattle.mama_laws_genuine.specs.Sent.{IsReply, IsSent, Delivers, Gives, AreGivenSent, DeliveredMessagesAreSent, GivenMessagesAreSent}
use Rattle.mama_laws_genuine.specs.Records.{IsRecord, AreRecords, OkImagesAreRecords}
use Rattle.mama_laws_genuine.proofs.Elements.{all_flat, all_map, all_mapped, all_at}
use Rattle.mama_laws_genuine.proofs.Serving.{all_messages, all_calls}
use Rattle.mama_laws_genuine.proofs.Pinned.{IsPinned, image_pinned}
use Rattle.mama_laws_genuine.proofs.Edged.{queues_sent}

-- ---- images

abbrev pub Told : List PublisherScript → ℕ × QueueNote → Type 0
Told publishers e = Delivers (IsSent publishers) (IsReply publishers) e.1

module _ (publishers : List PublisherScript) where
  -- an image that is ok is a record
  abbrev pub IsRecordIfOk : LastImage → Type 0
  IsRecordIfOk image = image.head.quality ≡ quality.Ok → IsRecord publishers image

  image_record : (s : SubId) (sender last : ℕ) (body : List FieldData) → IsPinned publishers sender last body
      → IsRecord publishers (record { sub = s; head = record { sender = sender; last = last; quality = quality.Ok }; body = body })
  image_record s sender last body pinned = record {
    place = pinned.place;
    publisher = pinned.publisher;
    stands = pinned.stands;
    sender = pinned.sender;
    number = pinned.number;
    body = pinned.body;
  }

  image_records : (s : SubId) (strategy : Strategy) (kind : SubKind) (phase : Phase) (sender last : ℕ) (image : List FieldData) (cache : CacheData)
      → (quality_in phase ≡ quality.Ok → IsPinned publishers sender last image)
      → AllByRecursion IsRecordIfOk (image_in s (record { strategy = strategy; kind = kind; phase = phase; sender = sender; last = last; image = image; cache = cache }))
  image_records s strategy Basic phase sender last image cache pinned = tt
  image_records s strategy Market Await sender last image cache pinned = tt
  image_records s strategy Market LiveOk sender last image cache pinned = (λ ok. image_record s sender last image (pinned refl), tt)
  image_records s strategy Market LiveKept sender last image cache pinned = (λ ok. image_record s sender last image (pinned refl), tt)
  image_records s strategy Market LiveStale sender last image cache pinned = (λ ok. absurd cc, tt)
  image_records s strategy Snapshot Await sender last image cache pinned = tt
  image_records s strategy Snapshot LiveOk sender last image cache pinned = (λ ok. image_record s sender last image (pinned refl), tt)
  image_records s strategy Snapshot LiveKept sender last image cache pinned = (λ ok. image_record s sender last image (pinned refl), tt)
  image_records s strategy Snapshot LiveStale sender last image cache pinned = (λ ok. absurd cc, tt)

  folded : (s : SubId) (strategy : Strategy) (kind : SubKind) (size : ℕ) (messages : List MarketMsg) → AllByRecursion (IsSent publishers) messages
      → AllByRecursion IsRecordIfOk (image_in s (fold strategy kind size messages))
  folded s strategy kind size messages all =
      let c : ContextData = fold strategy kind size messages in
      image_records s c.strategy c.kind c.phase c.sender c.last c.image c.cache (image_pinned publishers strategy kind size messages all)

  made : (s : SubId) (how : Option Make) (messages : List MarketMsg) → AllByRecursion (IsSent publishers) messages
      → AllByRecursion IsRecordIfOk (image_in s (context_of how messages))
  made s (Some (make.Sub kind cache strategy)) messages all = folded s strategy kind cache messages all
  made s (Some make.Timer) messages all = folded s One Basic 0 messages all
  made s (Some make.Inbox) messages all = folded s One Basic 0 messages all
  made s None messages all = folded s One Basic 0 messages all

  pub of_journal : (setting : Setting) (s : SubId) (journal : List (ℕ × QueueNote)) → AllByRecursion (Told publishers) journal
      → AllByRecursion IsRecordIfOk (image_in s (context_of (first_said (λ (e : ℕ × QueueNote). make_in (Sub s) e.1) journal) (messages_of s (deeds (orders_by setting) journal))))
  of_journal setting s journal all =
      made s (first_said (λ (e : ℕ × QueueNote). make_in (Sub s) e.1) journal) (messages_of s (deeds (orders_by setting) journal))
      (all_messages (IsSent publishers) (IsReply publishers) (orders_by setting) s journal all)

  of_object : (setting : Setting) (queues : List (List (ℕ × QueueNote))) (o : ObjectId) (queue : ℕ) (plan : List PlanRow)
      → AllByRecursion (AllByRecursion (Told publishers)) queues
      → AllByRecursion IsRecordIfOk (last_image setting queues (record { object = o; queue = queue; plan = plan }))
  of_object setting queues (Sub s) queue plan all = of_journal setting s (slice_index_or queues queue []) (all_at (Told publishers) queues queue all)
  of_object setting queues (Timer t) queue plan all = tt
  of_object setting queues (Inbox i) queue plan all = tt

module _ (script : ScriptData) (run : RunData) (shaped : IsShapedFor script run) (edges : AreEdges script run) (calls : AreCalls script run) where
  run_records : AreRecords (publishers_from 0 script.publishers) run.images
  run_records =
      let setting : Setting = setting_of script in
      subst (AreRecords (publishers_from 0 script.publishers)) (sym calls.images)
      (all_flat (IsRecordIfOk (publishers_from 0 script.publishers)) (last_image setting run.queues)
      (λ p. of_object (publishers_from 0 script.publishers) setting run.queues p.object p.queue p.plan (queues_sent script run shaped edges)) setting.objects)

  object_given : (p : Planned) → AllByRecursion (λ (n : CallNote). Gives (IsSent (publishers_from 0 script.publishers)) (IsReply (publishers_from 0 script.publishers)) n.call) (object_calls (setting_of script) run.queues p).calls
  object_given p =
      let such : MarketMsg → Type 0 = IsSent (publishers_from 0 script.publishers) in
      let replied : List FieldData → Type 0 = IsReply (publishers_from 0 script.publishers) in
      let journal : List (ℕ × QueueNote) = slice_index_or run.queues p.queue [] in
      all_map (λ (c : Callback × List Order). Gives such replied c.0) (λ (n : CallNote). Gives such replied n.call) noted (λ c g. g)
      (calls_of p.object (deeds (orders_by (setting_of script)) journal))
      (all_calls such replied (orders_by (setting_of script)) p.object journal
      (all_at (Told (publishers_from 0 script.publishers)) run.queues p.queue (queues_sent script run shaped edges)))

  run_given : AreGivenSent (publishers_from 0 script.publishers) run.calls
  run_given =
      subst (AreGivenSent (publishers_from 0 script.publishers)) (sym calls.calls)
      (all_mapped (λ (o : ObjectCalls). AllByRecursion (λ (n : CallNote). Gives (IsSent (publishers_from 0 script.publishers)) (IsReply (publishers_from 0 script.publishers)) n.call) o.calls)
      (object_calls (setting_of script) run.queues) object_given (setting_of script).objects)

pub messages_are_sent : DeliveredMessagesAreSent
messages_are_sent script run shaped edges = queues_sent script run shaped edges

pub images_are_records : OkImagesAreRecords
images_are_records script run shaped edges calls = run_records script run shaped edges calls

pub given_are_sent : GivenMessagesAreSent
given_are_sent script run shaped edges calls = run_given script run shaped edges calls

-- ---- rounds
