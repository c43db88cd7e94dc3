-- believed: What the lines before a line say about it: its faults from 9 on, and the limits that it passes.
use Rattle.std.specs.Prelude.{ℕ, ◌+◌, ◌-◌, ◌^◌, min, Bool, ◌==◌, nat_lt, nat_le, List, [], length, Option, Some, None, unwrap_or, if◌then◌else◌}
use Rattle.std.specs.List.{list_any}
use Rattle.std.specs.Ordering.{nat_cmp}
use Rattle.std.specs.Map.{lookup}
use Rattle.std.specs.BTreeMap.{is_at, insert_entry}
use Rattle.std.specs.BTreeSet.{insert_key}
use Rattle.mama_msg.specs.Field.{FieldData}
use Rattle.mama_msg.specs.Message.{apply}
use Rattle.mama_words.specs.declared.order.OrderWord.{OrderWord}
use Rattle.mama_words.specs.declared.order.OrderWord.TheVariants as orders
use Rattle.mama_words.specs.declared.version.Version.{Version}
use Rattle.mama_words.specs.declared.version.Version.TheVariants as versions
use Rattle.mama_script.specs.declared.head.Place.{Place}
use Rattle.mama_script.specs.declared.head.Place.TheVariants as places
use Rattle.mama_script.specs.declared.fault.Flaw.{Flaw}
use Rattle.mama_script.specs.declared.fault.Flaw.TheVariants.{Fault, Limit}
use Rattle.mama_script.specs.declared.line.QueueName.{QueueName}
use Rattle.mama_script.specs.declared.line.QueueName.TheVariants.{Number, Any}
use Rattle.mama_script.specs.declared.line.Line.{Line}
use Rattle.mama_script.specs.declared.line.Line.TheVariants as lines

-- what was declared so far, and what the section and the object at hand have
pub record Before : Type 0 where
  -- the version of the text
  pub version : Version
  -- where the next line stands
  pub place : Place
  -- the numbers of queues, topics, publishers, clients and subscriptions
  pub queues : ℕ
  pub topics : ℕ
  pub publishers : ℕ
  pub clients : ℕ
  pub subs : ℕ
  -- the timers and inboxes of the client at hand
  pub objects : ℕ
  -- the record of the publisher at hand, and its topic
  pub held : List FieldData
  pub topic : ℕ
  -- for each topic that sends, what one subscription of it weighs, in order of topics
  pub weights : List (ℕ × ℕ)
  -- what all subscriptions so far weigh
  pub weight : ℕ
  -- the fault indexes of the object at hand, in order, and for each call how many orders are planned
  pub indexes : List ℕ
  pub calls : List (ℕ × ℕ)

-- where the line behind the first stands: version 2 tells its strategy there
abbrev pub opening : Version → Place
opening versions.One = places.Start
opening versions.Two = places.Strategy

-- behind the first line of a version
abbrev pub start : Version → Before
start v = record {
  version = v;
  place = opening v;
  queues = 0;
  topics = 0;
  publishers = 0;
  clients = 0;
  subs = 0;
  objects = 0;
  held = [];
  topic = 0;
  weights = [];
  weight = 0;
  indexes = [];
  calls = [];
}

-- the greatest numbers
abbrev pub most_queues : ℕ
most_queues = 64

abbrev pub most_topics : ℕ
most_topics = 1024

abbrev pub most_publishers : ℕ
most_publishers = 1024

abbrev pub most_clients : ℕ
most_clients = 64

abbrev pub most_subs : ℕ
most_subs = 10000

abbrev pub most_objects : ℕ
most_objects = 1024

abbrev pub most_fields : ℕ
most_fields = 64

abbrev pub most_weight : ℕ
most_weight = 2000000

abbrev pub most_orders : ℕ
most_orders = 8

-- what a recap line weighs
abbrev pub recap_weight : ℕ
recap_weight = 65

-- a sum of weights, which stands still at the end of its type, far above the limit
abbrev pub heavier : ℕ → ℕ → ℕ
heavier weight more = min (weight + more) (2 ^ 64 - 1)

-- the number that a list of numbers has under a key, or 0
abbrev pub number_at : ℕ → List (ℕ × ℕ) → ℕ
number_at key numbers = unwrap_or (lookup (is_at (nat_cmp key)) numbers) 0

-- the publisher at hand has a line of this weight
abbrev pub with_send : ℕ → Before → Before
with_send more b = record b { weights = insert_entry nat_cmp b.weights b.topic (heavier (number_at b.topic b.weights) more) }

-- a subscription or an inbox begins, or a timer
abbrev pub with_object : Place → Before → Before
with_object place b = record b { place = place; indexes = []; calls = [] }

-- a line that is no part of an object stands behind what was at hand
abbrev pub beside : Place → Place
beside places.Publisher = places.Publisher
beside _ = places.Client

-- what all subscriptions weigh once there is one more of the topic
abbrev pub weight_with : ℕ → Before → ℕ
weight_with topic b = heavier b.weight (number_at topic b.weights)

abbrev pub after_strategy : Before → Before
after_strategy b = record b { place = places.Start }

abbrev pub after_queues : ℕ → Before → Before
after_queues n b = record b { queues = n; place = places.Topics }

abbrev pub after_topic : Before → Before
after_topic b = record b { topics = b.topics + 1 }

abbrev pub after_publisher : ℕ → List FieldData → Before → Before
after_publisher topic base b = record b { held = base; topic = topic; publishers = b.publishers + 1; place = places.Publisher }

abbrev pub after_update : List FieldData → Before → Before
after_update update b = with_send (length update + 1) (record b { held = apply b.held update })

abbrev pub after_client : Before → Before
after_client b = record b { clients = b.clients + 1; objects = 0; place = places.Client }

abbrev pub after_sub : ℕ → Before → Before
after_sub topic b = with_object places.Linked (record b { weight = weight_with topic b; subs = b.subs + 1 })

abbrev pub after_timer : Before → Before
after_timer b = with_object places.Planned (record b { objects = b.objects + 1 })

abbrev pub after_inbox : Before → Before
after_inbox b = with_object places.Linked (record b { objects = b.objects + 1 })

abbrev pub after_fault : ℕ → Before → Before
after_fault index b = record b { indexes = insert_key nat_cmp b.indexes index }

abbrev pub after_at : ℕ → Before → Before
after_at call b = record b { calls = insert_entry nat_cmp b.calls call (number_at call b.calls + 1); place = places.Planned }

abbrev pub after_step : Before → Before
after_step b = record b { place = beside b.place }

abbrev pub after_group : Before → Before
after_group b = record b { place = places.Groups }

abbrev pub after_watch : Before → Before
after_watch b = record b { place = places.Watches }

-- what is so behind a line
abbrev pub after : Before → Line → Before
after b (lines.Strategy strategy) = after_strategy b
after b (lines.Queues n) = after_queues n b
after b (lines.Topic name) = after_topic b
after b (lines.Publisher topic base) = after_publisher topic base b
after b (lines.Update update) = after_update update b
after b lines.Recap = with_send recap_weight b
after b lines.Client = after_client b
after b (lines.Sub topic kind queue cache recaps) = after_sub topic b
after b (lines.Timer queue interval) = after_timer b
after b (lines.Inbox queue) = after_inbox b
after b (lines.Fault row) = after_fault row.index b
after b (lines.At call order) = after_at call b
after b (lines.Group ids) = after_group b
after b (lines.Watch sub timer retries) = after_watch b
after b _ = after_step b

-- this flaw where the test holds, and otherwise what else there is
abbrev pub flaw_if : Bool → Flaw → Option Flaw → Option Flaw
flaw_if test flaw rest = if test then Some flaw else rest

-- the first of two flaws
abbrev pub first_flaw : Option Flaw → Option Flaw → Option Flaw
first_flaw None rest = rest
first_flaw (Some flaw) rest = Some flaw

abbrev pub topic_flaw : ℕ → Before → Option Flaw
topic_flaw topic b = flaw_if (nat_le b.topics topic) (Fault 9) None

abbrev pub queue_flaw : QueueName → Before → Option Flaw
queue_flaw (Number queue) b = flaw_if (nat_le b.queues queue) (Fault 9) None
queue_flaw Any b = None

-- an ask names a topic
abbrev pub order_flaw : OrderWord → Before → Option Flaw
order_flaw (orders.Ask inbox topic fids) b = topic_flaw topic b
order_flaw _ b = None

abbrev pub publisher_flaw : ℕ → List FieldData → Before → Option Flaw
publisher_flaw topic base b =
    first_flaw (topic_flaw topic b) (flaw_if (nat_le most_publishers b.publishers) (Limit 4) (flaw_if (nat_lt most_fields (length base)) (Limit 8) None))

-- the fields of the line, and those of the publisher's record after it
abbrev pub update_flaw : List FieldData → Before → Option Flaw
update_flaw update b = flaw_if (nat_lt most_fields (length update)) (Limit 8) (flaw_if (nat_lt most_fields (length (apply b.held update))) (Limit 8) None)

abbrev pub sub_flaw : ℕ → QueueName → Before → Option Flaw
sub_flaw topic queue b =
    first_flaw (topic_flaw topic b) (first_flaw (queue_flaw queue b)
    (flaw_if (nat_le most_subs b.subs) (Limit 6) (flaw_if (nat_lt most_weight (weight_with topic b)) (Limit 9) None)))

abbrev pub object_flaw : Before → Option Flaw
object_flaw b = flaw_if (nat_le most_objects b.objects) (Limit 7) None

abbrev pub timer_flaw : QueueName → ℕ → Before → Option Flaw
timer_flaw queue interval b = first_flaw (queue_flaw queue b) (flaw_if (interval == 0) (Fault 12) (object_flaw b))

abbrev pub fault_flaw : ℕ → Before → Option Flaw
fault_flaw index b = flaw_if (list_any (is_at (nat_cmp index)) b.indexes) (Fault 11) None

abbrev pub at_flaw : ℕ → OrderWord → Before → Option Flaw
at_flaw call order b = first_flaw (order_flaw order b) (flaw_if (nat_le most_orders (number_at call b.calls)) (Fault 11) None)

abbrev pub inbox_flaw : QueueName → Before → Option Flaw
inbox_flaw queue b = first_flaw (queue_flaw queue b) (object_flaw b)

abbrev pub queues_flaw : ℕ → Option Flaw
queues_flaw n = flaw_if (nat_lt most_queues n) (Limit 2) None

abbrev pub topics_flaw : Before → Option Flaw
topics_flaw b = flaw_if (nat_le most_topics b.topics) (Limit 3) None

abbrev pub client_flaw : Before → Option Flaw
client_flaw b = flaw_if (nat_le most_clients b.clients) (Limit 5) None

-- the lowest of a line's faults from 9 on, and otherwise the lowest limit that it passes
abbrev pub flaw : Before → Line → Option Flaw
flaw b (lines.Queues n) = queues_flaw n
flaw b (lines.Topic name) = topics_flaw b
flaw b (lines.Publisher topic base) = publisher_flaw topic base b
flaw b (lines.Update update) = update_flaw update b
flaw b lines.Client = client_flaw b
flaw b (lines.Sub topic kind queue cache recaps) = sub_flaw topic queue b
flaw b (lines.Timer queue interval) = timer_flaw queue interval b
flaw b (lines.Inbox queue) = inbox_flaw queue b
flaw b (lines.Fault row) = fault_flaw row.index b
flaw b (lines.At call order) = at_flaw call order b
flaw b (lines.Order order) = order_flaw order b
flaw b _ = None
