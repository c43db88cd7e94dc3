-- believed: What the users of a script may rely on: what its lines name is declared, and its counts are within the limits.
use Rattle.std.specs.Prelude.{◌≡◌, ℕ, ◌+◌, ◌<◌, ◌≤◌, ◌==◌, true, false, List, [], ◌∷◌, ◌++◌, length, map, if◌then◌else◌}
use Rattle.std.specs.List.{AllByRecursion}
use Rattle.mama_event.specs.declared.order.Order.{Order}
use Rattle.mama_event.specs.declared.order.Order.TheVariants as orders
use Rattle.mama_event.specs.declared.order.PlanRow.{PlanRow}
use Rattle.mama_msg.specs.Field.{FieldData}
use Rattle.mama_msg.specs.Message.{apply}
use Rattle.mama_script.specs.declared.publisher.PublisherLine.{PublisherLine}
use Rattle.mama_script.specs.declared.publisher.PublisherLine.TheVariants as sends
use Rattle.mama_script.specs.declared.publisher.PublisherPart.{PublisherPart}
use Rattle.mama_script.specs.declared.client.QueueWord.{QueueWord}
use Rattle.mama_script.specs.declared.client.QueueWord.TheVariants.{Number, Any}
use Rattle.mama_script.specs.declared.client.ClientLine.{ClientLine}
use Rattle.mama_script.specs.declared.client.ClientLine.TheVariants as steps
use Rattle.mama_script.specs.declared.names.Made.{Made}
use Rattle.mama_script.specs.Names.{nothing_made, with_sub, with_timer, with_inbox, is_order_named}
use Rattle.mama_script.specs.Script.{ScriptData}
use Rattle.mama_words.specs.Order.{word_of}
use Rattle.mama_words.specs.declared.id.IdWord.{IdWord}
use Rattle.mama_words.specs.Id.{sub_word, timer_word}
use Rattle.mama_event.specs.declared.group.GroupRow.{GroupRow}
use Rattle.mama_event.specs.declared.watch.WatchRow.{WatchRow}
use Rattle.mama_script.specs.Placing.{has_id}
use Rattle.mama_words.specs.declared.version.Version.TheVariants as version

-- a queue that is declared, or any
abbrev pub IsQueueWithin : ℕ → QueueWord → Type 0
IsQueueWithin queues (Number queue) = queue < queues
IsQueueWithin queues Any = Unit {0}

-- an ask names a topic that is declared
abbrev pub IsOrderWithin : ℕ → Order → Type 0
IsOrderWithin topics (orders.Ask id topic fids) = topic < topics
IsOrderWithin topics _ = Unit {0}

abbrev pub AreOrdersWithin : ℕ → List PlanRow → Type 0
AreOrdersWithin topics [] = Unit {0}
AreOrdersWithin topics (row ∷ rows) = IsOrderWithin topics row.order × AreOrdersWithin topics rows

-- how many orders are planned for a call
abbrev pub planned : ℕ → List PlanRow → ℕ
planned call [] = 0
planned call (row ∷ rows) = (if row.call == call then 1 else 0) + planned call rows

pub record IsPlanWithin (topics : ℕ) (plan : List PlanRow) : Type 0 where
  pub orders : AreOrdersWithin topics plan
  pub calls : (call : ℕ) → planned call plan ≤ 8

abbrev pub IsStepWithin : ℕ → ℕ → ClientLine → Type 0
IsStepWithin topics queues (steps.Sub topic kind queue cache recaps faults plan) = (topic < topics) × IsQueueWithin queues queue × IsPlanWithin topics plan
IsStepWithin topics queues (steps.Timer queue interval plan) = IsQueueWithin queues queue × (1 ≤ interval) × IsPlanWithin topics plan
IsStepWithin topics queues (steps.Inbox queue faults plan) = IsQueueWithin queues queue × IsPlanWithin topics plan
IsStepWithin topics queues (steps.Order order) = IsOrderWithin topics order
IsStepWithin topics queues _ = Unit {0}

-- how many subscriptions a step makes, and how many timers and inboxes
abbrev pub subs_of : ClientLine → ℕ
subs_of (steps.Sub topic kind queue cache recaps faults plan) = 1
subs_of _ = 0

abbrev pub objects_of : ClientLine → ℕ
objects_of (steps.Timer queue interval plan) = 1
objects_of (steps.Inbox queue faults plan) = 1
objects_of _ = 0

abbrev pub subs_in : List ClientLine → ℕ
subs_in [] = 0
subs_in (s ∷ ss) = subs_of s + subs_in ss

abbrev pub objects_in : List ClientLine → ℕ
objects_in [] = 0
objects_in (s ∷ ss) = objects_of s + objects_in ss

abbrev pub all_subs : List (List ClientLine) → ℕ
all_subs [] = 0
all_subs (c ∷ cs) = subs_in c + all_subs cs

pub record IsClientWithin (topics queues : ℕ) (client : List ClientLine) : Type 0 where
  pub steps : AllByRecursion (IsStepWithin topics queues) client
  pub objects : objects_in client ≤ 1024

-- what a client makes, with a step more
abbrev pub made_with_step : Made → ClientLine → Made
made_with_step made (steps.Sub topic kind queue cache recaps faults plan) = with_sub made
made_with_step made (steps.Timer queue interval plan) = with_timer made
made_with_step made (steps.Inbox queue faults plan) = with_inbox made
made_with_step made _ = made

abbrev pub made_with_steps : Made → List ClientLine → Made
made_with_steps made [] = made
made_with_steps made (s ∷ ss) = made_with_steps (made_with_step made s) ss

-- how many objects of each kind a client makes
abbrev pub made_of : List ClientLine → Made
made_of client = made_with_steps nothing_made client

-- each order of a plan names an object that is there, when the clients make these
abbrev pub ArePlanned : List Made → List PlanRow → Type 0
ArePlanned made [] = Unit {0}
ArePlanned made (row ∷ rows) = (is_order_named made (word_of row.order) ≡ true) × ArePlanned made rows

-- so does each order of a step
abbrev pub IsStepNamed : List Made → ClientLine → Type 0
IsStepNamed made (steps.Sub topic kind queue cache recaps faults plan) = ArePlanned made plan
IsStepNamed made (steps.Timer queue interval plan) = ArePlanned made plan
IsStepNamed made (steps.Inbox queue faults plan) = ArePlanned made plan
IsStepNamed made (steps.Order order) = is_order_named made (word_of order) ≡ true
IsStepNamed made _ = Unit {0}

abbrev pub AreStepsNamed : List Made → List ClientLine → Type 0
AreStepsNamed made client = AllByRecursion (IsStepNamed made) client

-- the record behind a line of a publisher
abbrev pub held_after : List FieldData → PublisherLine → List FieldData
held_after held (sends.Update update) = apply held update
held_after held _ = held

-- an update and the record behind it have at most 64 fields each
abbrev pub IsSendWithin : List FieldData → PublisherLine → Type 0
IsSendWithin held (sends.Update update) = (length update ≤ 64) × (length (apply held update) ≤ 64)
IsSendWithin held _ = Unit {0}

abbrev pub AreSendsWithin : List FieldData → List PublisherLine → Type 0
AreSendsWithin held [] = Unit {0}
AreSendsWithin held (l ∷ ls) = IsSendWithin held l × AreSendsWithin (held_after held l) ls

pub record IsPublisherWithin (topics : ℕ) (part : PublisherPart) : Type 0 where
  pub topic : part.topic < topics
  pub base : length part.base ≤ 64
  pub sends : AreSendsWithin part.base part.lines

-- no id stands twice
abbrev pub AreIdsApart : List IdWord → Type 0
AreIdsApart [] = Unit {0}
AreIdsApart (x ∷ xs) = (has_id x xs ≡ false) × AreIdsApart xs

-- the members of all groups, and the subscriptions and the timers of all watches, in order
abbrev pub all_grouped : List GroupRow → List IdWord
all_grouped [] = []
all_grouped (g ∷ groups) = map sub_word g.members ++ all_grouped groups

abbrev pub watched_subs : List WatchRow → List IdWord
watched_subs watches = map (λ (w : WatchRow). sub_word w.sub) watches

abbrev pub watched_timers : List WatchRow → List IdWord
watched_timers watches = map (λ (w : WatchRow). timer_word w.timer) watches

abbrev pub HasMember : GroupRow → Type 0
HasMember g = 0 < length g.members

pub record IsWithin (s : ScriptData) : Type 0 where
  pub queues_some : 1 ≤ s.shape.bounds.queues
  pub queues_few : s.shape.bounds.queues ≤ 64
  pub topics_few : length s.topics ≤ 1024
  pub publishers_few : length s.publishers ≤ 1024
  pub clients_some : 1 ≤ length s.clients
  pub clients_few : length s.clients ≤ 64
  pub subs_few : all_subs s.clients ≤ 10000
  pub publishers : AllByRecursion (IsPublisherWithin (length s.topics)) s.publishers
  pub clients : AllByRecursion (IsClientWithin (length s.topics) s.shape.bounds.queues) s.clients
  pub named : AllByRecursion (AreStepsNamed (map made_of s.clients)) s.clients
  pub groups_few : length s.groups ≤ 10000
  pub watches_few : length s.watches ≤ 10000
  pub unlisted : s.version ≡ version.One → (s.groups ≡ []) × (s.watches ≡ [])
  pub members : AllByRecursion HasMember s.groups
  pub grouped : AreIdsApart (all_grouped s.groups)
  pub watched : AreIdsApart (watched_subs s.watches)
  pub timed : AreIdsApart (watched_timers s.watches)
