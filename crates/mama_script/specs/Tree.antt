-- believed: The lines that a script has, in order: its one spelling is theirs.
use Rattle.std.specs.Prelude.{◌≡◌, ℕ, suc, ◌==◌, List, [], ◌∷◌, ◌++◌, length, map, Option, Some, None, option_and_then, slice_get, if◌then◌else◌}
use Rattle.std.specs.List.{flat_map, AllByRecursion}
use Rattle.mama_event.specs.declared.order.PlanRow.{PlanRow}
use Rattle.mama_event.specs.declared.shape.Strategy.{Strategy}
use Rattle.mama_event.specs.declared.shape.Strategy.TheVariants as strategy
use Rattle.mama_link.specs.declared.faults.FaultRow.{FaultRow}
use Rattle.mama_words.specs.declared.version.Version.{Version}
use Rattle.mama_words.specs.declared.version.Version.TheVariants as version
use Rattle.mama_words.specs.Order.{word_of}
use Rattle.mama_words.specs.Id.{sub_word, timer_word}
use Rattle.mama_event.specs.declared.ids.SubId.{SubId}
use Rattle.mama_event.specs.declared.group.GroupRow.{GroupRow}
use Rattle.mama_event.specs.declared.watch.WatchRow.{WatchRow}
use Rattle.mama_script.specs.declared.line.QueueName.{QueueName}
use Rattle.mama_script.specs.declared.line.QueueName.TheVariants as names
use Rattle.mama_script.specs.declared.line.Line.{Line}
use Rattle.mama_script.specs.declared.line.Line.TheVariants as lines
use Rattle.mama_script.specs.declared.publisher.PublisherLine.{PublisherLine}
use Rattle.mama_script.specs.declared.publisher.PublisherLine.TheVariants as sends
use Rattle.mama_script.specs.declared.publisher.PublisherPart.{PublisherPart}
use Rattle.mama_script.specs.declared.client.QueueWord.{QueueWord}
use Rattle.mama_script.specs.declared.client.QueueWord.TheVariants as words
use Rattle.mama_script.specs.declared.client.ClientLine.{ClientLine}
use Rattle.mama_script.specs.declared.client.ClientLine.TheVariants as steps
use Rattle.mama_script.specs.Script.{ScriptData}
use Rattle.mama_script.specs.Reading.{spelling, AreAccepted}

abbrev pub queue_name : QueueWord → QueueName
queue_name (words.Number n) = names.Number n
queue_name words.Any = names.Any

abbrev pub plan_line : PlanRow → Line
plan_line row = lines.At row.call (word_of row.order)

abbrev pub fault_line : FaultRow → Line
fault_line row = lines.Fault row

-- the fault lines of an object, and its at lines
abbrev pub object_lines : List FaultRow → List PlanRow → List Line
object_lines faults plan = map fault_line faults ++ map plan_line plan

abbrev pub publisher_line : PublisherLine → Line
publisher_line (sends.Update update) = lines.Update update
publisher_line sends.Recap = lines.Recap
publisher_line (sends.Pause rounds) = lines.Pause rounds

-- a publisher's section
abbrev pub publisher_lines : PublisherPart → List Line
publisher_lines part = lines.Publisher part.topic part.base ∷ map publisher_line part.lines

-- a step of a client, with the lines that belong to it
abbrev pub step_lines : ClientLine → List Line
step_lines (steps.Sub topic kind queue cache recaps faults plan) = lines.Sub topic kind (queue_name queue) cache recaps ∷ object_lines faults plan
step_lines (steps.Timer queue interval plan) = lines.Timer (queue_name queue) interval ∷ object_lines [] plan
step_lines (steps.Inbox queue faults plan) = lines.Inbox (queue_name queue) ∷ object_lines faults plan
step_lines (steps.Order order) = lines.Order (word_of order) ∷ []
step_lines (steps.Now moment) = lines.Now moment ∷ []
step_lines steps.NowClock = lines.NowClock ∷ []
step_lines (steps.Pause rounds) = lines.Pause rounds ∷ []

-- a client's section
abbrev pub client_lines : List ClientLine → List Line
client_lines client = lines.Client ∷ flat_map step_lines client

abbrev pub topic_line : List ℕ → Line
topic_line name = lines.Topic name

-- version 2 tells its strategy
abbrev pub strategy_lines : Version → Strategy → List Line
strategy_lines version.One strategy = []
strategy_lines version.Two strategy = lines.Strategy strategy ∷ []

abbrev pub group_line : GroupRow → Line
group_line row = lines.Group (map sub_word row.members)

abbrev pub watch_line : WatchRow → Line
watch_line row = lines.Watch (sub_word row.sub) (timer_word row.timer) row.retries

-- the groups and the watches, behind the sections
abbrev pub last_lines : List GroupRow → List WatchRow → List Line
last_lines groups watches = map group_line groups ++ map watch_line watches

-- the queues, the topics, the sections, the groups and the watches
abbrev pub body_lines : ScriptData → List Line
body_lines s =
    lines.Queues s.shape.bounds.queues
    ∷ (map topic_line s.topics ++ (flat_map publisher_lines s.publishers ++ (flat_map client_lines s.clients ++ last_lines s.groups s.watches)))

-- the lines of a script behind the first
abbrev pub lines_of : ScriptData → List Line
lines_of s = strategy_lines s.version s.shape.strategy ++ body_lines s

-- the one text of a script
abbrev pub script_text : ScriptData → List ℕ
script_text s = spelling (lines_of s)

abbrev pub topic_of_part : PublisherPart → ℕ
topic_of_part part = part.topic

-- the same script in version 2, which tells the strategy that it has
abbrev pub in_two : ScriptData → ScriptData
in_two s = record s { version = version.Two }

-- a script of version 1 has the first strategy
abbrev pub HasStrategy : Version → Strategy → Type 0
HasStrategy version.One s = s ≡ strategy.One
HasStrategy version.Two s = Unit {0}

-- the topics of a client's subscriptions, in order
abbrev pub topic_in : ClientLine → List ℕ
topic_in (steps.Sub topic kind queue cache recaps faults plan) = topic ∷ []
topic_in _ = []

abbrev pub topics_in : List ClientLine → List ℕ
topics_in client = flat_map topic_in client

-- the id of the first publisher of a topic, where the first of these topics is that of the publisher with the id n; 0 where there is none
abbrev pub first_sender : ℕ → ℕ → List ℕ → ℕ
first_sender topic n [] = 0
first_sender topic n (t ∷ ts) = if t == topic then n else first_sender topic (suc n) ts

abbrev pub sender_or_none : List ℕ → Option ℕ → ℕ
sender_or_none topics None = 0
sender_or_none topics (Some topic) = first_sender topic 1 topics

-- the id of the first publisher of a subscription's topic
abbrev pub sender_of : ScriptData → SubId → ℕ
sender_of s sub = sender_or_none s.shape.publisher_topics (option_and_then (λ lines. slice_get (topics_in lines) sub.number) (slice_get s.clients sub.client))

abbrev pub HasSender : ScriptData → WatchRow → Type 0
HasSender s row = row.sender ≡ sender_of s row.sub

-- the shape of a script counts what the script has, and each watch has the sender of its subscription
pub record IsShaped (s : ScriptData) : Type 0 where
  pub clients : s.shape.clients ≡ length s.clients
  pub topics : s.shape.bounds.topics ≡ length s.topics
  pub publishers : s.shape.publisher_topics ≡ map topic_of_part s.publishers
  pub strategy : HasStrategy s.version s.shape.strategy
  pub senders : AllByRecursion (HasSender s) s.watches

-- a script that a text spells
pub record IsScript (s : ScriptData) : Type 0 where
  pub shaped : IsShaped s
  pub accepted : AreAccepted (lines_of s)
