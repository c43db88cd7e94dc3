-- believed: Scripts and their parts are compared exactly: the tests hold where both sides are one, and nowhere else.
use Rattle.std.specs.Prelude.{Bool, true, false, ◌==◌, ◌&&◌, List}
use Rattle.std.specs.Cmp.Lexicographic.{pointwise}
use Rattle.std.specs.Str.{bytes_eq}
use Rattle.mama_msg.specs.Equality.{same_message}
use Rattle.mama_link.specs.Equality.{same_rows}
use Rattle.mama_event.specs.Equality.{same_sub_kind, same_strategy, same_order, same_plan_row, same_group_row, same_watch_row}
use Rattle.mama_event.specs.declared.order.PlanRow.{PlanRow}
use Rattle.mama_event.specs.declared.shape.Shape.{Shape}
use Rattle.mama_words.specs.declared.version.Version.{Version}
use Rattle.mama_words.specs.declared.version.Version.TheVariants as version
use Rattle.mama_script.specs.declared.publisher.PublisherLine.{PublisherLine}
use Rattle.mama_script.specs.declared.publisher.PublisherLine.TheVariants as sends
use Rattle.mama_script.specs.declared.publisher.PublisherPart.{PublisherPart}
use Rattle.mama_script.specs.declared.client.QueueWord.{QueueWord}
use Rattle.mama_script.specs.declared.client.QueueWord.TheVariants.{Number, Any}
use Rattle.mama_script.specs.declared.client.ClientLine.{ClientLine}
use Rattle.mama_script.specs.declared.client.ClientLine.TheVariants as steps
use Rattle.mama_script.specs.Script.{ScriptData}

-- two words name one queue
abbrev pub same_queue_word : QueueWord → QueueWord → Bool
same_queue_word (Number n) (Number n') = n == n'
same_queue_word Any Any = true
same_queue_word _ _ = false

-- two plans have the same rows, in the same order
abbrev pub same_plan : List PlanRow → List PlanRow → Bool
same_plan a b = pointwise same_plan_row a b

-- two lines of clients are one
abbrev pub same_client_line : ClientLine → ClientLine → Bool
same_client_line (steps.Sub topic kind queue cache recaps faults plan) (steps.Sub topic' kind' queue' cache' recaps' faults' plan') =
    topic == topic' && same_sub_kind kind kind' && same_queue_word queue queue' && cache == cache' && recaps == recaps' && same_rows faults faults' && same_plan plan plan'
same_client_line (steps.Timer queue interval plan) (steps.Timer queue' interval' plan') = same_queue_word queue queue' && interval == interval' && same_plan plan plan'
same_client_line (steps.Inbox queue faults plan) (steps.Inbox queue' faults' plan') = same_queue_word queue queue' && same_rows faults faults' && same_plan plan plan'
same_client_line (steps.Order order) (steps.Order order') = same_order order order'
same_client_line (steps.Now moment) (steps.Now moment') = moment == moment'
same_client_line steps.NowClock steps.NowClock = true
same_client_line (steps.Pause rounds) (steps.Pause rounds') = rounds == rounds'
same_client_line _ _ = false

-- two clients have the same lines, in the same order
abbrev pub same_client : List ClientLine → List ClientLine → Bool
same_client a b = pointwise same_client_line a b

-- two lines of publishers are one
abbrev pub same_publisher_line : PublisherLine → PublisherLine → Bool
same_publisher_line (sends.Update update) (sends.Update update') = same_message update update'
same_publisher_line sends.Recap sends.Recap = true
same_publisher_line (sends.Pause rounds) (sends.Pause rounds') = rounds == rounds'
same_publisher_line _ _ = false

-- two publishers have the same lines, in the same order
abbrev pub same_sends : List PublisherLine → List PublisherLine → Bool
same_sends a b = pointwise same_publisher_line a b

-- two publishers have one topic, the same record to begin with, and the same lines
abbrev pub same_publisher : PublisherPart → PublisherPart → Bool
same_publisher a b = a.topic == b.topic && same_message a.base b.base && same_sends a.lines b.lines

-- two versions are one
abbrev pub same_version : Version → Version → Bool
same_version version.One version.One = true
same_version version.Two version.Two = true
same_version _ _ = false

-- two shapes count the same, and have one strategy
abbrev pub same_shape : Shape → Shape → Bool
same_shape a b = a.clients == b.clients && bytes_eq a.publisher_topics b.publisher_topics && (a.bounds.topics == b.bounds.topics && a.bounds.queues == b.bounds.queues) && same_strategy a.strategy b.strategy

-- two scripts have the same parts
abbrev pub same_script : ScriptData → ScriptData → Bool
same_script a b = same_version a.version b.version && same_shape a.shape b.shape && pointwise bytes_eq a.topics b.topics && pointwise same_publisher a.publishers b.publishers && pointwise same_client a.clients b.clients && pointwise same_group_row a.groups b.groups && pointwise same_watch_row a.watches b.watches
