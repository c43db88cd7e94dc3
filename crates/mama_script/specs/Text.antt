-- inner: The text of each part of a script.
use Rattle.std.specs.Prelude.{ℕ, List, ◌∷◌}
use Rattle.std.specs.List.{flat_map}
use Rattle.mama_event.specs.declared.order.PlanRow.{PlanRow}
use Rattle.mama_link.specs.declared.faults.FaultRow.{FaultRow}
use Rattle.mama_script.specs.declared.publisher.PublisherLine.{PublisherLine}
use Rattle.mama_script.specs.declared.publisher.PublisherPart.{PublisherPart}
use Rattle.mama_script.specs.declared.client.ClientLine.{ClientLine}
use Rattle.mama_script.specs.Line.{ended}
use Rattle.mama_event.specs.declared.ids.SubId.{SubId}
use Rattle.mama_event.specs.declared.group.GroupRow.{GroupRow}
use Rattle.mama_event.specs.declared.watch.WatchRow.{WatchRow}
use Rattle.mama_words.specs.Id.{sub_text}
use Rattle.mama_script.specs.Tree.{group_line, watch_line, plan_line, fault_line, object_lines, publisher_line, publisher_lines, step_lines, client_lines, topic_line}

abbrev pub topic_text : List ℕ → List ℕ
topic_text name = ended (topic_line name)

abbrev pub send_text : PublisherLine → List ℕ
send_text line = ended (publisher_line line)

abbrev pub publisher_text : PublisherPart → List ℕ
publisher_text part = flat_map ended (publisher_lines part)

abbrev pub fault_text : FaultRow → List ℕ
fault_text row = ended (fault_line row)

abbrev pub plan_text : PlanRow → List ℕ
plan_text row = ended (plan_line row)

abbrev pub object_text : List FaultRow → List PlanRow → List ℕ
object_text faults plan = flat_map ended (object_lines faults plan)

abbrev pub step_text : ClientLine → List ℕ
step_text step = flat_map ended (step_lines step)

abbrev pub client_text : List ClientLine → List ℕ
client_text client = flat_map ended (client_lines client)

abbrev pub member_text : SubId → List ℕ
member_text sub = 32 ∷ sub_text sub

abbrev pub group_text : GroupRow → List ℕ
group_text row = ended (group_line row)

abbrev pub watch_text : WatchRow → List ℕ
watch_text row = ended (watch_line row)
