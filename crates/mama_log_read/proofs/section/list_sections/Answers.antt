use Rattle.std.proofs.Common.{map}
use Rattle.mama_log_read.specs.Section.{titles, numbered_from}
use Rattle.mama_log_read.specs.declared.section.Section.TheVariants.{Client, Publisher, Queue, Object, Group, Watch}
use Rattle.mama_log_read.proofs.Sections.{in_a_row}
use Rattle.mama_log_read.proofs.section.list_sections.Goals as goal

pub returns : goal.returns
returns c =
    in_a_row (titles c.args.version c.args.strategy) (numbered_from Client 0 c.args.clients) (numbered_from Publisher 0 c.args.publishers) (numbered_from Queue 0 c.args.queues) (map Object c.args.objects.now) (numbered_from Group 0 c.args.groups) (numbered_from Watch 0 c.args.watches) c.new-sections.ensures.items
    c.in_ok-add_titles.ensures c.in_ok-add_clients.ensures c.in_ok-add_publishers.ensures c.in_ok-push.ensures.items c.in_ok-push-2.ensures.items c.in_ok-add_queues.ensures c.in_ok-add_objects.ensures c.in_ok-add_groups.ensures c.in_ok-add_watches.ensures c.in_ok-push-3.ensures.items
    c.in_ok-push-4.ensures.items
