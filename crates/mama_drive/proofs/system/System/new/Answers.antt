use Rattle.std.proofs.Common.{◌≡◌, ap, length, ◌∙◌, sym, subst, arith, List, ◌<◌, ◌≤◌, ◌^◌}
use Rattle.std.specs.Arc.{arc_value}
use Rattle.std.specs.List.{AllByRecursion}
use Rattle.std.proofs.lemmas.List.{length-map}
use Rattle.mama_script.specs.declared.publisher.PublisherPart.{PublisherPart}
use Rattle.mama_script.specs.Tree.{topic_of_part}
use Rattle.mama_event.specs.declared.to_bridge.BridgeNote.{BridgeNote}
use Rattle.mama_event.specs.declared.to_timers.TimersNote.{TimersNote}
use Rattle.mama_event.specs.declared.shape.Shape.{Shape}
use Rattle.mama_event.specs.Ports.{bridge_ports, clients_of, publishers_of}
use Rattle.mama_journal.specs.Journal.{numbers_below}
use Rattle.mama_event.specs.Ports.{queues_of}
use Rattle.mama_rules_rounds.specs.Sections.{setting_of}
use Rattle.mama_plans.specs.Lists.{groups_on, watches_on}
use Rattle.mama_timeout.specs.Table.{AreApart}
use Rattle.mama_seats.specs.Heard.{IsGroupList}
use Rattle.mama_drive.specs.Seat.{ServiceSeat}
use Rattle.mama_drive.specs.Start.{stands_from, senders_from}
use Rattle.mama_drive.proofs.SystemLemmas.{new_system}
use Rattle.mama_drive.proofs.StartLemmas.{stands_length, senders_length, few_ports, small_bases, queues_new, queues_started, started_as, lists_alike}
use Rattle.mama_drive.proofs.ApartLemmas.{groups_listed, watches_listed, all_items}
use Rattle.mama_drive.proofs.system.System.new.Goals as goal

pub invariant_of-result : goal.invariant_of-result
invariant_of-result c =
    let shape = c.shape-shape.ensures in
    new_system _ _ _ (arc_value c.args.plans) _ _ c.in_ok-clients.clients.items c.in_ok-publishers.publishers.items c.in_ok-queues.queues.items c.args.script.now.publishers _ _
    (subst (λ (s : Shape). bridge_ports s < 2 ^ 32) (sym shape.value) (few_ports c.args.script.now shape.script shape.within))
    (ap (λ (b : ServiceSeat BridgeNote). b.shape) c.in_ok-bridge.ensures) (ap (λ (t : ServiceSeat TimersNote). t.shape) c.in_ok-timers.ensures)
    (ap length c.in_ok-clients.ensures ∙ stands_length _ 0 c.clients.result.now ∙ ap length c.clients.ensures ∙ sym shape.script.shaped.clients ∙ sym (ap clients_of shape.value))
    (ap length c.in_ok-publishers.ensures ∙ senders_length 0 c.publishers.result.now ∙ ap length c.publishers.ensures
    ∙ sym (ap length shape.script.shaped.publishers ∙ length-map c.args.script.now.publishers topic_of_part) ∙ sym (ap publishers_of shape.value))
    (c.in_ok-publishers.ensures ∙ ap (senders_from 0) c.publishers.ensures)
    (queues_new c.args.script.now (arc_value c.args.plans) _ c.in_ok-groups.groups.items c.in_ok-watches.watches.items c.in_ok-queues.queues.items shape.value c.requires
    c.in_ok-groups.ensures c.in_ok-watches.ensures c.in_ok-queues.ensures)

pub returns : goal.returns
returns c =
    let shape = c.shape-shape.ensures in
    started_as c.args.script.now (arc_value c.args.plans) _ c.in_ok-clients.clients.items c.in_ok-publishers.publishers.items c.in_ok-queues.queues.items c.in_ok-bridge.bridge c.in_ok-timers.timers
    shape.value
    (c.in_ok-clients.ensures ∙ ap (stands_from _ 0) c.clients.ensures ∙ ap (λ (h : Shape). stands_from (queues_of h) 0 c.args.script.now.clients) shape.value)
    (c.in_ok-publishers.ensures ∙ ap (senders_from 0) c.publishers.ensures)
    (queues_started c.args.script.now (arc_value c.args.plans) c.in_ok-groups.groups.items c.in_ok-watches.watches.items c.in_ok-queues.queues.items c.requires c.in_ok-groups.ensures c.in_ok-watches.ensures c.in_ok-queues.ensures)
    c.in_ok-bridge.ensures c.in_ok-timers.ensures

pub groups_by_queue-requires : goal.groups_by_queue-requires
groups_by_queue-requires c = c.deref.ensures ∙ c.requires

pub watches_by_queue-requires : goal.watches_by_queue-requires
watches_by_queue-requires c = c.deref-2.ensures ∙ c.requires

pub queue_seats-requires-clause-alike : goal.queue_seats-requires-clause-alike
queue_seats-requires-clause-alike c = lists_alike c.args.script.now c.in_ok-groups.groups.items c.in_ok-watches.watches.items c.in_ok-groups.ensures c.in_ok-watches.ensures

pub queue_seats-requires-clause-groups : goal.queue_seats-requires-clause-groups
queue_seats-requires-clause-groups c =
    all_items IsGroupList (groups_on (setting_of c.args.script.now).groups) (groups_listed c.args.script.now c.shape-shape.ensures.within (setting_of c.args.script.now).objects)
    c.in_ok-groups.groups.items (numbers_below (queues_of c.args.script.now.shape)) c.in_ok-groups.ensures

pub queue_seats-requires-clause-watches : goal.queue_seats-requires-clause-watches
queue_seats-requires-clause-watches c =
    all_items AreApart (watches_on (setting_of c.args.script.now).watches) (watches_listed c.args.script.now c.shape-shape.ensures.within (setting_of c.args.script.now).objects)
    c.in_ok-watches.watches.items (numbers_below (queues_of c.args.script.now.shape)) c.in_ok-watches.ensures

pub client_seats-requires : goal.client_seats-requires
client_seats-requires c =
    let same : length c.clients.result.now ≡ length c.args.script.now.clients = ap length c.clients.ensures in
    omega (arith, same, c.shape-shape.ensures.within.clients_few)

pub publisher_seats-requires-clause-count : goal.publisher_seats-requires-clause-count
publisher_seats-requires-clause-count c =
    let same : length c.publishers.result.now ≡ length c.args.script.now.publishers = ap length c.publishers.ensures in
    omega (arith, same, c.shape-shape.ensures.within.publishers_few)

pub publisher_seats-requires-clause-within : goal.publisher_seats-requires-clause-within
publisher_seats-requires-clause-within c =
    subst (λ (ps : List PublisherPart). AllByRecursion (λ (part : PublisherPart). length part.base ≤ 64) ps) (sym c.publishers.ensures)
    (small_bases (length c.args.script.now.topics) c.args.script.now.publishers c.shape-shape.ensures.within.publishers)
