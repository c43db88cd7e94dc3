use Rattle.std.proofs.Common.{◌≡◌, ◌↔◌, true, ◌∙◌, sym, subst}
use Rattle.mama_event.specs.declared.shape.Shape.{Shape}
use Rattle.mama_event.specs.Ports.{bridge_ports, timers_port_of_bridge, queue_port_of_bridge}
use Rattle.mama_posts_services.specs.Bridge.{BridgePostValue, IsBridgeOf, is_over}
use Rattle.mama_posts_services.specs.Service.{HasEnded}
use Rattle.mama_crew.specs.Hall.{AreLanesOf}
use Rattle.mama_crew.proofs.OpeningLemmas.{are_putting_as}
use Rattle.mama_crew.proofs.NewLemmas.{is_new_taker, timers_putting, bridge_in, bridge_unused}
use Rattle.mama_crew.proofs.bridge.BridgeSeat.new.Goals as goal

pub new-requires-clause-taker : goal.new-requires-clause-taker
new-requires-clause-taker g c =
    let shape = c.shape-shape.result.now in
    let lanes = subst (λ (s : Shape). AreLanesOf s c.args._hall.now) (sym c.shape-shape.ensures.value) c.requires.lanes in
    is_new_taker shape (bridge_ports shape) c.args._hall.now.to_bridge c.args.ends.taker lanes.to_bridge c.requires.taker

pub new-requires-clause-publishers : goal.new-requires-clause-publishers
new-requires-clause-publishers g c =
    let lanes = subst (λ (s : Shape). AreLanesOf s c.args._hall.now) (sym c.shape-shape.ensures.value) c.requires.lanes in
    are_putting_as c.shape-shape.result.now.bounds 0 1 _ c.args._hall.now.to_publishers c.args.ends.to_publishers.items c.requires.publishers lanes.to_publishers lanes.publishers_count

pub new-requires-clause-queues : goal.new-requires-clause-queues
new-requires-clause-queues g c =
    let lanes = subst (λ (s : Shape). AreLanesOf s c.args._hall.now) (sym c.shape-shape.ensures.value) c.requires.lanes in
    are_putting_as c.shape-shape.result.now.bounds queue_port_of_bridge 2 _ c.args._hall.now.to_queues c.args.ends.to_queues.items c.requires.queues lanes.to_queues lanes.queues_count

pub new-requires-clause-timers : goal.new-requires-clause-timers
new-requires-clause-timers g c =
    let shape = c.shape-shape.result.now in
    let lanes = subst (λ (s : Shape). AreLanesOf s c.args._hall.now) (sym c.shape-shape.ensures.value) c.requires.lanes in
    timers_putting shape c.args.script.now.shape c.args._hall.now.to_timers _ c.args.ends.to_timers c.shape-shape.ensures.value lanes.to_timers c.requires.timers

pub invariant_of-result : goal.invariant_of-result
invariant_of-result g c =
    subst (λ (v : BridgePostValue). (c.ended-ended.result ≡ true) ↔ HasEnded (is_over v.service.shape) v.service) (sym c.ended-ended.ensures.same) c.ended-ended.ensures.ended

pub returns-clause-seat : goal.returns-clause-seat
returns-clause-seat g c =
    let shape = c.shape-shape.result.now in
    bridge_in c.args.script.now c.args._hall.now shape c.ended-ended.new.self c.args.ends.taker c.args.ends.to_publishers.items c.args.ends.to_queues.items c.args.ends.to_timers c.shape-shape.ensures.value
    (subst (IsBridgeOf shape) (sym c.ended-ended.ensures.same) c.in_ok-post.ensures.seat) (c.ended-ended.ensures.same ∙ c.in_ok-post.ensures.value) c.requires.taker c.requires.publishers c.requires.queues c.requires.timers

pub returns-clause-new : goal.returns-clause-new
returns-clause-new g c =
    bridge_unused c.args._hall.now (timers_port_of_bridge c.args.script.now.shape) c.shape-shape.result.now c.ended-ended.new.self c.args.ends.taker c.args.ends.to_publishers.items c.args.ends.to_queues.items c.args.ends.to_timers
    (c.ended-ended.ensures.same ∙ c.in_ok-post.ensures.value) c.requires.taker c.requires.publishers c.requires.queues c.requires.timers
