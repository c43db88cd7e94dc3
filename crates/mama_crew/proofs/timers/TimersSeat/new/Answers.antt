use Rattle.std.proofs.Common.{◌≡◌, ◌↔◌, true, ◌∙◌, sym, subst}
use Rattle.mama_event.specs.declared.shape.Shape.{Shape}
use Rattle.mama_event.specs.Ports.{queue_port_of_timers}
use Rattle.mama_posts_services.specs.Timers.{TimersPostValue, IsTimersOf, timers_ports, is_over}
use Rattle.mama_posts_services.specs.Service.{HasEnded}
use Rattle.mama_crew.specs.Hall.{AreLanesOf}
use Rattle.mama_crew.proofs.OpeningLemmas.{are_putting_as}
use Rattle.mama_crew.proofs.NewLemmas.{is_new_taker, timers_in, timers_unused}
use Rattle.mama_crew.proofs.timers.TimersSeat.new.Goals as goal

pub new-requires-clause-taker : goal.new-requires-clause-taker
new-requires-clause-taker g c =
    let shape = c.shape-shape.result.now in
    let lanes = subst (λ (s : Shape). AreLanesOf s c.args._hall.now) (sym c.shape-shape.ensures.value) c.requires.lanes in
    is_new_taker shape (timers_ports shape) c.args._hall.now.to_timers c.args.ends.taker lanes.to_timers c.requires.taker

pub new-requires-clause-queues : goal.new-requires-clause-queues
new-requires-clause-queues g c =
    let lanes = subst (λ (s : Shape). AreLanesOf s c.args._hall.now) (sym c.shape-shape.ensures.value) c.requires.lanes in
    are_putting_as c.shape-shape.result.now.bounds queue_port_of_timers 2 _ c.args._hall.now.to_queues c.args.ends.to_queues.items c.requires.queues lanes.to_queues lanes.queues_count

pub invariant_of-result : goal.invariant_of-result
invariant_of-result g c =
    subst (λ (v : TimersPostValue). (c.ended-ended.result ≡ true) ↔ HasEnded (is_over v.service.shape) v.service) (sym c.ended-ended.ensures.same) c.ended-ended.ensures.ended

pub returns-clause-seat : goal.returns-clause-seat
returns-clause-seat g c =
    let shape = c.shape-shape.result.now in
    timers_in c.args.script.now c.args._hall.now shape c.ended-ended.new.self c.args.ends.taker c.args.ends.to_queues.items c.shape-shape.ensures.value
    (subst (IsTimersOf shape) (sym c.ended-ended.ensures.same) c.in_ok-post.ensures.seat) (c.ended-ended.ensures.same ∙ c.in_ok-post.ensures.value) c.requires.taker c.requires.queues

pub returns-clause-new : goal.returns-clause-new
returns-clause-new g c =
    timers_unused c.args._hall.now c.shape-shape.result.now c.ended-ended.new.self c.args.ends.taker c.args.ends.to_queues.items (c.ended-ended.ensures.same ∙ c.in_ok-post.ensures.value) c.requires.taker c.requires.queues
