use Rattle.std.proofs.Common.{◌≡◌, ◌↔◌, true, Some, length, map, ◌∙◌, ap, sym, subst, arith}
use Rattle.std.specs.List.{slice_get}
use Rattle.mama_lane.specs.Values.{note_of_port}
use Rattle.mama_posts_services.specs.Ports.{lanes_of, ids_of}
use Rattle.mama_posts_services.specs.Bridge.{BridgePostValue, is_over}
use Rattle.mama_posts_services.specs.Service.{HasEnded}
use Rattle.mama_ends.proofs.Answered.{if_ok}
use Rattle.mama_crew.proofs.InformingLemmas.{as_many_lanes}
use Rattle.mama_crew.proofs.bridge.BridgeSeat.tell_queue.Goals as goal

pub tell_queue-requires-clause-queues : goal.tell_queue-requires-clause-queues
tell_queue-requires-clause-queues g c = ap (λ (v : BridgePostValue). lanes_of v.ports.queues) c.self.view_is ∙ c.requires.lanes ∙ ap ids_of (sym c.to_queues.ensures)

pub tell_queue-requires-clause-there : goal.tell_queue-requires-clause-there
tell_queue-requires-clause-there g c =
    let count = ap (λ (v : BridgePostValue). length v.ports.queues) c.self.view_is ∙ as_many_lanes c.args.self.now.ports.queues c.args.hall.now.to_queues c.requires.lanes in
    omega (arith, c.requires.there)

pub invariant_of-self : goal.invariant_of-self
invariant_of-self g c = subst (λ (v : BridgePostValue). (c.self.inside.ended ≡ true) ↔ HasEnded (is_over v.service.shape) v.service) (sym c.tell_queue.ensures.same) c.self.invariant

pub returns-clause-note : goal.returns-clause-note
returns-clause-note g c =
    if_ok (λ note. slice_get (map note_of_port c.self.inside.post.ports.queues) c.args.number ≡ Some note) (λ note. slice_get (map note_of_port c.args.self.now.ports.queues) c.args.number ≡ Some note) c.tell_queue.result
    (λ note is. ap (λ (v : BridgePostValue). slice_get (map note_of_port v.ports.queues) c.args.number) (sym c.self.view_is) ∙ is) c.tell_queue.ensures.note

pub returns-clause-same : goal.returns-clause-same
returns-clause-same g c = c.tell_queue.ensures.same ∙ c.self.view_is
