use Rattle.std.proofs.Common.{sym, ◌∙◌, ap}
use Rattle.mama_bridge.specs.Routing.{Routing}
use Rattle.mama_event.specs.declared.to_bridge.BridgeNote.{BridgeNote}
use Rattle.mama_ends.specs.Inlet.{InletValue}
use Rattle.mama_posts_services.specs.Bridge.{is_over}
use Rattle.mama_posts_services.proofs.ServiceLemmas.{none_below, lays_none, new_inlet}
use Rattle.mama_posts_services.proofs.BridgeLemmas.{new_seat}
use Rattle.mama_posts_services.proofs.bridge.BridgePost.new.Goals as goal

pub invariant_of-result : goal.invariant_of-result
invariant_of-result g c = none_below c.args.shape.now.bounds.queues ∙ sym (ap (λ (r : Routing). is_over r.shape r.journal) c.in_ok-new.ensures)

pub returns-clause-seat : goal.returns-clause-seat
returns-clause-seat g c =
    new_seat c.args.shape.now c.in_ok-new.field-0 c.new-2.result _ _ c.in_ok-new.ensures (ap (λ (i : InletValue BridgeNote). i.kept) c.new-2.ensures)
    (lays_none _ c.all.result c.new-3.result.items c.all.ensures c.new-3.ensures)
    (new_inlet c.new-2.result c.args.taker c.new-2.ensures c.requires.taker)
    (record { publishers = c.requires.publishers; queues = c.requires.queues; timers = c.requires.timers })
