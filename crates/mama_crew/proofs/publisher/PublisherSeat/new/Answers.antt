use Rattle.std.proofs.Common.{◌≡◌, ◌↔◌, true, ◌∙◌, ap, sym, subst, arith}
use Rattle.mama_event.specs.declared.to_bridge.BridgeNote.{BridgeNote}
use Rattle.mama_event.specs.declared.to_publisher.PublisherNote.{PublisherNote}
use Rattle.mama_event.specs.Ports.{bridge_port_of_publisher}
use Rattle.mama_lane.specs.Values.{PortValue, TakerValue}
use Rattle.mama_posts_services.specs.Publisher.{PublisherPostValue, IsPublisherOf, HasEnded}
use Rattle.mama_crew.proofs.OpeningLemmas.{taker_at}
use Rattle.mama_crew.proofs.NewLemmas.{publishers_count, base_small, publisher_in, publisher_unused}
use Rattle.mama_crew.proofs.publisher.PublisherSeat.new.Goals as goal

pub section-part-requires : goal.section-part-requires
section-part-requires g c = let count = publishers_count c.args.script.now c.shape-shape.ensures.script in omega (arith, c.requires.there)

pub new-requires-clause-number : goal.new-requires-clause-number
new-requires-clause-number g c = let count = publishers_count c.args.script.now c.shape-shape.ensures.script in omega (arith, c.requires.there, c.shape-shape.ensures.within.publishers_few)

pub new-requires-clause-base : goal.new-requires-clause-base
new-requires-clause-base g c = base_small _ c.args.script.now.publishers c.args.number c.section-part.result.now c.shape-shape.ensures.within.publishers c.section-part.ensures

pub new-requires-clause-taker : goal.new-requires-clause-taker
new-requires-clause-taker g c = ap (λ (t : TakerValue PublisherNote). t.taken) (taker_at c.args._hall.now.to_publishers c.args.number c.args.taker c.requires.taker).2

pub new-requires-clause-port : goal.new-requires-clause-port
new-requires-clause-port g c = ap (λ (p : PortValue BridgeNote). p.put) c.requires.port

pub ended-ended-requires : goal.ended-ended-requires
ended-ended-requires g c = c.in_ok-post.ensures.seat.taken

pub invariant_of-result : goal.invariant_of-result
invariant_of-result g c = subst (λ (v : PublisherPostValue). (c.ended-ended.result ≡ true) ↔ HasEnded v) (sym c.ended-ended.ensures.same) c.ended-ended.ensures.ended

pub returns-clause-seat : goal.returns-clause-seat
returns-clause-seat g c =
    let count = publishers_count c.args.script.now c.shape-shape.ensures.script in
    publisher_in c.args.script.now c.args._hall.now c.args.number c.section-part.result.now c.ended-ended.new.self c.args.taker c.args.port (omega (arith, c.requires.there)) c.section-part.ensures
    (subst (IsPublisherOf c.section-part.result.now c.args.number) (sym c.ended-ended.ensures.same) c.in_ok-post.ensures.seat) (c.ended-ended.ensures.same ∙ c.in_ok-post.ensures.value) c.requires.taker c.requires.port

pub returns-clause-new : goal.returns-clause-new
returns-clause-new g c =
    publisher_unused c.args._hall.now.to_publishers c.args._hall.now.to_bridge (bridge_port_of_publisher c.args.script.now.shape c.args.number) c.args.number c.section-part.result.now c.ended-ended.new.self c.args.taker c.args.port
    (c.ended-ended.ensures.same ∙ c.in_ok-post.ensures.value) c.requires.taker c.requires.port
