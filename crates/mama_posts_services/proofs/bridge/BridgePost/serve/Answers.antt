use Rattle.std.proofs.Common.{refl, ◌∙◌, ap}
use Rattle.mama_bridge.specs.Routing.{Routing}
use Rattle.mama_posts_services.specs.Bridge.{BridgePostValue, is_over}
use Rattle.mama_posts_services.proofs.ServiceLemmas.{lays_all}
use Rattle.mama_posts_services.proofs.BridgeLemmas.{event_taken, over_now}
use Rattle.mama_posts_services.proofs.bridge.BridgePost.serve.Goals as goal

pub invariant_of-self : goal.invariant_of-self
invariant_of-self g c =
    over_now c.self.inside.bridge c.take.new.self c.args.port _ c.take.result c.in-Ok.took c.is_end-self-inside.result
    (ap (λ (v : BridgePostValue). is_over v.service.shape v.service.journal) c.self.view_is ∙ c.requires.going) c.in-Ok.ensures.journal c.in-Ok.is c.is_end-self-inside.ensures c.take.ensures.ended

pub returns-in-Ok-clause-seat : goal.returns-in-Ok-clause-seat
returns-in-Ok-clause-seat g c =
    event_taken c.args.self.now.service.shape _ c.args.self.now _ c.args.port _ c.self.view_is c.requires.seat c.requires.kept c.requires.left
    (ap (λ (r : Routing). r.shape) c.in-Ok.ensures.journal) (ap (λ (r : Routing). r.journal) c.in-Ok.ensures.journal) refl
    (lays_all _ c.all.result c.take.new.out.items _ _ c.all.ensures c.in-Ok.ensures.puts c.lend-out.ensures.empty) refl
