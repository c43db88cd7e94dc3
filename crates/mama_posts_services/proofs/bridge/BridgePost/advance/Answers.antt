use Rattle.std.proofs.Common.{◌∙◌, ap, sym}
use Rattle.mama_posts_services.specs.Bridge.{BridgePostValue}
use Rattle.mama_posts_services.proofs.PublisherLemmas.{at_ok}
use Rattle.mama_posts_services.proofs.ServiceLemmas.{made_left, made_taken, is_idle}
use Rattle.mama_posts_services.proofs.BridgeLemmas.{event_fetched, still}
use Rattle.mama_posts_services.proofs.bridge.BridgePost.advance.Goals as goal

pub returns-then-has_left-clause-moved : goal.returns-then-has_left-clause-moved
returns-then-has_left-clause-moved g c = λ is.
    made_left c.args.self.now.service c.has_left.new.self.service c.has_left.result c.has_left.ensures.clear c.if-has_left.true (ap (λ (v : BridgePostValue). v.service) c.has_left.ensures.same)

pub serve-requires-clause-seat : goal.serve-requires-clause-seat
serve-requires-clause-seat g c =
    event_fetched _ c.args.self.now c.fetch.new.self c.in-Some.port _ (c.self.view_is ∙ c.has_left.ensures.same) c.requires.seat (sym c.self.invariant ∙ c.if-self.false)
    c.in-Some.ensures.next c.fetch.ensures.others c.fetch.ensures.lawful

pub returns-in-Some-clause-moved : goal.returns-in-Some-clause-moved
returns-in-Some-clause-moved g c = λ is.
    made_taken _ c.args.self.now.service c.serve.new.self.service c.in-Some.port _ (ap (λ (v : BridgePostValue). v.service) (c.self.view_is ∙ c.has_left.ensures.same)) (c.has_left.ensures.clear.0 c.if-has_left.false)
    (at_ok c.serve.result _ is c.serve.ensures.took) (at_ok c.serve.result _ is c.serve.ensures.served)

pub returns-in-None-clause-waiting : goal.returns-in-None-clause-waiting
returns-in-None-clause-waiting g c = λ is.
    let same = c.self.view_is ∙ c.has_left.ensures.same in (
      still _ c.args.self.now c.fetch.new.self same c.in-None.ensures.none,
      is_idle _ c.args.self.now.service c.fetch.new.self (ap (λ (v : BridgePostValue). v.service) same) (c.has_left.ensures.clear.0 c.if-has_left.false) c.in-None.ensures.none c.fetch.ensures.kept c.in-None.ensures.caught_up,
    )
