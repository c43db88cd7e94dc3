use Rattle.mama_posts_services.proofs.ServiceLemmas.{made_after}
use Rattle.mama_posts_services.proofs.bridge.BridgePost.turn.Goals as goal

pub returns-in_ok-finish-in-Moved-clause-moved : goal.returns-in_ok-finish-in-Moved-clause-moved
returns-in_ok-finish-in-Moved-clause-moved g c = λ is. (
  made_after c.args.self.now.service c.advance.new.self.service c.finish.new.self.service (c.in_ok-pace.ensures.moved (cc c.in-Moved.is)) c.finish.ensures.same,
  c.in_ok-finish-in-Moved.ensures.clear,
)
