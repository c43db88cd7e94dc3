use Rattle.mama_posts_clients.proofs.QueueLemmas.{made_after}
use Rattle.mama_posts_clients.proofs.queue.QueuePost.turn.Goals as goal

pub returns-in_ok-finish-in-Moved-clause-moved : goal.returns-in_ok-finish-in-Moved-clause-moved
returns-in_ok-finish-in-Moved-clause-moved g c = λ is. (
  made_after c.args.self.now c.advance.new.self c.finish.new.self (c.in_ok-pace.ensures.moved (cc c.in-Moved.is)) c.finish.ensures.same.0 c.finish.ensures.watches c.finish.ensures.same.1 c.finish.ensures.same.2,
  c.in_ok-finish-in-Moved.ensures.clear,
)
