use Rattle.mama_posts_clients.proofs.ClientLemmas.{made_after}
use Rattle.mama_posts_clients.proofs.client.ClientPost.turn.Goals as goal

pub returns-in_ok-finish-in-Moved-clause-moved : goal.returns-in_ok-finish-in-Moved-clause-moved
returns-in_ok-finish-in-Moved-clause-moved g c = λ is. (
  made_after c.args.script.now c.args.number c.args.moment c.args.self.now c.advance.new.self c.finish.new.self (c.in_ok-pace.ensures.moved (cc c.in-Moved.is)) c.finish.ensures.same,
  c.in_ok-finish-in-Moved.ensures.clear,
)
