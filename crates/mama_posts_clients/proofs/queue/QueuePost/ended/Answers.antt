use Rattle.std.proofs.Common.{ap}
use Rattle.std.proofs.lemmas.Bool.{false≢true}
use Rattle.mama_posts_clients.specs.Queue.{QueuePostValue}
use Rattle.mama_posts_clients.proofs.QueueLemmas.{some_left}
use Rattle.mama_posts_clients.proofs.queue.QueuePost.ended.Goals as goal

pub returns-then-not-self : goal.returns-then-not-self
returns-then-not-self g c = (
  (λ is. absurd (false≢true is)),
  (λ end. absurd (some_left _ c.args.self.now.left c.self.inside.clear (ap (λ (v : QueuePostValue). v.left) c.self.view_is) c.self.invariant c.if-not-self.true end.left)),
)
