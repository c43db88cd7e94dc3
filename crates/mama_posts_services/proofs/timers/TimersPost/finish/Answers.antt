use Rattle.std.proofs.Common.{◌∙◌}
use Rattle.mama_posts_services.proofs.PortsLemmas.{lanes_stay}
use Rattle.mama_posts_services.proofs.timers.TimersPost.finish.Goals as goal

pub put_first-requires-clause-queues : goal.put_first-requires-clause-queues
put_first-requires-clause-queues g c = lanes_stay c.puts.self.queues c.args.self.now.queues c.puts.invariant.place ∙ c.requires.queues
