use Rattle.std.proofs.Common.{◌∙◌}
use Rattle.mama_posts_services.proofs.PortsLemmas.{lanes_stay}
use Rattle.mama_posts_services.proofs.bridge.BridgePost.finish.Goals as goal

pub put_first-requires-clause-publishers : goal.put_first-requires-clause-publishers
put_first-requires-clause-publishers g c = lanes_stay c.puts.self.ports.publishers c.args.self.now.ports.publishers c.puts.invariant.place.publishers ∙ c.requires.publishers

pub put_first-requires-clause-queues : goal.put_first-requires-clause-queues
put_first-requires-clause-queues g c = lanes_stay c.puts.self.ports.queues c.args.self.now.ports.queues c.puts.invariant.place.queues ∙ c.requires.queues
