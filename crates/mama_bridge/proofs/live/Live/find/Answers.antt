use Rattle.mama_bridge.proofs.ByTopic.{found_is}
use Rattle.mama_bridge.proofs.live.Live.find.Goals as goal

pub returns : goal.returns
returns c joined rows live = found_is c.args.sub c.find.result c.args.self.now.places.live rows c.find.ensures live.places
