use Rattle.left_right.specs.Sides.{view}
use Rattle.mama_board.proofs.Looks.{seen_within}
use Rattle.mama_board.proofs.image_reader.ImageReader.learn.Goals as goal

pub returns-clause-seen : goal.returns-clause-seen
returns-clause-seen c = let i = c.self.inside in seen_within i.queue i.version i.least (view i.place.place) i.sealed c.args.self.now c.self.invariant.1 c.self.invariant.0 c.self.view_is
