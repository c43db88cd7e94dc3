use Rattle.mama_lane.proofs.Takers.{informed}
use Rattle.mama_lane.proofs.looker.Looker.take.Goals as goal

pub returns-clause-caught_up : goal.returns-clause-caught_up
returns-clause-caught_up g c = λ none. informed _ c.self.inside.pass.me.view.client c.args.self.now c.self.view_is (c.take.ensures.caught_up none)
