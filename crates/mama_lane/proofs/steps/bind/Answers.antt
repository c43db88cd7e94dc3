use Rattle.mama_lane.proofs.Kept.{binds}
use Rattle.mama_lane.proofs.steps.bind.Goals as goal

pub another-spent-requires-clause-rule : goal.another-spent-requires-clause-rule
another-spent-requires-clause-rule g c = rw c.requires.pass.1 (binds g.E.Stream.noted g.E.Stream.lawful g.met.E.Stream.lawful_start _ _ c.requires.none)
