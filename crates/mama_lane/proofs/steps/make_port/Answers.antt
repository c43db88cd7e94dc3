use Rattle.mama_lane.proofs.Kept.{splits}
use Rattle.mama_lane.proofs.steps.make_port.Goals as goal

pub another-requires-clause-rule : goal.another-requires-clause-rule
another-requires-clause-rule g c = rw c.requires.1 (splits g.E.Stream.noted g.E.Stream.lawful _)
