use Rattle.mama_lane.proofs.Kept.{joins}
use Rattle.mama_lane.proofs.steps.end.Goals as goal

pub absorb-requires-clause-rule : goal.absorb-requires-clause-rule
absorb-requires-clause-rule g c = rw c.requires.pass.1 (joins g.E.Stream.noted g.E.Stream.lawful _ _ _ c.requires.port.1)
