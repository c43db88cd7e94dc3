use Rattle.mama_lane.proofs.Kept.{learns}
use Rattle.mama_lane.proofs.steps.learn.Goals as goal

pub absorb-requires-clause-rule : goal.absorb-requires-clause-rule
absorb-requires-clause-rule g c = rw c.requires.pass.1 (learns g.E.Stream.noted g.E.Stream.lawful _ _ _ c.requires.note.1)
