use Rattle.mama_lane.proofs.Kept.{puts}
use Rattle.mama_lane.proofs.steps.put.Goals as goal

pub push_as-requires-clause-rule : goal.push_as-requires-clause-rule
push_as-requires-clause-rule g c n =
    puts g.E.Stream.noted g.E.Stream.lawful n _ _ _ _ c.requires.role.0 c.requires.role.1 (rw c.requires.role.1 c.requires.lawful)
