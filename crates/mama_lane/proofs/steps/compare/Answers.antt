use Rattle.mama_lane.proofs.Kept.{ends}
use Rattle.mama_lane.proofs.steps.compare.Goals as goal

pub len_as-waiting-requires-clause-rule : goal.len_as-waiting-requires-clause-rule
len_as-waiting-requires-clause-rule g c = rw c.requires.1 (ends g.E.Stream.noted g.E.Stream.lawful _)
