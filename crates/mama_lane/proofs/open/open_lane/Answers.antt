use Rattle.mama_lane.proofs.Kept.{begins}
use Rattle.mama_lane.proofs.open.open_lane.Goals as goal

pub with_rule-requires : goal.with_rule-requires
with_rule-requires g c = begins g.E.Stream.noted g.E.Stream.lawful g.met.E.Stream.lawful_start
