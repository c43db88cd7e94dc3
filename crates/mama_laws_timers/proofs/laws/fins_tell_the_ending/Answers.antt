use Rattle.mama_laws_timers.proofs.Fins.{fins_tell}
use Rattle.mama_laws_timers.proofs.laws.fins_tell_the_ending.Goals as goal

pub returns : goal.returns
returns c = fins_tell
