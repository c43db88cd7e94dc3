use Rattle.mama_laws_legal.proofs.TimerStreams.{timers_streams}
use Rattle.mama_laws_legal.proofs.laws.timers_get_their_streams.Goals as goal

pub returns : goal.returns
returns c = timers_streams
