use Rattle.mama_drive.proofs.TurnsLemmas.{timers_on}
use Rattle.mama_drive.proofs.turn.timers.Goals as goal

pub returns-clause-on : goal.returns-clause-on
returns-clause-on c = timers_on c.args.run.now c.timers_turn.new.self c.in_ok-timers_turn.ensures.turn
