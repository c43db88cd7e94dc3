use Rattle.mama_drive.proofs.TurnsLemmas.{bridge_on}
use Rattle.mama_drive.proofs.turn.bridge.Goals as goal

pub returns-clause-on : goal.returns-clause-on
returns-clause-on c = bridge_on c.args.run.now c.bridge_turn.new.self c.in_ok-bridge_turn.ensures.turn
