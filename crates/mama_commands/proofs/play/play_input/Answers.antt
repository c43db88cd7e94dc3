use Rattle.mama_commands.proofs.EndLemmas.{gave_lost}
use Rattle.mama_commands.proofs.play.play_input.Goals as goal

pub returns-in-Err-log_of-clause-end : goal.returns-in-Err-log_of-clause-end
returns-in-Err-log_of-clause-end g c = gave_lost _ _ _ c.in-Ok.ensures.given
