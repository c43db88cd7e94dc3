use Rattle.mama_group.proofs.Told.{heard_turn, unheard_turn, state_told_so}
use Rattle.mama_group.proofs.laws.groups_hear_turn_by_turn.Goals as goal

pub returns-clause-heard : goal.returns-clause-heard
returns-clause-heard c = λ orders members before e s only is. heard_turn orders members before e s only is

pub returns-clause-unheard : goal.returns-clause-unheard
returns-clause-unheard c = λ orders members before e s only out. unheard_turn orders members before e s only out

pub returns-clause-state : goal.returns-clause-state
returns-clause-state c = λ orders members journal. state_told_so orders members journal
