use Rattle.mama_laws_legal.proofs.Whole.{calls_told}
use Rattle.mama_laws_legal.proofs.laws.rounds_tell_calls.Goals as goal

pub returns : goal.returns
returns c = calls_told
