use Rattle.mama_laws_legal.proofs.LegalRounds.{rounds_are_legal}
use Rattle.mama_laws_legal.proofs.laws.round_is_legal.Goals as goal

pub returns : goal.returns
returns c = rounds_are_legal
