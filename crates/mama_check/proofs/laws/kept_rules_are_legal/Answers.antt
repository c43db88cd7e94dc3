use Rattle.mama_check.proofs.KeptLaw.{kept_is_legal}
use Rattle.mama_check.proofs.laws.kept_rules_are_legal.Goals as goal

pub returns : goal.returns
returns c = kept_is_legal
