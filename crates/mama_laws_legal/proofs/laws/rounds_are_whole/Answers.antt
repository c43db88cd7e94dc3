use Rattle.mama_laws_legal.proofs.Whole.{whole_edges}
use Rattle.mama_laws_legal.proofs.laws.rounds_are_whole.Goals as goal

pub returns : goal.returns
returns c = whole_edges
