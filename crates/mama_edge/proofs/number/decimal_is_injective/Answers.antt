use Rattle.std.proofs.lemmas.Fmt.{decimal_injective}
use Rattle.mama_edge.proofs.number.decimal_is_injective.Goals as goal

pub returns : goal.returns
returns c = decimal_injective
