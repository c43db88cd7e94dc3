use Rattle.mama_edge.proofs.QuotedLaws.{quoted_injective}
use Rattle.mama_edge.proofs.quotation.quoted_is_injective.Goals as goal

pub returns : goal.returns
returns c = quoted_injective
