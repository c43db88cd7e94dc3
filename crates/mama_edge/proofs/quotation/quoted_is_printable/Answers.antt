use Rattle.mama_edge.proofs.QuotedLaws.{quoted_printable}
use Rattle.mama_edge.proofs.quotation.quoted_is_printable.Goals as goal

pub returns : goal.returns
returns c = quoted_printable
