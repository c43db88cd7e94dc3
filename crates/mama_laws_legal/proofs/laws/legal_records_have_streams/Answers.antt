use Rattle.mama_laws_legal.proofs.LegalRounds.{have_streams}
use Rattle.mama_laws_legal.proofs.laws.legal_records_have_streams.Goals as goal

pub returns : goal.returns
returns c = have_streams
