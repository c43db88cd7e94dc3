use Rattle.mama_laws_legal.proofs.SubStreams.{subs_streams}
use Rattle.mama_laws_legal.proofs.laws.subs_get_their_streams.Goals as goal

pub returns : goal.returns
returns c = subs_streams
