use Rattle.mama_laws_allowed.proofs.SentOut.{stopped_sent_out}
use Rattle.mama_laws_allowed.proofs.laws.stopped_publishers_sent_out.Goals as goal

pub returns : goal.returns
returns c = stopped_sent_out
