use Rattle.mama_laws_legal.proofs.InboxStreams.{inboxes_streams}
use Rattle.mama_laws_legal.proofs.laws.inboxes_get_their_streams.Goals as goal

pub returns : goal.returns
returns c = inboxes_streams
