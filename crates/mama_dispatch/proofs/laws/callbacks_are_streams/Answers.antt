use Rattle.mama_dispatch.proofs.StreamLemmas.{callbacks_are_streams}
use Rattle.mama_dispatch.proofs.laws.callbacks_are_streams.Goals as goal

pub returns : goal.returns
returns c = callbacks_are_streams
