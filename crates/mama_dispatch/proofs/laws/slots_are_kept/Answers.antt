use Rattle.mama_dispatch.proofs.StreamLemmas.{slots_are_kept}
use Rattle.mama_dispatch.proofs.laws.slots_are_kept.Goals as goal

pub returns : goal.returns
returns c = slots_are_kept
