use Rattle.mama_dispatch.proofs.SlotLemmas.{slots_are_of_one}
use Rattle.mama_dispatch.proofs.laws.slots_are_of_one.Goals as goal

pub returns : goal.returns
returns c = slots_are_of_one
