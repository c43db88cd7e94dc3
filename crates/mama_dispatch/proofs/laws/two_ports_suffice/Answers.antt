use Rattle.mama_dispatch.proofs.ComingLaws.{two_ports_suffice as two_suffice}
use Rattle.mama_dispatch.proofs.laws.two_ports_suffice.Goals as goal

pub returns : goal.returns
returns c = two_suffice
