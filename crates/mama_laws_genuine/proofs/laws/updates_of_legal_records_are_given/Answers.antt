use Rattle.mama_laws_genuine.proofs.AllGiven.{legal_updates_are_given}
use Rattle.mama_laws_genuine.proofs.laws.updates_of_legal_records_are_given.Goals as goal

pub returns : goal.returns
returns c = legal_updates_are_given
