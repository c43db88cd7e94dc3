use Rattle.mama_laws_lawful.proofs.Timely.{lawful_are_timely}
use Rattle.mama_laws_lawful.proofs.laws.lawful_clients_are_timely.Goals as goal

pub returns : goal.returns
returns c = lawful_are_timely
