use Rattle.mama_laws_allowed.proofs.Clients.{clients_lawful}
use Rattle.mama_laws_allowed.proofs.laws.client_puts_are_lawful.Goals as goal

pub returns : goal.returns
returns c = clients_lawful
