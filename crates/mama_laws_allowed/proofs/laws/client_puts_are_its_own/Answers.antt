use Rattle.mama_laws_allowed.proofs.Clients.{clients_own}
use Rattle.mama_laws_allowed.proofs.laws.client_puts_are_its_own.Goals as goal

pub returns : goal.returns
returns c = clients_own
