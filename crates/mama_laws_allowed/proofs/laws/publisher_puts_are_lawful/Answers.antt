use Rattle.mama_laws_allowed.proofs.Publishers.{publishers_lawful}
use Rattle.mama_laws_allowed.proofs.laws.publisher_puts_are_lawful.Goals as goal

pub returns : goal.returns
returns c = publishers_lawful
