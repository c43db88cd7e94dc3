use Rattle.mama_client.proofs.Calling.{calls_are_lawful}
use Rattle.mama_client.proofs.laws.calls_are_lawful.Goals as goal

pub returns : goal.returns
returns c = calls_are_lawful
