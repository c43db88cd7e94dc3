use Rattle.mama_laws_genuine.proofs.Images.{given_are_sent}
use Rattle.mama_laws_genuine.proofs.laws.given_messages_are_sent.Goals as goal

pub returns : goal.returns
returns c = given_are_sent
