use Rattle.mama_laws_genuine.proofs.Images.{messages_are_sent}
use Rattle.mama_laws_genuine.proofs.laws.delivered_messages_are_sent.Goals as goal

pub returns : goal.returns
returns c = messages_are_sent
