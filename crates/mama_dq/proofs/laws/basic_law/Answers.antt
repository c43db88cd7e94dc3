use Rattle.mama_dq.proofs.ImageLaw.{no_image}
use Rattle.mama_dq.proofs.laws.basic_law.Goals as goal

pub returns : goal.returns
returns c = no_image
