use Rattle.mama_dq.proofs.ImageLaw.{image_law}
use Rattle.mama_dq.proofs.laws.image_law.Goals as goal

pub returns : goal.returns
returns c = image_law
