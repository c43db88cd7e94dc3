use Rattle.mama_laws_genuine.proofs.Images.{images_are_records}
use Rattle.mama_laws_genuine.proofs.laws.ok_images_are_records.Goals as goal

pub returns : goal.returns
returns c = images_are_records
