use Rattle.mama_script.proofs.Whole.{script_found}
use Rattle.mama_script.proofs.laws.lines_that_are_read_are_accepted.Goals as goal

pub returns : goal.returns
returns c = λ text lines e. script_found text lines e
