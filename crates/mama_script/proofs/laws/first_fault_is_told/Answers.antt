use Rattle.mama_script.proofs.Firsts.{script_first}
use Rattle.mama_script.proofs.laws.first_fault_is_told.Goals as goal

pub returns : goal.returns
returns c = λ text line found e. script_first text line found e
