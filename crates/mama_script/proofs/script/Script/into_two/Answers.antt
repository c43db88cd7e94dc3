use Rattle.mama_script.proofs.InTwo.{script_two}
use Rattle.mama_script.proofs.script.Script.into_two.Goals as goal

pub invariant_of-result : goal.invariant_of-result
invariant_of-result c = script_two _ c.self.invariant
