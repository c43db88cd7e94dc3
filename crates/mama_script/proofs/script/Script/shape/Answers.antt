use Rattle.std.proofs.Common.{subst}
use Rattle.mama_script.specs.Script.{ScriptData}
use Rattle.mama_script.specs.Within.{IsWithin}
use Rattle.mama_script.proofs.Keeping.{script_within}
use Rattle.mama_script.proofs.script.Script.shape.Goals as goal

pub returns-clause-within : goal.returns-clause-within
returns-clause-within c = subst (λ (s : ScriptData). IsWithin s) c.self.view_is (script_within _ c.self.invariant)
