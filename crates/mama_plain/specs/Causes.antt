-- inner: Why there is no log, and the answer where there is a verdict.
use Rattle.std.specs.Prelude.{◌≡◌, ℕ, List, ⊤, Err}
use Rattle.mama_script.specs.Reading.{script_in}
use Rattle.mama_script.specs.declared.fault.ScriptFault.TheVariants as f
use Rattle.mama_check.specs.declared.verdict.Verdict.{Verdict}
use Rattle.mama_check.specs.declared.verdict.Verdict.TheVariants as verdict
use Rattle.mama_plain.specs.declared.status.Status.{Status}
use Rattle.mama_plain.specs.declared.status.Status.TheVariants as s
use Rattle.mama_plain.specs.declared.run.NoLog.{NoLog}
use Rattle.mama_plain.specs.declared.run.NoLog.TheVariants as n

-- why there is no log of a text: its first line with a fault, its first line past a limit, or want of memory
abbrev pub IsCause : List ℕ → NoLog → Type 0
IsCause text (n.Script (f.Bad line fault)) = script_in text ≡ Err (f.Bad line fault)
IsCause text (n.Script (f.OverLimit line limit)) = script_in text ≡ Err (f.OverLimit line limit)
IsCause text _ = ⊤

-- the answer where a verdict was written
abbrev pub answer_in : Verdict → Status
answer_in (verdict.Legal causal) = s.Ok
answer_in (verdict.NotLegal rule actor) = s.NotLegal rule actor
