-- believed: What rewrite keeps: check says of what it wrote just what it says of what it read.
use Rattle.std.specs.Prelude.{◌↔◌, ℕ, ◌^◌, ◌<◌, List, length}
use Rattle.mama_script.specs.Tree.{in_two}
use Rattle.mama_rules_legal.specs.Legal.{IsLegal}
use Rattle.mama_check.specs.declared.verdict.Verdict.{Verdict}
use Rattle.mama_plain.specs.Answers.{IsAccepted}
use Rattle.mama_plain.specs.Verdict.{IsChecked, IsVerdictOf}
use Rattle.mama_plain.specs.Rewritten.{IsScriptInTwo, IsLogInTwo}

-- What rewrite wrote of a script is an accepted script. What it wrote of a script and its log is a script and its log too, which
-- is legal where that one was; and, where a memory can hold both texts, the verdict on it is that one's, line by line.
pub record IsKept (text out : List ℕ) : Type 0 where
  pub accepted : IsScriptInTwo text out → IsAccepted out
  pub checked : IsLogInTwo text out → IsChecked out
  pub legal : (w : IsLogInTwo text out) → IsLegal w.script w.run ↔ IsLegal (in_two w.script) w.run
  pub verdict : IsLogInTwo text out → length text < 2 ^ 64 → length out < 2 ^ 64 → (verdict : Verdict) (told : List ℕ) → IsVerdictOf text verdict told ↔ IsVerdictOf out verdict told

-- so it is with all that rewrite writes
abbrev pub RewrittenIsKept : Type 0
RewrittenIsKept = (text out : List ℕ) → IsKept text out
