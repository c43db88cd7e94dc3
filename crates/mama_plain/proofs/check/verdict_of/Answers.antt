use Rattle.std.proofs.Common.{List, ℕ, subst}
use Rattle.mama_plain.specs.Judging.{IsToldBy}
use Rattle.mama_plain.proofs.VerdictLemmas.{judged_text}
use Rattle.mama_plain.proofs.check.verdict_of.Goals as goal

pub check-requires : goal.check-requires
check-requires c = c.in-Ok.ensures.read.logged.formed

pub returns-in-Ok-check-clause-verdict : goal.returns-in-Ok-check-clause-verdict
returns-in-Ok-check-clause-verdict c =
    judged_text c.args.text.items c.in-Ok.read.0 c.in-Ok.read.1 c.in-Ok-check.verdict
    (subst (λ (text : List ℕ). IsToldBy text c.in-Ok.read.0 c.in-Ok.read.1) c.as_slice.ensures.value c.in-Ok.ensures.read) c.in-Ok-check.ensures.exact
