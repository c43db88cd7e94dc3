-- The test of the parts is exact.
use Rattle.std.proofs.Common.{◌∙◌, sym}
use Rattle.mama_record.specs.EqualityLaws.{same_run-Decides}
use Rattle.mama_record.proofs.record.RunRecordPartialEq.eq.Goals as goal

pub returns-clause-exact : goal.returns-clause-exact
returns-clause-exact c =
    let exact = same_run-Decides c.args.self.now c.args.other.now in
    (λ h. exact.0 (sym c.has_parts_of.ensures ∙ h), λ e. c.has_parts_of.ensures ∙ exact.1 e)
