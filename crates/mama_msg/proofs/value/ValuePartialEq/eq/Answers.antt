-- The test of the lists of numbers is exact.
use Rattle.std.proofs.Common.{◌≡◌, ◌∙◌, sym, rules}
use Rattle.mama_msg.specs.Equality.{same_value}
use Rattle.mama_msg.specs.EqualityLaws.{same_value-Decides}
use Rattle.mama_msg.proofs.value.ValuePartialEq.eq.Goals as goal

pub returns-in-Numbers-Numbers-clause-exact : goal.returns-in-Numbers-Numbers-clause-exact
returns-in-Numbers-Numbers-clause-exact c =
    let value : c.eq-in-Numbers-Numbers.result ≡ same_value c.args.self.now c.args.other.now = search rules in
    let exact = same_value-Decides c.args.self.now c.args.other.now in
    (λ h. exact.0 (sym value ∙ h), λ e. value ∙ exact.1 e)
