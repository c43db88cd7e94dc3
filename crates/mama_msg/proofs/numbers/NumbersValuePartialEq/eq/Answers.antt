-- The test of the lists of numbers is exact.
use Rattle.std.proofs.Common.{◌≡◌, ◌∙◌, sym, rules}
use Rattle.mama_msg.specs.Equality.{same_numbers}
use Rattle.mama_msg.specs.EqualityLaws.{same_numbers-Decides}
use Rattle.mama_msg.proofs.numbers.NumbersValuePartialEq.eq.Goals as goal

pub returns-clause-exact : goal.returns-clause-exact
returns-clause-exact c =
    let value : c.eq.result ≡ same_numbers c.args.self.now c.args.other.now = search rules in
    let exact = same_numbers-Decides c.args.self.now c.args.other.now in
    (λ h. exact.0 (sym value ∙ h), λ e. value ∙ exact.1 e)
