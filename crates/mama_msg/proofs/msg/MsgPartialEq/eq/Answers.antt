-- The test of the lists of values is exact.
use Rattle.std.proofs.Common.{◌≡◌, ◌∙◌, sym, rules}
use Rattle.mama_msg.specs.Equality.{same_message}
use Rattle.mama_msg.specs.EqualityLaws.{same_message-Decides}
use Rattle.mama_msg.proofs.msg.MsgPartialEq.eq.Goals as goal

pub returns-clause-exact : goal.returns-clause-exact
returns-clause-exact c =
    let value : c.eq.result ≡ same_message c.args.self.now c.args.other.now = search rules in
    let exact = same_message-Decides c.args.self.now c.args.other.now in
    (λ h. exact.0 (sym value ∙ h), λ e. value ∙ exact.1 e)
