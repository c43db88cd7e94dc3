use Rattle.std.proofs.Common.{sym, ◌∙◌}
use Rattle.std.proofs.lemmas.Bool.Decides.{Decides-eqb}
use Rattle.mama_event.specs.Publisher.{is_send}
use Rattle.mama_check.proofs.Counts.{counted}
use Rattle.mama_check.proofs.sent.has_sent.Goals as goal

pub returns : goal.returns
returns c =
    let same = Decides-eqb c.sends_among.result c.args.sends in
    let count = c.sends_among.ensures ∙ counted is_send c.args.entries.now in
    (λ h. sym count ∙ same.0 h, λ e. same.1 (count ∙ e))
