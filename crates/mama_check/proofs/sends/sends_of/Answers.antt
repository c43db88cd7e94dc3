use Rattle.std.proofs.Common.{◌∙◌}
use Rattle.mama_check.proofs.Counts.{sends_counted}
use Rattle.mama_check.proofs.sends.sends_of.Goals as goal

pub returns : goal.returns
returns c = c.send_count.ensures ∙ sends_counted c.args.lines.now
