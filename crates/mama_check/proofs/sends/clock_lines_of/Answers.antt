use Rattle.std.proofs.Common.{◌∙◌}
use Rattle.mama_rules_rounds.specs.Client.{reads_clock}
use Rattle.mama_check.proofs.Counts.{counted}
use Rattle.mama_check.proofs.sends.clock_lines_of.Goals as goal

pub returns : goal.returns
returns c = c.clock_count.ensures ∙ counted reads_clock c.args.lines.now
