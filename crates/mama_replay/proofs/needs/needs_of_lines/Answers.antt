use Rattle.std.proofs.Common.{◌∙◌}
use Rattle.mama_replay.proofs.Needing.{lines_more}
use Rattle.mama_replay.proofs.needs.needs_of_lines.Goals as goal

pub loop-line-preserved : goal.loop-line-preserved
loop-line-preserved c =
    lines_more c.loop-line.needs.items c.add_line.new.needs.items c.args.lines.now c.loop-line.line-index c.line-item.result c.loop-line-test.true c.line-item.is c.in_ok-add_line.ensures ∙ c.loop-line.invariant
