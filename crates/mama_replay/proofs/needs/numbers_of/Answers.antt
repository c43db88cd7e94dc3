use Rattle.std.proofs.Common.{◌∙◌}
use Rattle.mama_replay.specs.Followed.{is_pause}
use Rattle.mama_replay.proofs.Needing.{numbers_more, number_low}
use Rattle.mama_replay.proofs.needs.numbers_of.Goals as goal

pub loop-line-preserved : goal.loop-line-preserved
loop-line-preserved c = record {
  told = numbers_more c.loop-line.numbers.items c.push.new.self.items c.loop-line.number c.after_line-number.result c.args.lines.now c.loop-line.line-index c.line-item.result c.loop-line-test.true c.line-item.is
      c.in_ok-push.ensures.items c.after_line-number.ensures ∙ c.loop-line.invariant.told;
  low = number_low (is_pause c.line-item.result) c.loop-line.number c.loop-line.line-index c.after_line-number.result c.loop-line.invariant.low c.after_line-number.ensures;
}
