use Rattle.std.proofs.Common.{sym, ◌∙◌}
use Rattle.mama_timer.specs.Rows.{row_of}
use Rattle.mama_timer.proofs.Writes.{struck}
use Rattle.mama_timer.proofs.firing.strike_one.Goals as goal

pub returns : goal.returns
returns c = λ key due listed. struck (row_of c.args.timers.now.entries) c.args.old key _ _ (sym c.is_current.ensures ∙ c.if-is_current.false) (c.remove.ensures.updates.0 key) due listed
