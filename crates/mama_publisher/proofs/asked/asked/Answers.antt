use Rattle.std.proofs.Common.{arith, ◌∙◌}
use Rattle.mama_publisher.proofs.Asking.{asked-found, asked-missing}
use Rattle.mama_publisher.proofs.asked.asked.Goals as goal
use Rattle.mama_publisher.proofs.asked.asked.Goals.{in-Some+in_ok-try_clone+in_ok-update, in_default}

pub loop-i-preserved : goal.loop-i-preserved
loop-i-preserved c = elim c.match-find.branch [
  | in-Some+in_ok-try_clone+in_ok-update w ↦
      asked-found c.args.held.now c.args.fids.now c.loop-i.i c.at.result c.unwrap-any_name.result w.in-Some.field.now w.in_ok-try_clone.field-0 c.loop-i.reply c.match-find.reply
      c.len-i-end.ensures.form (omega arith) c.at.ensures w.in-Some.ensures w.in_ok-try_clone.ensures.equal c.loop-i.invariant (w.reply-is ∙ w.in_ok-update.ensures.ok)
  | in_default w ↦
      asked-missing c.args.held.now c.args.fids.now c.loop-i.i c.at.result c.unwrap-any_name.result c.loop-i.reply c.match-find.reply
      c.len-i-end.ensures.form (omega arith) c.at.ensures w.in_default.ensures c.loop-i.invariant w.reply-is
]
