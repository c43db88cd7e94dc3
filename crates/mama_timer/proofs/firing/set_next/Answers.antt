use Rattle.mama_timer.proofs.Writes.{set_more}
use Rattle.mama_timer.proofs.firing.set_next.Goals as goal

pub loop-firing-preserved : goal.loop-firing-preserved
loop-firing-preserved c = λ timer. set_more c.args.firings.now c.loop-firing.firing-index _ timer _ _ _ c.loop-firing-test.true (c.set_due.ensures timer) (c.loop-firing.invariant timer)
