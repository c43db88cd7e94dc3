use Rattle.mama_timer.specs.declared.firing.Firing.{Firing}
use Rattle.mama_timer.proofs.Writes.{listed_more, listed_kept}
use Rattle.mama_timer.proofs.firing.list_next.Goals as goal

none : Firing
none = record { timer = record { client = 0; number = 0 }; queue = 0; slot = 0; due = 0 }

pub loop-firing-preserved : goal.loop-firing-preserved
loop-firing-preserved c = record {
  kept = λ key h. listed_kept _ _ _ (c.in_ok-insert.ensures.updates.0 key) (c.loop-firing.invariant.kept key h);
  listed = λ key. listed_more c.args.firings.now c.loop-firing.firing-index _ key _ _ _ c.loop-firing-test.true (c.in_ok-insert.ensures.updates.0 key) (c.loop-firing.invariant.listed key);
}
