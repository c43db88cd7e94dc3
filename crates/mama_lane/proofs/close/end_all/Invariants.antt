use Rattle.std.proofs.Common.{◌≡◌}
use Rattle.crossbeam_queue.specs.SegTies.{IsSegPassOf}
use Rattle.mama_lane.specs.Steps.{with_ended}
use Rattle.mama_lane.proofs.close.end_all.Given as goal

abbrev pub invariant-loop-port : goal.invariant-loop-port
invariant-loop-port g l = record {
  pass : IsSegPassOf l.lane.id l.pass × (l.pass.id ≡ 0);
  view : l.pass.me.view.client ≡ with_ended l.initial.pass.me.view.client l.yielded;
}
