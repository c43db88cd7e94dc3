use Rattle.std.proofs.Common.{◌≡◌}
use Rattle.crossbeam_queue.specs.SegTies.{IsSegPassOf}
use Rattle.mama_lane.proofs.steps.claim.Given as goal

abbrev pub invariant-loop : goal.invariant-loop
invariant-loop g l = record {
  pass : IsSegPassOf l.queue l.pass × (l.pass.id ≡ 0);
  view : l.pass.me.view.client ≡ l.initial.pass.me.view.client;
}
