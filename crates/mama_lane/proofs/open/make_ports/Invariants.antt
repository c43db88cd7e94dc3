use Rattle.std.proofs.Common.{◌≡◌, ◌≤◌, vec_len, vec_capacity}
use Rattle.crossbeam_queue.specs.SegTies.{IsSegPassOf}
use Rattle.mama_lane.specs.Steps.{opened}
use Rattle.mama_lane.specs.Values.{new_ports}
use Rattle.mama_lane.proofs.open.make_ports.Given as goal

abbrev pub invariant-loop-number : goal.invariant-loop-number
invariant-loop-number g l = record {
  pass : IsSegPassOf l.lane.id l.pass × (l.pass.id ≡ 0);
  view : l.pass.me.view.client ≡ opened l.lane.bounds l.number;
  ports : l.made.items ≡ new_ports l.lane l.number;
  count : vec_len l.made ≡ l.number;
  room : l.lane.ports ≤ vec_capacity l.made;
}
