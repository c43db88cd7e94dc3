use Rattle.std.proofs.Common.{◌≡◌, ◌+◌, ◌≤◌, sum_by, vec_len, length, take}
use Rattle.std.specs.Vec.{vec_capacity}
use Rattle.mama_bridge.specs.Links.{sub_held}
use Rattle.mama_bridge.specs.Live.{all_held}
use Rattle.mama_bridge.specs.Placed.{present}
use Rattle.mama_bridge.proofs.InOrder.{IsTakenTo}
use Rattle.mama_bridge.proofs.live.take_in_order.Given as goal

abbrev pub invariant-loop-i : goal.invariant-loop-i
invariant-loop-i l = record {
  taken : IsTakenTo (present l.places.items) l.initial.topics l.topics l.links.items (length (present (take l.i l.places.items)));
  held : all_held l.topics + sum_by sub_held l.links.items ≡ all_held l.initial.topics;
  len : vec_len l.links ≤ length (present (take l.i l.places.items));
  capacity : vec_capacity l.links ≡ vec_capacity l.initial.links;
}
