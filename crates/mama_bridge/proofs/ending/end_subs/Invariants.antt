use Rattle.std.proofs.Common.{◌≡◌, ◌+◌, ◌≤◌, ◌++◌, length, sum_by}
use Rattle.mama_bridge.specs.Links.{sub_held, EndSteps}
use Rattle.mama_bridge.proofs.ending.end_subs.Given as goal

abbrev pub invariant-loop-link : goal.invariant-loop-link
invariant-loop-link g l = record {
  done : EndSteps l.yielded l.initial.msgs.items l.msgs.items l.initial.out.items l.out.items;
  whole : l.yielded ++ l.link-iterator.rest.items ≡ l.fn.links.items;
  msgs : sum_by sub_held l.link-iterator.rest.items ≤ l.msgs.spare;
  out : sum_by sub_held l.link-iterator.rest.items + length l.link-iterator.rest.items ≤ l.out.spare;
  spare : l.initial.out.spare + (sum_by sub_held l.link-iterator.rest.items + length l.link-iterator.rest.items) ≤ l.out.spare + (sum_by sub_held l.fn.links.items + length l.fn.links.items);
}
