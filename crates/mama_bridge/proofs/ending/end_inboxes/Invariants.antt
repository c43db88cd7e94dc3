use Rattle.std.proofs.Common.{◌≡◌, ◌+◌, ◌≤◌, ◌++◌, length, sum_by}
use Rattle.mama_bridge.specs.Links.{inbox_held, InboxEndSteps}
use Rattle.mama_bridge.specs.Placed.{present}
use Rattle.mama_bridge.proofs.ending.end_inboxes.Given as goal

abbrev pub invariant-loop-entry : goal.invariant-loop-entry
invariant-loop-entry g l = record {
  done : InboxEndSteps (present l.yielded) l.initial.bodies.items l.bodies.items l.initial.out.items l.out.items;
  whole : l.yielded ++ l.entry-iterator.rest.items ≡ l.fn.entries.items;
  bodies : sum_by inbox_held (present l.entry-iterator.rest.items) ≤ l.bodies.spare;
  out : sum_by inbox_held (present l.entry-iterator.rest.items) + length (present l.entry-iterator.rest.items) ≤ l.out.spare;
  spare : l.initial.out.spare + (sum_by inbox_held (present l.entry-iterator.rest.items) + length (present l.entry-iterator.rest.items)) ≤ l.out.spare + (sum_by inbox_held (present l.fn.entries.items) + length (present l.fn.entries.items));
}
