use Rattle.std.proofs.Common.{◌≡◌, ◌++◌}
use Rattle.mama_plans.specs.Numbered.{numbered, lists_put}
use Rattle.mama_gather.proofs.queues.put_noted.Given as goal

abbrev pub invariant-loop-entry : goal.invariant-loop-entry
invariant-loop-entry l = record {
  whole : l.yielded ++ l.entry-iterator.rest.items ≡ l.fn.lists.items;
  put : numbered l.noted.items ≡ lists_put (numbered l.yielded) (numbered l.fn.noted.items);
}
