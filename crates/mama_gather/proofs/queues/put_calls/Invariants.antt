use Rattle.std.proofs.Common.{◌≡◌, ℕ, List, ◌++◌}
use Rattle.std.specs.List.{All}
use Rattle.mama_event.specs.declared.ids.ObjectId.{ObjectId}
use Rattle.mama_event.specs.declared.callback.CallNote.{CallNote}
use Rattle.mama_gather.specs.Places.{AreCallsFound}
use Rattle.mama_gather.proofs.queues.put_calls.Given as goal

abbrev pub invariant-loop-list : goal.invariant-loop-list
invariant-loop-list l = record {
  whole : l.yielded ++ l.list-iterator.rest.items ≡ l.fn.lists.items;
  moved : (calls : ℕ → ObjectId → List CallNote) → All (λ n. n.1.items ≡ calls l.queue n.0) l.yielded → AreCallsFound calls l.plans l.fn.found.items → AreCallsFound calls l.plans l.found.items;
}
