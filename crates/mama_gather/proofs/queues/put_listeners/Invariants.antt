use Rattle.std.proofs.Common.{◌≡◌, ℕ, List, ◌++◌}
use Rattle.std.specs.List.{All}
use Rattle.mama_event.specs.declared.ids.ObjectId.{ObjectId}
use Rattle.mama_event.specs.declared.callback.CallNote.{CallNote}
use Rattle.mama_event.specs.Listener.{told}
use Rattle.mama_posts_clients.specs.Queue.{HasComeBack}
use Rattle.mama_gather.specs.Places.{AreListenersFound}
use Rattle.mama_gather.proofs.queues.put_listeners.Given as goal

abbrev pub invariant-loop-entry : goal.invariant-loop-entry
invariant-loop-entry g l =
    let view = told g.L.Tagged.tagged g.L.Listener.calls g.L.Listener.heard g.L.Listener.given g.L.Listener.plan in
    record {
      whole : l.yielded ++ l.entry-iterator.rest.items ≡ l.fn.listeners.items;
      moved : (calls : ℕ → ObjectId → List CallNote) → All (λ b. HasComeBack (calls l.queue b.0) (b.0, view b.1)) l.yielded → AreListenersFound view calls l.plans l.fn.found.items → AreListenersFound view calls l.plans l.found.items;
    }
