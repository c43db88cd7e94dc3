use Rattle.std.specs.List.{All}
use Rattle.std.proofs.Common.{◌≡◌, ◌++◌, ℕ, List, length, map}
use Rattle.mama_event.specs.declared.group.GroupNote.{GroupNote}
use Rattle.mama_group.specs.Listener.{told}
use Rattle.mama_plans.specs.Numbered.{numbered, lists_put}
use Rattle.mama_grouped.specs.Closing.{AreFound}
use Rattle.mama_grouped.specs.Seat.{HasHeard}
use Rattle.mama_grouped.proofs.heard.put_parts.Given as goal

abbrev pub invariant-loop-part : goal.invariant-loop-part
invariant-loop-part g l =
    let view = told g.H.GroupListener.tagged g.H.GroupListener.calls g.H.GroupListener.heard in
    record {
      whole : l.yielded ++ l.part-iterator.rest.items ≡ l.fn.parts.items;
      lists : numbered l.lists.items ≡ lists_put (map (λ p. (p.0, p.1.items)) l.yielded) (numbered l.initial.lists.items);
      listeners : (by : ℕ → List GroupNote) → All (λ p. HasHeard p.0 (by p.0) (view p.2)) l.yielded → AreFound view by l.initial.listeners.items → AreFound view by l.listeners.items;
      long : length l.listeners.items ≡ length l.initial.listeners.items;
    }
