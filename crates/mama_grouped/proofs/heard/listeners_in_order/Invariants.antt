use Rattle.std.proofs.Common.{◌≡◌, ◌++◌, ℕ, List, Some, map}
use Rattle.mama_event.specs.declared.group.GroupNote.{GroupNote}
use Rattle.mama_group.specs.Listener.{told}
use Rattle.mama_grouped.specs.Closing.{AreFound, AreInOrder}
use Rattle.mama_grouped.proofs.heard.listeners_in_order.Given as goal

abbrev pub invariant-loop-place : goal.invariant-loop-place
invariant-loop-place g l = record {
  order : (by : ℕ → List GroupNote) → AreFound (told g.H.GroupListener.tagged g.H.GroupListener.calls g.H.GroupListener.heard) by l.fn.found.items → AreInOrder (told g.H.GroupListener.tagged g.H.GroupListener.calls g.H.GroupListener.heard) by 0 l.listeners.items;
  whole : map (λ b. Some b.1) l.listeners.items ++ l.place-iterator.rest.items ≡ l.fn.found.items;
}
