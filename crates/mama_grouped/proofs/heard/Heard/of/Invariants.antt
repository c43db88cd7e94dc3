use Rattle.std.specs.List.{All, flat_map}
use Rattle.std.proofs.Common.{◌≡◌, ◌++◌, ℕ, List, [], length, map}
use Rattle.mama_journal.specs.Journal.{numbers_below}
use Rattle.mama_event.specs.declared.group.GroupNote.{GroupNote}
use Rattle.mama_group.specs.Listener.{told}
use Rattle.mama_plans.specs.Numbered.{numbered, lists_put}
use Rattle.mama_grouped.specs.Closing.{lists_in, AreBy, AreFound}
use Rattle.mama_grouped.proofs.heard.Heard.of.Given as goal

abbrev pub invariant-loop-seat : goal.invariant-loop-seat
invariant-loop-seat g l = record {
  whole : l.yielded ++ l.seat-iterator.rest.items ≡ l.fn.seats.items;
  seats : l.heard.seats.items ≡ map (λ s. s.seat) l.yielded;
  lists : numbered l.heard.lists.items ≡ lists_put (flat_map lists_in l.yielded) (map (λ n. (n, [])) (numbers_below l.fn.count));
  listeners : (by : ℕ → List GroupNote) → All (λ s. AreBy by s.hearing) l.yielded → AreFound (told g.H.GroupListener.tagged g.H.GroupListener.calls g.H.GroupListener.heard) by l.heard.listeners.items;
  long : length l.heard.listeners.items ≡ l.fn.count;
}
