use Rattle.std.specs.Vec.Iter.{into_iter_items}
use Rattle.std.proofs.Common.{◌≡◌, ◌++◌, map}
use Rattle.mama_grouped.specs.New.{AreGrouped}
use Rattle.mama_grouped.proofs.crew.with_groups.Given as goal

abbrev pub invariant-loop-seat : goal.invariant-loop-seat
invariant-loop-seat g l = record {
  whole : l.yielded ++ l.seat-iterator.rest.items ≡ l.fn.seats.items;
  grouped : AreGrouped l.script l._hall l.yielded l.seat-iterator.rest.items (map (λ list. list.items) (into_iter_items l.lists)) l.grouped.items;
}
