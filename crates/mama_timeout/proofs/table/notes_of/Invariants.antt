use Rattle.std.specs.Prelude.{map}
use Rattle.std.specs.Vec.{vec_len, vec_capacity}
use Rattle.std.proofs.Common.{◌≡◌, ◌+◌, ◌≤◌, ◌++◌, length}
use Rattle.mama_timeout.specs.Table.{part_of}
use Rattle.mama_timeout.specs.Kept.{watch_of}
use Rattle.mama_timeout.proofs.table.notes_of.Given as goal

abbrev pub invariant-loop-watch : goal.invariant-loop-watch
invariant-loop-watch l = record {
  moved : map (λ w. (w.0, w.1.items)) l.notes.items ≡ map part_of (map watch_of l.yielded);
  whole : l.yielded ++ l.watch-iterator.rest.items ≡ l.fn.watches.items;
  room : vec_len l.notes + length l.watch-iterator.rest.items ≤ vec_capacity l.notes;
}
