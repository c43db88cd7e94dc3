use Rattle.std.specs.Prelude.{map}
use Rattle.std.specs.Vec.{vec_len, vec_capacity}
use Rattle.std.proofs.Common.{◌≡◌, ◌+◌, ◌≤◌, ◌++◌, length}
use Rattle.mama_event.specs.Listener.{told}
use Rattle.mama_dispatch.specs.Rows.{row_data}
use Rattle.mama_dispatch.specs.Notes.{lists_of}
use Rattle.mama_dispatch.specs.Noted.{lists_in}
use Rattle.mama_dispatch.proofs.notes.calls_of_rows.Given as goal

abbrev pub invariant-loop-row : goal.invariant-loop-row
invariant-loop-row g l = record {
  moved : lists_of l.calls.items ≡ lists_in (map (row_data (told g.L.Tagged.tagged g.L.Listener.calls g.L.Listener.heard g.L.Listener.given g.L.Listener.plan)) l.yielded);
  whole : l.yielded ++ l.row-iterator.rest.items ≡ l.fn.rows.items;
  room : vec_len l.calls + length l.row-iterator.rest.items ≤ vec_capacity l.calls;
}
