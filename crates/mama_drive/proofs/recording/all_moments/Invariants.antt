use Rattle.std.specs.Vec.{vec_len, vec_capacity}
use Rattle.std.proofs.Common.{◌≡◌, ◌+◌, ◌≤◌, ◌++◌, length, map}
use Rattle.mama_record.specs.RunView.{moments_of}
use Rattle.mama_drive.specs.Record.{read_in}
use Rattle.mama_drive.proofs.recording.all_moments.Given as goal

abbrev pub invariant-loop-seat : goal.invariant-loop-seat
invariant-loop-seat l = record {
  moved : moments_of l.found.items ≡ map read_in l.yielded;
  whole : l.yielded ++ l.seat-iterator.rest.items ≡ l.fn.seats.items;
  room : vec_len l.found + length l.seat-iterator.rest.items ≤ vec_capacity l.found;
}
