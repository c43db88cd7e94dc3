-- The rows so far, with what is left put in, are those of the whole, for which there is room.
use Rattle.std.specs.Prelude.{◌≡◌, ◌≤◌, length, vec_len}
use Rattle.std.specs.Vec.{vec_capacity}
use Rattle.std.specs.Vec.Iter.{into_iter_items}
use Rattle.mama_msg.specs.Message.{AreDistinct, apply}
use Rattle.mama_msg.proofs.rows.put_reserved.Given as goal

abbrev pub invariant-loop-field : goal.invariant-loop-field
invariant-loop-field l = record {
  value : apply l.rows.items (into_iter_items l.field-iterator) ≡ apply l.initial.rows.items l.fn.others.items;
  distinct : AreDistinct l.rows.items;
  others_distinct : AreDistinct (into_iter_items l.field-iterator);
  room : length (apply l.rows.items (into_iter_items l.field-iterator)) ≤ vec_capacity l.rows;
  within : l.from ≤ vec_len l.rows;
}
