-- The fields so far have distinct keys, and the index has just these.
use Rattle.std.specs.Prelude.{◌≡◌, take}
use Rattle.std.specs.HashSet.{contains}
use Rattle.mama_msg.specs.declared.field.Key.{Key}
use Rattle.mama_msg.specs.Field.{same_key}
use Rattle.mama_msg.specs.Message.{AreDistinct, has_key}
use Rattle.mama_msg.proofs.distinct.are_distinct_by_index.Given as goal

abbrev pub invariant-loop-field : goal.invariant-loop-field
invariant-loop-field l = record {
  distinct : AreDistinct (take l.field-index l.fields);
  seen : (k : Key) → contains same_key l.seen k ≡ has_key k (take l.field-index l.fields);
}
