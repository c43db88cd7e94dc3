-- The new keys among the fields so far.
use Rattle.std.specs.Prelude.{◌≡◌, ◌≤◌, not, length, take, count_by}
use Rattle.mama_msg.specs.Field.{key_of}
use Rattle.mama_msg.specs.Message.{has_key}
use Rattle.mama_msg.proofs.scan.new_keys.Given as goal

abbrev pub invariant-loop-field : goal.invariant-loop-field
invariant-loop-field l = record {
  counted : l.new ≡ count_by (λ f. not (has_key (key_of f) l.fields)) (take l.field-index l.update);
  within : l.from ≤ length l.fields;
}
