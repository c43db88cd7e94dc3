-- The copies so far are of the fields so far.
use Rattle.std.specs.Prelude.{◌≡◌, take}
use Rattle.mama_msg.proofs.rows.copies_of.Given as goal

abbrev pub invariant-loop-field : goal.invariant-loop-field
invariant-loop-field l = l.copies.items ≡ take l.field-index l.fields
