use Rattle.std.proofs.Common.{◌≡◌, ◌++◌, take}
use Rattle.mama_words.specs.Field.{fields_text}
use Rattle.mama_words.proofs.field.put_fields.Given as goal

abbrev pub invariant-loop-i : goal.invariant-loop-i
invariant-loop-i l = l.out.items ≡ l.fn.out.items ++ fields_text (take l.i l.msg)
