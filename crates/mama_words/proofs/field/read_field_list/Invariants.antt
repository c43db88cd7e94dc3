use Rattle.std.proofs.Common.{◌≡◌, map, drop}
use Rattle.mama_words.specs.Field.{fields_in}
use Rattle.mama_words.proofs.Fields.{joined}
use Rattle.mama_words.proofs.field.read_field_list.Given as goal

abbrev pub invariant-loop-word : goal.invariant-loop-word
invariant-loop-word l = joined l.found.items l.least (fields_in l.nums (map (λ w. w.now) (drop l.word-index l.words))) ≡ fields_in l.nums (map (λ w. w.now) l.words)
