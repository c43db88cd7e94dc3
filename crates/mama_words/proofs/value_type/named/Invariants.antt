use Rattle.std.proofs.Common.{◌≡◌, drop}
use Rattle.mama_words.specs.Value.{type_text}
use Rattle.mama_words.specs.Named.{named_in}
use Rattle.mama_words.proofs.value_type.named.Given as goal

abbrev pub invariant-loop-kind : goal.invariant-loop-kind
invariant-loop-kind l = named_in type_text l.word (drop l.kind-index l.kinds) ≡ named_in type_text l.word l.kinds
