use Rattle.std.proofs.Common.{◌≡◌, drop}
use Rattle.mama_words.specs.Named.{named_in}
use Rattle.mama_script.specs.HeadText.{head_text}
use Rattle.mama_script.proofs.head.named.Given as goal

abbrev pub invariant-loop-head : goal.invariant-loop-head
invariant-loop-head l = named_in head_text l.word (drop l.head-index l.heads) ≡ named_in head_text l.word l.heads
