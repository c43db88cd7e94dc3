use Rattle.std.proofs.Common.{◌≡◌, ◌++◌}
use Rattle.std.specs.List.{flat_map}
use Rattle.mama_script.specs.Line.{ended}
use Rattle.mama_script.specs.Tree.{publisher_lines}
use Rattle.mama_gen.specs.Generated.{publisher}
use Rattle.mama_gen.proofs.Each.{made, behind}
use Rattle.mama_gen.proofs.text.put_publishers.Given as goal

abbrev pub invariant-loop-topic : goal.invariant-loop-topic
invariant-loop-topic l = record {
  text : l.out.items ≡ l.fn.out.items ++ flat_map (λ p. flat_map ended (publisher_lines p)) (made (publisher) l.topic l.fn.draws);
  state : l.draws ≡ behind (publisher) l.topic l.fn.draws;
}
