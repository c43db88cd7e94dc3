use Rattle.std.proofs.Common.{◌≡◌, ◌++◌}
use Rattle.std.specs.List.{flat_map}
use Rattle.mama_script.specs.Line.{ended}
use Rattle.mama_script.specs.Tree.{step_lines}
use Rattle.mama_gen.specs.Generated.{subscription}
use Rattle.mama_gen.proofs.Each.{made, behind}
use Rattle.mama_gen.proofs.text.put_subscriptions.Given as goal

abbrev pub invariant-loop-topic : goal.invariant-loop-topic
invariant-loop-topic l = record {
  text : l.out.items ≡ l.fn.out.items ++ flat_map (λ s. flat_map ended (step_lines s)) (made (subscription) l.topic l.fn.draws);
  state : l.draws ≡ behind (subscription) l.topic l.fn.draws;
}
