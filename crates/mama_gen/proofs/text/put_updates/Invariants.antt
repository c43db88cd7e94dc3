use Rattle.std.proofs.Common.{◌≡◌, ◌++◌}
use Rattle.std.specs.List.{flat_map}
use Rattle.mama_script.specs.Line.{ended}
use Rattle.mama_script.specs.Tree.{publisher_line}
use Rattle.mama_gen.specs.Generated.{update}
use Rattle.mama_gen.proofs.Each.{made, behind}
use Rattle.mama_gen.proofs.text.put_updates.Given as goal

abbrev pub invariant-loop : goal.invariant-loop
invariant-loop l = record {
  text : l.out.items ≡ l.fn.out.items ++ flat_map (λ u. ended (publisher_line u)) (made (λ n. update) l.counter l.fn.draws);
  state : l.draws ≡ behind (λ n. update) l.counter l.fn.draws;
}
