use Rattle.std.proofs.Common.{◌≡◌, ◌++◌}
use Rattle.std.specs.List.{flat_map}
use Rattle.mama_script.specs.Line.{ended}
use Rattle.mama_script.specs.Tree.{client_lines}
use Rattle.mama_gen.specs.Generated.{client}
use Rattle.mama_gen.proofs.Each.{made, behind}
use Rattle.mama_gen.proofs.text.put_clients.Given as goal

abbrev pub invariant-loop : goal.invariant-loop
invariant-loop l = record {
  text : l.out.items ≡ l.fn.out.items ++ flat_map (λ c. flat_map ended (client_lines c)) (made (λ n. client) l.counter l.fn.draws);
  state : l.draws ≡ behind (λ n. client) l.counter l.fn.draws;
}
