use Rattle.std.proofs.Common.{rules, ◌≡◌, [], sym, subst, List}
use Rattle.mama_link.specs.declared.faults.FaultRow.{FaultRow}
use Rattle.mama_link.specs.Table.{table_of, IsTable}
use Rattle.mama_link.proofs.FaultLemmas.{no_rows}
use Rattle.mama_link.proofs.faults.Faults.table.Goals as goal

pub returns-in-None-clause-entries : goal.returns-in-None-clause-entries
returns-in-None-clause-entries c =
    let none : c.args.self.now ≡ [] = search rules in
    subst (λ (rows : List FaultRow). IsTable rows (table_of rows)) (sym none) no_rows
