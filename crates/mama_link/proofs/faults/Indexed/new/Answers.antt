use Rattle.std.proofs.Common.{rules, ◌≡◌, ◌∙◌, sym, ap, ℕ, Some, List, get_or}
use Rattle.std.specs.List.{All}
use Rattle.mama_link.specs.declared.faults.Fault.{Fault}
use Rattle.mama_link.specs.declared.faults.FaultRow.{FaultRow}
use Rattle.mama_link.specs.Faults.{fault_at}
use Rattle.mama_link.specs.Table.{IsTable}
use Rattle.mama_link.proofs.faults.Indexed.new.Goals as goal

pub invariant_of-result : goal.invariant_of-result
invariant_of-result c =
    let rows = c.args.rows.items in
    let table = c.in_ok-table.table.items in
    let told : All (λ (entry : ℕ × Fault). fault_at rows entry.0 ≡ Some entry.1) table = λ k d h.
    let entry : ℕ × Fault = get_or table k d in
    ap (λ (told_by : List FaultRow). fault_at told_by entry.0) (sym c.as_slice.ensures.value) ∙ sym (c.in_ok-by_index.ensures.found entry.0) ∙ c.in_ok-table.ensures.found k d h in
    let entries : IsTable rows table = record { sound = search rules; ordered = search rules; found = search rules; told = told } in
    record { tabled = search rules; entries = entries; due = search rules }
