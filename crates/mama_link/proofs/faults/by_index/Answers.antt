use Rattle.std.proofs.Common.{rules, ◌≡◌, None, Some, ◌<◌, ◌∙◌, sym, ap, cond, is_some, take, length, get_or, arith}
use Rattle.std.specs.Ordering.{nat_cmp}
use Rattle.std.specs.BTreeMap.{is_at}
use Rattle.mama_link.specs.Faults.{fault_of_row}
use Rattle.mama_link.proofs.FaultLemmas.{no_row, first_fault-good, first_fault-bad, table_from-more, fault_at-more}
use Rattle.mama_link.proofs.faults.by_index.Goals as goal

pub returns-in-Some-clause-refused : goal.returns-in-Some-clause-refused
returns-in-Some-clause-refused c known =
    let rows = c.args.rows.now in
    let k = c.loop-row.row-index in
    let row = get_or rows k no_row in
    let within : k < length rows = omega arith in
    let seen = ap is_some (c.loop-row.invariant.found row.index) in
    let bad : fault_of_row (take k rows) row ≡ Some c.in-Some.fault = cc in
    sym c.loop-row.invariant.sound ∙ first_fault-bad rows k c.in-Some.fault within bad

pub loop-row-preserved : goal.loop-row-preserved
loop-row-preserved c =
    let rows = c.args.rows.now in
    let k = c.loop-row.row-index in
    let row = get_or rows k no_row in
    let within : k < length rows = omega arith in
    let seen = ap is_some (c.loop-row.invariant.found row.index) in
    let good : fault_of_row (take k rows) row ≡ None = cc in
    record {
      entries = rw c.in_ok-insert.ensures.entries (table_from-more c.loop-row.table.entries rows k within ∙ c.loop-row.invariant.entries);
      found = λ i. c.in_ok-insert.ensures.updates.0 i ∙ ap (cond (is_at (nat_cmp row.index) i) (Some row.fault)) (c.loop-row.invariant.found i) ∙ fault_at-more rows k i within good;
      ordered = search rules;
      sound = first_fault-good rows k within good ∙ c.loop-row.invariant.sound;
    }
