use Rattle.std.proofs.Common.{◌≡◌}
use Rattle.crossbeam_utils.specs.Seq.{cell_view}
use Rattle.mama_pool.proofs.steps.count.Given as goal

abbrev pub invariant-loop : goal.invariant-loop
invariant-loop g l = record {
  pass : l.pass.table_id ≡ l.initial.pass.table_id;
  view : cell_view l.pass ≡ cell_view l.initial.pass;
}
