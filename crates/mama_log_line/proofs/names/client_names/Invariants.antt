use Rattle.std.proofs.Common.{◌≡◌, ◌≤◌, drop}
use Rattle.mama_log_line.specs.Names.{data_after, data_of}
use Rattle.mama_log_line.proofs.names.client_names.Given as goal

abbrev pub invariant-loop-line : goal.invariant-loop-line
invariant-loop-line l = record {
  told : data_after l.queues l.turns l.found (drop l.line-index l.lines) ≡ data_of l.queues l.lines;
  few : l.turns ≤ l.line-index;
}
