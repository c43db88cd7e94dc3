use Rattle.std.proofs.Common.{◌≡◌, map, take}
use Rattle.mama_log_line.specs.Names.{data_of}
use Rattle.mama_log_line.proofs.names.all_names.Given as goal

abbrev pub invariant-loop-lines : goal.invariant-loop-lines
invariant-loop-lines l = l.all.items ≡ map (data_of l.queues) (take l.lines-index l.clients)
