use Rattle.std.proofs.Common.{◌≡◌, ◌++◌, take}
use Rattle.std.specs.List.{flat_map}
use Rattle.mama_record.specs.LogText.{bridge_entry_line}
use Rattle.mama_record.proofs.log.put_bridge_entries.Given as goal

abbrev pub invariant-loop-entry : goal.invariant-loop-entry
invariant-loop-entry l = l.out.items ≡ l.fn.out.items ++ flat_map (bridge_entry_line l.shape) (take l.entry-index l.entries)
