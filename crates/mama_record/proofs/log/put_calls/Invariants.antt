use Rattle.std.proofs.Common.{◌≡◌, ◌++◌, length, take}
use Rattle.std.specs.List.{flat_map}
use Rattle.mama_record.specs.LogText.{call_texts}
use Rattle.mama_record.specs.SectionText.{call_lines}
use Rattle.mama_record.proofs.log.put_calls.Given as goal

abbrev pub invariant-loop-call : goal.invariant-loop-call
invariant-loop-call l = record {
  lines : l.out.items ≡ l.fn.out.items ++ flat_map call_lines (take l.call-index l.calls);
  count : l.count ≡ length (flat_map call_texts (take l.call-index l.calls));
}
