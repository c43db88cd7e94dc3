use Rattle.std.proofs.Common.{◌≡◌, ◌++◌, take}
use Rattle.std.specs.List.{flat_map}
use Rattle.mama_script.specs.Text.{publisher_text}
use Rattle.mama_script.proofs.printing.put_publishers.Given as goal

abbrev pub invariant-loop-part : goal.invariant-loop-part
invariant-loop-part l = l.out.items ≡ l.fn.out.items ++ flat_map publisher_text (take l.part-index l.parts)
