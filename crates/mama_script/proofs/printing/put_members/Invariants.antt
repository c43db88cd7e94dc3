use Rattle.std.proofs.Common.{◌≡◌, ◌++◌, take}
use Rattle.std.specs.List.{flat_map}
use Rattle.mama_script.specs.Text.{member_text}
use Rattle.mama_script.proofs.printing.put_members.Given as goal

abbrev pub invariant-loop-sub : goal.invariant-loop-sub
invariant-loop-sub l = l.out.items ≡ l.fn.out.items ++ flat_map member_text (take l.sub-index l.members)
