use Rattle.std.proofs.Common.{◌≡◌, ◌++◌, take}
use Rattle.std.specs.List.{flat_map}
use Rattle.mama_record.specs.LogText.{clock_line}
use Rattle.mama_record.proofs.log.put_moments.Given as goal

abbrev pub invariant-loop-moment : goal.invariant-loop-moment
invariant-loop-moment l = l.out.items ≡ l.fn.out.items ++ flat_map clock_line (take l.moment-index l.moments)
