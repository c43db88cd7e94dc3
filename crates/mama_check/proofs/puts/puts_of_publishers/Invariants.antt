use Rattle.std.proofs.Common.{map}
use Rattle.mama_check_puts.specs.Puts.{AreLists}
use Rattle.mama_check.specs.Puts.{publisher_to_bridge}
use Rattle.mama_check.proofs.puts.puts_of_publishers.Given as goal

-- what so many publishers put is told
abbrev pub invariant-loop-p : goal.invariant-loop-p
invariant-loop-p l = AreLists (map (λ list. list.items) l.all.items) l.p (publisher_to_bridge l.script l.run)
