use Rattle.std.proofs.Common.{◌≡◌, ◌≤◌, ◌-◌, map, take, drop}
use Rattle.mama_words.specs.Parting.{parted_in}
use Rattle.mama_words.proofs.OnePass.{parted_on}
use Rattle.mama_words.proofs.parting.parted_into.Given as goal

-- what was found, the front of the next word and the rest make what the line has
abbrev pub invariant-loop-i : goal.invariant-loop-i
invariant-loop-i l = (l.start ≤ l.i) × (parted_on l.place (map (λ w. w.now) l.found.items) (take (l.i - l.start) (drop l.start l.line)) (drop l.i l.line) ≡ parted_in l.line)
