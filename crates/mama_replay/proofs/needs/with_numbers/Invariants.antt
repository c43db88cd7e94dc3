use Rattle.std.proofs.Common.{◌≡◌, map, take}
use Rattle.mama_replay.specs.Needs.{renumbered}
use Rattle.mama_replay.proofs.needs.with_numbers.Given as goal

abbrev pub invariant-loop-need : goal.invariant-loop-need
invariant-loop-need l = l.all.items ≡ map (renumbered (map (λ client. client.items) l.numbers)) (take l.need-index l.needs)
