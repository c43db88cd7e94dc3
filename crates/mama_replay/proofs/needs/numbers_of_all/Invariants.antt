use Rattle.std.proofs.Common.{◌≡◌, map, take}
use Rattle.mama_replay.specs.Needs.{all_numbers}
use Rattle.mama_replay.proofs.needs.numbers_of_all.Given as goal

abbrev pub invariant-loop-lines : goal.invariant-loop-lines
invariant-loop-lines l = map (λ client. client.items) l.numbers.items ≡ all_numbers (take l.lines-index l.clients)
