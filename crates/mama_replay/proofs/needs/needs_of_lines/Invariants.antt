use Rattle.std.proofs.Common.{◌≡◌, ◌++◌, drop}
use Rattle.mama_replay.specs.Needs.{client_needs}
use Rattle.mama_replay.proofs.needs.needs_of_lines.Given as goal

-- what was said and what the lines left say is what all say
abbrev pub invariant-loop-line : goal.invariant-loop-line
invariant-loop-line l = l.needs.items ++ client_needs (drop l.line-index l.lines) ≡ client_needs l.lines
