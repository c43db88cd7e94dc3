use Rattle.std.proofs.Common.{◌≡◌, ◌+◌, sum_by}
use Rattle.mama_bridge.specs.Live.{links_held, all_held}
use Rattle.mama_bridge.proofs.live.held_by_all.Given as goal

abbrev pub invariant-loop-links : goal.invariant-loop-links
invariant-loop-links l = l.total + sum_by links_held l.links-iterator ≡ all_held l.topics
