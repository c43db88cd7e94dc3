use Rattle.std.proofs.Common.{◌≤◌, length, arith, ap, ◌∙◌}
use Rattle.mama_bridge.specs.Placed.{present}
use Rattle.mama_bridge.proofs.LinkLemmas.{cut_present}
use Rattle.mama_bridge.proofs.numbers.compact.Goals as goal

pub returns-clause-links : goal.returns-clause-links
returns-clause-links c =
    let most : length c.loop-i.entries.items ≤ c.loop-i.i = omega (arith, c.loop-i.invariant.len) in
    ap present c.truncate.ensures.items ∙ cut_present c.loop-i.entries.items c.loop-i.next c.loop-i.i most c.loop-i.invariant.gap ∙ c.loop-i.invariant.links
