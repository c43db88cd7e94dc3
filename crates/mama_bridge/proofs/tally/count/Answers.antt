use Rattle.std.proofs.Common.{◌<◌, ◌≤◌, length, arith, ap, ◌∙◌}
use Rattle.std.proofs.lemmas.List.{take_all}
use Rattle.mama_bridge.specs.Placed.{present}
use Rattle.mama_bridge.proofs.Entries.{present_more}
use Rattle.mama_bridge.proofs.tally.count.Goals as goal

pub loop-i-preserved : goal.loop-i-preserved
loop-i-preserved g c =
    let within : c.loop-i.i < length c.args.entries.now.items = omega arith in
    let more = present_more c.args.entries.now.items c.loop-i.i c.index.result.now within c.index.ensures in
    record { count = omega (arith, more, c.size-count.ensures.len); small = omega (arith, c.size-count.ensures.small) }

pub returns : goal.returns
returns g c =
    let most : length c.args.entries.now.items ≤ c.loop-i.i = omega arith in
    c.loop-i.invariant.count ∙ ap (λ es. length (present es)) (take_all c.loop-i.i c.args.entries.now.items most)
