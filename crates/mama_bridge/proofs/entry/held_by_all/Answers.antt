use Rattle.std.proofs.Common.{◌<◌, ◌≤◌, ◌∙◌, sum_by, length, arith, ap}
use Rattle.std.proofs.lemmas.List.{take_all}
use Rattle.mama_bridge.specs.Links.{sub_held}
use Rattle.mama_bridge.specs.Placed.{present}
use Rattle.mama_bridge.proofs.RowLemmas.{held_step}
use Rattle.mama_bridge.proofs.entry.held_by_all.Goals as goal

pub loop-i-preserved : goal.loop-i-preserved
loop-i-preserved c =
    let within : c.loop-i.i < length c.args.entries.now.items = omega arith in
    let step = held_step c.args.entries.now.items c.loop-i.i c.index.result.now within c.index.ensures in
    omega (arith, step, c.in_ok-total.ensures, c.held.ensures, c.loop-i.invariant)

pub returns : goal.returns
returns c =
    let most : length c.args.entries.now.items ≤ c.loop-i.i = omega arith in
    c.loop-i.invariant ∙ ap (λ es. sum_by sub_held (present es)) (take_all c.loop-i.i c.args.entries.now.items most)
