use Rattle.std.proofs.Common.{◌∙◌, ap, arith}
use Rattle.std.specs.Prelude.{take, drop}
use Rattle.mama_hall.proofs.PortLemmas.{ports_count, ports_before, ports_after}
use Rattle.mama_hall.proofs.ends.part.Goals as goal

pub split_off-requires : goal.split_off-requires
split_off-requires g c = let count = ports_count c.args._lane.now c.args.ports.now.items c.args.front c.args._back c.requires in omega (arith, count)

pub returns-clause-front : goal.returns-clause-front
returns-clause-front g c = (c.in_ok-split_off.ensures.items ∙ ap (take c.args.front) c.requires) ∙ ports_before c.args._lane.now c.args.front c.args._back

pub returns-clause-back : goal.returns-clause-back
returns-clause-back g c = (c.in_ok-split_off.ensures.tail ∙ ap (drop c.args.front) c.requires) ∙ ports_after c.args._lane.now c.args.front c.args._back
