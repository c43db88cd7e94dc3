use Rattle.std.proofs.Common.{arith}
use Rattle.mama_plans.proofs.EachLemmas.{added_there, added_past}
use Rattle.mama_plans.proofs.lists.add_to.Goals as goal

pub returns-then-place-len : goal.returns-then-place-len
returns-then-place-len g c = added_past c.args.lists.now.items c.args.place c.args.value (omega (arith, c.if-place-len.true, c.len.ensures, c.args.lists.now.ok.0))

pub returns : goal.returns
returns g c =
    added_there c.args.lists.now.items c.args.place c.index_mut.result.now c.push.new.self c.args.value (omega (arith, c.if-place-len.false, c.len.ensures, c.args.lists.now.ok.0))
    c.index_mut.ensures.value c.in_ok-push.ensures.items
