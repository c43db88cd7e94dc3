use Rattle.std.proofs.Common.{arith}
use Rattle.mama_plans.proofs.EachLemmas.{put_there, put_nowhere}
use Rattle.mama_plans.proofs.numbered.put_list.Goals as goal

pub returns-then-place-len : goal.returns-then-place-len
returns-then-place-len g c =
    put_there c.args.lists.now.items c.args.number c.index_mut.result.now c.args.list (omega (arith, c.if-place-len.true, c.len.ensures, c.args.lists.now.ok.0)) c.index_mut.ensures.value

pub returns-else-place-len : goal.returns-else-place-len
returns-else-place-len g c = put_nowhere c.args.lists.now.items c.args.number c.args.list.items (omega (arith, c.if-place-len.false, c.len.ensures, c.args.lists.now.ok.0))
