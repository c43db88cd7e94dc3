use Rattle.std.specs.Borrow.{Bor}
use Rattle.std.proofs.Common.{List, arith, ◌∙◌}
use Rattle.mama_check.proofs.NextLemmas.{read_at, one_taken}
use Rattle.mama_check.proofs.lists.next_on.Goals as goal

pub returns-clause-rest : goal.returns-clause-rest
returns-clause-rest g c =
    let now = λ (list : Bor (List g.row.T.Denot)). list.now in
    one_taken now c.args.lists.now.items c.args.number c.in-Some.rest c.in-Some.first.now
    (read_at now c.args.lists.now.items c.args.number c.index.result.now (omega (arith, c.if-place-len.false, c.len.ensures)) c.index.ensures ∙ c.in-Some.ensures.cases.0)
