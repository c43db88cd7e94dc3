use Rattle.std.proofs.Common.{◌∙◌, ◌++◌, ◌≤◌, rules, List, ap, arith, length}
use Rattle.mama_link.specs.Link.{messages}
use Rattle.mama_link.specs.Standing.{LinkData, Standing}
use Rattle.mama_link.proofs.PassLemmas.{length-messages}
use Rattle.mama_link.proofs.link.Link.finish.Goals as goal

pub returns-clause-out : goal.returns-clause-out
returns-clause-out g c x stands =
    let rests = c.into_held.ensures ∙ ap (λ (s : Standing _). messages s.held) stands in
    c.put_all.ensures.out ∙ rw c.reserve.ensures.items (ap (λ (ends : List _). c.args.out.now.items ++ ends) rests)

pub returns-clause-spare : goal.returns-clause-spare
returns-clause-spare g c =
    let count = ap length c.into_held.ensures ∙ length-messages c.args.self.standing.held in
    omega (arith, count, c.put_all.ensures.spare, c.reserve.ensures.spare)

pub put_all-requires : goal.put_all-requires
put_all-requires g c =
    let count = ap length c.into_held.ensures ∙ length-messages c.args.self.standing.held in
    let counted = c.self.invariant.counted in
    let seen = ap (λ (l : LinkData _). length l.standing.held) c.self.view_is in
    let reserved : c.self.inside.held ≤ c.reserve.new.self.spare = search rules in
    omega (arith, count, counted, seen, reserved)
