use Rattle.std.proofs.Common.{◌≢◌, suc, ◌-◌, arith, ap, ◌∙◌, subst}
use Rattle.mama_dq.specs.Cache.{CacheData}
use Rattle.mama_dq.proofs.CacheLemmas.{Follows, follows_above, follows_hole, follows_up, between_above}
use Rattle.mama_dq.proofs.cache.Cache.follow.Goals as goal

pub loop-next-init : goal.loop-next-init
loop-next-init c =
    let P : CacheData → Type 0 = λ k. Follows c.into_iter-next-iterator.result k.updates c.args.number c.args.number c.args.image.now c.args.image.now in
    subst P c.self.view_is
    (follows_above c.into_iter-next-iterator.result c.self.inside.updates.entries c.args.number c.args.image.now
    (c.into_iter-next-iterator.ensures.into_iter_gives ∙ c.range-next-items.ensures.between tt ∙ between_above c.args.number c.self.inside.updates.entries)
    c.range-next-items.ensures.ordered)

pub overflow_sub-next : goal.overflow_sub-next
overflow_sub-next c =
    let up = follows_up _ _ _ _ _ _ _ _ c.loop-next.invariant c.in-Some.ensures.steps in omega (arith, up)

pub returns-then-next-at-ne1-clause-number : goal.returns-then-next-at-ne1-clause-number
returns-then-next-at-ne1-clause-number c =
    let up = follows_up _ _ _ _ _ _ _ _ c.loop-next.invariant c.in-Some.ensures.steps in
    let hole : c.in-Some.next.now ≢ suc c.loop-next.at = omega (arith, up) in
    ap (λ r. r.number) (follows_hole _ _ _ _ _ _ _ _ c.loop-next.invariant c.in-Some.ensures.steps hole)

pub returns-then-next-at-ne1-clause-body : goal.returns-then-next-at-ne1-clause-body
returns-then-next-at-ne1-clause-body c =
    let up = follows_up _ _ _ _ _ _ _ _ c.loop-next.invariant c.in-Some.ensures.steps in
    let hole : c.in-Some.next.now ≢ suc c.loop-next.at = omega (arith, up) in
    ap (λ r. r.body) (follows_hole _ _ _ _ _ _ _ _ c.loop-next.invariant c.in-Some.ensures.steps hole)
