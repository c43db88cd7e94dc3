use Rattle.std.proofs.Common.{◌-◌, arith, rules, sym, ◌∙◌, ap, subst, ◌++◌, ◌∷◌, [], None, List}
use Rattle.std.specs.declared.option.Option.{Option}
use Rattle.mama_event.specs.declared.ids.SubId.{SubId}
use Rattle.mama_bridge.specs.Placed.{present}
use Rattle.mama_bridge.specs.Linked.{Linked, IsNoted, subs_in}
use Rattle.mama_bridge.specs.declared.subs.SubLink.{SubLink}
use Rattle.mama_bridge.proofs.LinkLemmas.{last_is, noted_added, added_last}
use Rattle.mama_bridge.proofs.links.Links.add.Goals as goal

pub put_at-requires : goal.put_at-requires
put_at-requires c =
    let is = c.is_awaited.ensures.yes c.if-is_awaited.true in
    let noted = subst (λ (o : Option SubId). IsNoted c.self.inside.indexes (subs_in c.self.inside.entries.items) c.self.inside.first o) is c.self.invariant in
    let last = last_is c.self.inside.indexes c.self.inside.entries.items c.args.link.sub c.len-last.result c.self.inside.first (search rules) noted in
    omega (arith, last)

pub invariant_of-self : goal.invariant_of-self
invariant_of-self c =
    let is = c.is_awaited.ensures.yes c.if-is_awaited.true in
    let noted = subst (λ (o : Option SubId). IsNoted c.self.inside.indexes (subs_in c.self.inside.entries.items) c.self.inside.first o) is c.self.invariant in
    let last = last_is c.self.inside.indexes c.self.inside.entries.items c.args.link.sub c.len-last.result c.self.inside.first (search rules) noted in
    subst (λ (es : List (Option SubLink)). IsNoted c.self.inside.indexes (subs_in es) c.self.inside.first None) (sym c.put_at.ensures)
    (noted_added c.self.inside.indexes c.self.inside.entries.items c.args.link (c.len-last.result - 1) c.self.inside.first last noted)

pub returns-then-is_awaited : goal.returns-then-is_awaited
returns-then-is_awaited c awaited =
    let is = c.is_awaited.ensures.yes c.if-is_awaited.true in
    let noted = subst (λ (o : Option SubId). IsNoted c.self.inside.indexes (subs_in c.self.inside.entries.items) c.self.inside.first o) is c.self.invariant in
    let last = last_is c.self.inside.indexes c.self.inside.entries.items c.args.link.sub c.len-last.result c.self.inside.first (search rules) noted in
    ap present c.put_at.ensures ∙ added_last c.self.inside.indexes c.self.inside.entries.items c.args.link (c.len-last.result - 1) c.self.inside.first last noted
    ∙ ap (λ (p : Linked). p.links ++ c.args.link ∷ []) c.self.view_is
