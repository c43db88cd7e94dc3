use Rattle.std.specs.Prelude.{option_to_list}
use Rattle.std.proofs.Common.{◌≡◌, ◌+◌, ◌++◌, ◌∷◌, sym, ◌∙◌, ap, subst, set, None, Some}
use Rattle.std.specs.declared.option.Option.{Option}
use Rattle.mama_bridge.specs.Placed.{present}
use Rattle.mama_bridge.specs.Linked.{Linked, IsNoted, subs_in}
use Rattle.mama_bridge.specs.declared.subs.SubLink.{SubLink}
use Rattle.mama_bridge.proofs.LinkLemmas.{read_at, noted_taken, all_before, all_empty, present_first}
use Rattle.mama_bridge.proofs.links.Links.take_first.Goals as goal

pub invariant_of-self : goal.invariant_of-self
invariant_of-self c =
    subst (λ (e : Option SubLink). IsNoted c.self.inside.indexes (subs_in (set c.self.inside.entries.items c.in-Some.i e)) (c.in-Some.i + 1) None) (sym c.take.ensures.after)
    (noted_taken c.self.inside.indexes c.self.inside.entries.items c.self.inside.first c.in-Some.i c.self.inside.awaited c.in-Some.ensures.0 c.self.invariant c.in-Some.ensures.1)

pub returns-in-Some-clause-links : goal.returns-in-Some-clause-links
returns-in-Some-clause-links c =
    let entries = c.self.inside.entries.items in
    let i = c.in-Some.i in
    let found = c.in-Some.ensures in
    let taken : c.take.result ≡ Some found.2 = c.take.ensures.value ∙ read_at entries i c.index_mut.result.now found.0 c.index_mut.ensures.value ∙ found.3 in
    sym (ap (λ (p : Linked). p.links) c.self.view_is)
    ∙ present_first entries i found.2 (all_before c.self.inside.indexes entries c.self.inside.first i c.self.inside.awaited c.self.invariant found.1) found.3
    ∙ ap (λ (e : Option SubLink). found.2 ∷ present (set entries i e)) (sym c.take.ensures.after)
    ∙ ap (λ (o : Option SubLink). option_to_list o ++ present (set entries i c.take.new.self)) (sym taken)

pub returns-in-None-clause-none : goal.returns-in-None-clause-none
returns-in-None-clause-none c =
    sym (ap (λ (p : Linked). p.links) c.self.view_is) ∙ all_empty c.self.inside.indexes c.self.inside.entries.items c.self.inside.first c.self.inside.awaited c.self.invariant c.in-None.ensures
