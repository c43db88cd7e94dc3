use Rattle.std.proofs.Common.{rules, ◌≡◌, List, ◌++◌, ◌∷◌, [], true, false, None, sym, ◌∙◌, ap}
use Rattle.std.specs.List.{list_any}
use Rattle.std.specs.declared.option.Option.{Option}
use Rattle.mama_bridge.specs.Linked.{Linked, is_link_of}
use Rattle.mama_bridge.specs.declared.subs.SubLink.{SubLink}
use Rattle.mama_bridge.proofs.LinkLemmas.{are_indexed, noted_room}
use Rattle.mama_bridge.proofs.RowLemmas.{found_any}
use Rattle.mama_bridge.proofs.links.Links.ready.Goals as goal

pub index_of-requires : goal.index_of-requires
index_of-requires c = are_indexed c.self.inside.indexes c.self.inside.entries.items c.self.invariant.indexed

pub returns-then-is_some-clause-awaited : goal.returns-then-is_some-clause-awaited
returns-then-is_some-clause-awaited c none =
    let bad : true ≡ false = c.if-is_some.ensures ∙ found_any c.args.sub c.self.inside.entries.items c.index_of.result c.index_of.ensures ∙ ap (λ (p : Linked). list_any (is_link_of c.args.sub) p.links) c.self.view_is ∙ none in
    cc

pub invariant_of-self-2 : goal.invariant_of-self-2
invariant_of-self-2 c =
    noted_room c.self.inside.indexes c.insert.new.self c.self.inside.entries.items c.push_reserved.new.self.items c.args.sub c.len.result c.self.inside.first c.self.inside.awaited (search rules)
    (c.push_reserved.ensures.items ∙ ap (λ (es : List (Option SubLink)). es ++ None ∷ []) c.reserve.ensures.items) c.in_ok-insert.ensures.updates.0
    (sym (found_any c.args.sub c.self.inside.entries.items c.index_of.result c.index_of.ensures) ∙ sym c.if-is_some.ensures) c.self.invariant
