use Rattle.std.proofs.Common.{◌≡◌, set, get_or, ◌∙◌, sym, ap, None, Some}
use Rattle.std.specs.declared.option.Option.{Option}
use Rattle.mama_bridge.specs.Placed.{present}
use Rattle.mama_bridge.specs.declared.subs.SubLink.{SubLink}
use Rattle.mama_bridge.proofs.LinkLemmas.{read_at, indexed_moved, present_moved}
use Rattle.mama_bridge.proofs.numbers.move_down.Goals as goal

pub returns-in-Some-clause-indexed : goal.returns-in-Some-clause-indexed
returns-in-Some-clause-indexed c =
    let entries = c.args.entries.now.items in
    let is : get_or entries c.args.i None ≡ Some c.in-Some.link = sym (read_at entries c.args.i c.index_mut.result.now c.requires.within c.index_mut.ensures.value) ∙ sym c.take.ensures.value ∙ c.in-Some.is in
    rw c.take.ensures.after (indexed_moved c.args.indexes.now c.point.new.indexes entries c.args.i c.args.next c.in-Some.link is c.point.ensures c.requires.indexed)

pub returns-in-Some-clause-links : goal.returns-in-Some-clause-links
returns-in-Some-clause-links c =
    let entries = c.args.entries.now.items in
    let is : get_or entries c.args.i None ≡ Some c.in-Some.link = sym (read_at entries c.args.i c.index_mut.result.now c.requires.within c.index_mut.ensures.value) ∙ sym c.take.ensures.value ∙ c.in-Some.is in
    ap (λ (e : Option SubLink). present (set (set entries c.args.i e) c.args.next (Some c.in-Some.link))) c.take.ensures.after
    ∙ present_moved entries c.args.i c.args.next c.in-Some.link c.requires.next c.requires.gap is
