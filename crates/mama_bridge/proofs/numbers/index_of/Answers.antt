use Rattle.std.proofs.Common.{sym, ◌∙◌}
use Rattle.std.proofs.lemmas.Option.{same_Some, none-some}
use Rattle.mama_bridge.specs.Linked.{is_link_of}
use Rattle.mama_bridge.proofs.Entries.{found_at, not_at}
use Rattle.mama_bridge.proofs.LinkLemmas.{is_noted}
use Rattle.mama_bridge.proofs.numbers.index_of.Goals as goal

pub returns-in-Some : goal.returns-in-Some
returns-in-Some c =
    found_at (is_link_of c.args.sub) c.args.entries.now.items c.in-Some.i.now c.own_index.result c.own_index.ensures
    (λ j link h own. sym (same_Some c.in-Some.i.now j (c.in-Some.ensures.value ∙ is_noted c.args.indexes.now c.args.entries.now.items c.requires c.args.sub j link h own)))

pub returns-in-None : goal.returns-in-None
returns-in-None c =
    not_at (is_link_of c.args.sub) c.args.entries.now.items
    (λ j link h own. none-some j (c.in-None.ensures.value ∙ is_noted c.args.indexes.now c.args.entries.now.items c.requires c.args.sub j link h own))
