use Rattle.std.proofs.Common.{◌∙◌, sym, ap, length}
use Rattle.mama_link.specs.Table.{table_of}
use Rattle.mama_link.specs.Slots.{held_in}
use Rattle.mama_link.proofs.SlotLemmas.{held_in-none}
use Rattle.mama_link.proofs.CursorLemmas.{caught_up-start}
use Rattle.mama_link.proofs.link.Link.new.Goals as goal

pub invariant_of-result : goal.invariant_of-result
invariant_of-result g c =
    let table = table_of c.args.faults in
    rw c.new.ensures.items (record {
      caught_up = caught_up-start c.args.faults table c.table.ensures.entries;
      counted = ap length (sym (held_in-none table));
    })

pub returns : goal.returns
returns g c =
    let table = table_of c.args.faults in
    ap (λ (held : _). record { rows = c.args.faults; passed = 0; held = held }) (ap (held_in table) c.new.ensures.items ∙ held_in-none table)
