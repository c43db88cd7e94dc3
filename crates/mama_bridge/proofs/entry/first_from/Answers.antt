use Rattle.std.proofs.Common.{◌<◌, length, arith, sym}
use Rattle.mama_bridge.proofs.LinkLemmas.{some_at}
use Rattle.mama_bridge.proofs.entry.first_from.Goals as goal

pub returns-then-is_some : goal.returns-then-is_some
returns-then-is_some c =
    let within : c.loop-i.i < length c.args.entries.now.items = omega arith in
    let found = some_at c.args.entries.now.items c.loop-i.i c.index.result.now within c.index.ensures (sym c.if-is_some.ensures) in
    (within, c.loop-i.invariant, found.0, found.1)
