-- A write at the place of the key updates the rows.
use Rattle.mama_msg.proofs.Places.{set_found}
use Rattle.mama_msg.proofs.rows.put.Goals as goal

pub returns-in-Some-clause-ok : goal.returns-in-Some-clause-ok
returns-in-Some-clause-ok c =
    set_found c.args.rows.now.items c.deref.result.now c.key.result c.args.field c.in-Some.i c.requires.distinct c.key.ensures c.deref.ensures.value c.in-Some.ensures.some
