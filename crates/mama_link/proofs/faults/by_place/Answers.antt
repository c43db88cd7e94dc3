use Rattle.std.proofs.Common.{◌∙◌}
use Rattle.mama_link.proofs.FaultLemmas.{slots_due-held, slots_due-other}
use Rattle.mama_link.specs.Table.{slots_at}
use Rattle.mama_link.proofs.faults.by_place.Goals as goal
use Rattle.mama_link.proofs.faults.by_place.Goals.{in-Hold+in_ok-add_due, in_default}

pub loop-slot-preserved : goal.loop-slot-preserved
loop-slot-preserved c place =
    let table = c.args.table.now in
    let k = c.loop-slot.slot in
    let before = c.loop-slot.invariant place in
    elim c.match-fault.branch [
      | in-Hold+in_ok-add_due w ↦ rw w.dues-is (w.in_ok-add_due.ensures place ∙ slots_due-held place table k w.in-Hold.by (slots_at c.loop-slot.dues place) c.loop-slot-test.true w.in-Hold.is before)
      | in_default w ↦ rw w.dues-is (before ∙ slots_due-other place table k c.loop-slot-test.true w.in_default.not-Hold)
    ]
