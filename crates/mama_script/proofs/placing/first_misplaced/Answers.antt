use Rattle.mama_script.specs.Cast.{cast_in, placed_in}
use Rattle.mama_script.specs.Placing.{none_placed, misplaced_from}
use Rattle.mama_script.proofs.Rosters.{misplaced_more}
use Rattle.mama_script.proofs.placing.first_misplaced.Goals as goal

pub loop-i-preserved : goal.loop-i-preserved
loop-i-preserved c =
    let cast = cast_in c.in_ok-cast.cast in
    misplaced_more cast (placed_in c.loop-i.placed) (placed_in c.place.new.placed) c.loop-i.i c.args.lines.now c.index-lines-i.result c.in_ok-fault.field-0 (misplaced_from cast none_placed 2 c.args.lines.now)
    c.loop-i-test.true c.index-lines-i.is c.in_ok-fault.ensures.fault c.in_default.not-Some c.in_ok-fault.ensures.placed c.loop-i.invariant
