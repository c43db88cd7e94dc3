use Rattle.std.proofs.Common.{length}
use Rattle.mama_script.specs.Placing.{no_cast, cast_after}
use Rattle.mama_script.specs.Cast.{cast_in}
use Rattle.mama_script.proofs.Rosters.{few_turns, turns_next, cast_next}
use Rattle.mama_script.proofs.placing.cast_of.Goals as goal

pub add-requires : goal.add-requires
add-requires c = few_turns c.loop-line.line-index (length c.args.lines.now) c.loop-line.cast.clients.items c.loop-line.invariant.turns c.loop-line-test.true c.requires

pub loop-line-preserved : goal.loop-line-preserved
loop-line-preserved c = record {
  cast = cast_next (cast_in c.loop-line.cast) (cast_in c.add.new.self) c.args.lines.now c.loop-line.line-index c.line-item.result (cast_after no_cast c.args.lines.now)
      c.loop-line-test.true c.line-item.is c.in_ok-add.ensures c.loop-line.invariant.cast;
  turns = turns_next c.loop-line.line-index (cast_in c.loop-line.cast) (cast_in c.add.new.self) c.line-item.result c.loop-line.invariant.turns c.in_ok-add.ensures;
}
