use Rattle.std.proofs.Common.{[], length}
use Rattle.mama_script.specs.Names.{made_after}
use Rattle.mama_script.proofs.Counted.{counted_most, counted_next, made_next}
use Rattle.mama_script.proofs.names.made_by.Goals as goal

pub make-requires : goal.make-requires
make-requires c = counted_most c.loop-line.line-index (length c.args.lines.now) c.loop-line.made.items c.loop-line.invariant.counted c.loop-line-test.true c.requires

pub loop-line-preserved : goal.loop-line-preserved
loop-line-preserved c = record {
  made = made_next c.loop-line.made.items c.make.new.made.items c.args.lines.now c.loop-line.line-index c.line-item.result (made_after [] c.args.lines.now) c.loop-line-test.true c.line-item.is c.in_ok-make.ensures c.loop-line.invariant.made;
  counted = counted_next c.loop-line.line-index (length c.args.lines.now) c.loop-line.made.items c.make.new.made.items _ c.loop-line.invariant.counted c.loop-line-test.true c.requires c.in_ok-make.ensures;
}
