use Rattle.mama_log_read.proofs.Sections.{objects_more, plain_more, objects_end}
use Rattle.mama_log_read.proofs.section.objects_in.Goals as goal

pub loop-planned-preserved : goal.loop-planned-preserved
loop-planned-preserved c = record {
  named =
      objects_more c.objects-planned-items.result.now c.loop-planned.objects.items c.push.new.self.items c.loop-planned.planned-index c.planned-item.result c.on_one_line.result c.loop-planned-test.true c.planned-item.is
      c.in_ok-push.ensures.items c.on_one_line.ensures.same c.loop-planned.invariant.named;
  plain = plain_more c.loop-planned.objects.items c.push.new.self.items c.on_one_line.result c.planned-item.result.object c.in_ok-push.ensures.items c.on_one_line.ensures.same c.on_one_line.ensures.plain c.loop-planned.invariant.plain;
}

pub returns-clause-named : goal.returns-clause-named
returns-clause-named c =
    objects_end c.args.script.now c.objects-planned-items.result.now c.in_ok-plans.plans c.loop-planned.objects.items c.loop-planned.planned-index c.loop-planned.invariant.named c.loop-planned-test.false c.objects-planned-items.ensures c.in_ok-plans.ensures
