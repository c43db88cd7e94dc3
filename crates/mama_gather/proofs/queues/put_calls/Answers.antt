use Rattle.std.proofs.Common.{◌≡◌, subst, rules, arith}
use Rattle.std.proofs.lemmas.Grind.{common_steps}
use Rattle.std.specs.Global.{Vec}
use Rattle.std.specs.List.{All}
use Rattle.mama_event.specs.declared.ids.ObjectId.{ObjectId}
use Rattle.mama_event.specs.declared.callback.CallNote.{CallNote}
use Rattle.mama_gather.proofs.Placing.{call_more}
use Rattle.mama_gather.proofs.queues.put_calls.Goals as goal

pub loop-list-preserved : goal.loop-list-preserved
loop-list-preserved c = record {
  whole = first_of (search rules, grind (arith, common_steps));
  moved = (λ calls all were.
      call_more calls c.args.plans.now c.args.queue c.loop-list.yielded c.in-Some.list c.args.found.now.items c.loop-list.found.items c.put.new.found.items (c.loop-list.invariant.moved calls) c.in_ok-put.ensures all were);
}

pub returns : goal.returns
returns c = λ calls all were.
    let same : c.args.lists.items ≡ c.loop-list.yielded = first_of (search rules, grind (arith, common_steps)) in
    c.loop-list.invariant.moved calls (subst (All (λ (l : ObjectId × Vec CallNote). l.1.items ≡ calls c.args.queue l.0)) same all) were
