use Rattle.std.proofs.Common.{◌≡◌, ◌++◌, List, [], ◌∷◌, rules, arith, append_assoc, sym, ◌∙◌, ap}
use Rattle.mama_bridge.specs.Links.{sub_held}
use Rattle.mama_bridge.specs.declared.subs.SubLink.{SubLink}
use Rattle.mama_bridge.proofs.Stepping.{end_none, end_more, sum_rest}
use Rattle.mama_bridge.proofs.ending.end_subs.Goals as goal

pub loop-link-init : goal.loop-link-init
loop-link-init g c = record {
  done = end_none c.args.msgs.now.items c.args.out.now.items;
  whole = search rules;
  msgs = search rules;
  out = search rules;
  spare = search rules;
}

pub loop-link-preserved : goal.loop-link-preserved
loop-link-preserved g c =
    let first : c.loop-link.link-iterator.rest.items ≡ c.in-Some.link ∷ c.next.new.self.rest.items = search rules in
    let sums = sum_rest sub_held c.in-Some.link c.next.new.self.rest.items c.loop-link.link-iterator.rest.items first in
    record {
      done = end_more c.loop-link.yielded c.in-Some.link _ _ _ _ _ _ c.loop-link.invariant.done c.end.ensures.step;
      whole = append_assoc c.loop-link.yielded (c.in-Some.link ∷ []) c.next.new.self.rest.items ∙ ap (λ (xs : List SubLink). c.loop-link.yielded ++ xs) (sym first) ∙ c.loop-link.invariant.whole;
      msgs = omega (arith, sums.0, sums.1);
      out = omega (arith, sums.0, sums.1);
      spare = omega (arith, sums.0, sums.1);
    }
