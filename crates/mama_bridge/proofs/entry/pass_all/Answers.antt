use Rattle.std.proofs.Common.{◌<◌, ◌≤◌, length, refl, arith, ◌∙◌, length-set}
use Rattle.mama_bridge.specs.Links.{ReadyIf}
use Rattle.mama_bridge.specs.Linked.{entry_sub}
use Rattle.mama_bridge.proofs.RowLemmas.{each_left, pass_turn, pass_all, pass_sub, weights_left}
use Rattle.mama_bridge.proofs.Stepping.{pass_none, left_turn, seen_turn}
use Rattle.mama_bridge.proofs.entry.pass_all.Goals as goal

pub loop-i-init : goal.loop-i-init
loop-i-init g c = record {
  done = pass_none c.args.topic c.args.msgs.now.items c.args.out.now.items;
  subs = refl;
  left = refl;
  len = refl;
  msgs = c.requires.msgs;
  out = c.requires.out;
}

pub pass_entry-requires-clause-ready : goal.pass_entry-requires-clause-ready
pass_entry-requires-clause-ready g c =
    let within : c.loop-i.i < length c.args.entries.now.items = omega arith in
    each_left (ReadyIf c.args.topic) c.args.entries.now.items c.loop-i.entries.items c.loop-i.i c.index_mut.result.now within c.index_mut.ensures.value c.loop-i.invariant.left c.requires.ready

pub pass_entry-requires-clause-msgs : goal.pass_entry-requires-clause-msgs
pass_entry-requires-clause-msgs g c =
    let within : c.loop-i.i < length c.args.entries.now.items = omega arith in
    let more = weights_left c.args.topic c.args.entries.now.items c.loop-i.entries.items c.loop-i.i c.index_mut.result.now within c.index_mut.ensures.value c.loop-i.invariant.left in
    omega (arith, more, c.loop-i.invariant.msgs)

pub pass_entry-requires-clause-out : goal.pass_entry-requires-clause-out
pass_entry-requires-clause-out g c =
    let within : c.loop-i.i < length c.args.entries.now.items = omega arith in
    let more = weights_left c.args.topic c.args.entries.now.items c.loop-i.entries.items c.loop-i.i c.index_mut.result.now within c.index_mut.ensures.value c.loop-i.invariant.left in
    omega (arith, more, c.loop-i.invariant.out)

pub loop-i-preserved : goal.loop-i-preserved
loop-i-preserved g c =
    let within : c.loop-i.i < length c.args.entries.now.items = omega arith in
    let still : c.loop-i.i < length c.loop-i.entries.items = omega (arith, c.loop-i.invariant.len) in
    let more = weights_left c.args.topic c.args.entries.now.items c.loop-i.entries.items c.loop-i.i c.index_mut.result.now within c.index_mut.ensures.value c.loop-i.invariant.left in
    record {
      done = pass_turn c.args.topic c.args.entries.now.items c.loop-i.entries.items c.loop-i.i c.index_mut.result.now c.pass_entry.new.entry _ _ _ _ _ _ within c.loop-i.invariant.len c.index_mut.ensures.value c.loop-i.invariant.left c.loop-i.invariant.done c.pass_entry.ensures.step;
      subs = seen_turn entry_sub c.loop-i.entries.items c.loop-i.i c.index_mut.result.now c.pass_entry.new.entry still c.index_mut.ensures.value (pass_sub c.args.topic _ _ _ _ _ _ c.pass_entry.ensures.step) ∙ c.loop-i.invariant.subs;
      left = left_turn c.args.entries.now.items c.loop-i.entries.items c.loop-i.i c.pass_entry.new.entry c.loop-i.invariant.left;
      len = length-set c.loop-i.entries.items c.loop-i.i c.pass_entry.new.entry ∙ c.loop-i.invariant.len;
      msgs = omega (arith, more, c.pass_entry.ensures.msgs_spare, c.loop-i.invariant.msgs);
      out = omega (arith, more, c.pass_entry.ensures.out_spare, c.loop-i.invariant.out);
    }

pub returns-clause-steps : goal.returns-clause-steps
returns-clause-steps g c =
    let most : length c.args.entries.now.items ≤ c.loop-i.i = omega arith in
    pass_all c.args.topic c.args.entries.now.items c.loop-i.entries.items c.loop-i.i _ _ _ _ most c.loop-i.invariant.len c.loop-i.invariant.done
