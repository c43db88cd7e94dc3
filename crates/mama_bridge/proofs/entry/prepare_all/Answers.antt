use Rattle.std.proofs.Common.{◌<◌, ◌+◌, length, arith, ◌∙◌, ap, sym, take, length-set}
use Rattle.mama_bridge.specs.Links.{ReadyIf, HoldsIf, weights}
use Rattle.mama_bridge.specs.Linked.{entry_seen}
use Rattle.mama_bridge.specs.Placed.{present}
use Rattle.mama_bridge.proofs.RowLemmas.{each_turn, weights_written}
use Rattle.mama_bridge.proofs.Stepping.{seen_turn}
use Rattle.mama_bridge.proofs.entry.prepare_all.Goals as goal

pub returns-in_err-len-clause-seen : goal.returns-in_err-len-clause-seen
returns-in_err-len-clause-seen c =
    let within : c.loop-i.i < length c.loop-i.entries.items = omega arith in
    seen_turn entry_seen c.loop-i.entries.items c.loop-i.i c.index_mut.result.now c.prepare_entry.new.entry within c.index_mut.ensures.value c.prepare_entry.ensures.seen ∙ c.loop-i.invariant.seen

pub returns-in_err-total-clause-seen : goal.returns-in_err-total-clause-seen
returns-in_err-total-clause-seen c =
    let within : c.loop-i.i < length c.loop-i.entries.items = omega arith in
    seen_turn entry_seen c.loop-i.entries.items c.loop-i.i c.index_mut.result.now c.prepare_entry.new.entry within c.index_mut.ensures.value c.prepare_entry.ensures.seen ∙ c.loop-i.invariant.seen

pub loop-i-preserved : goal.loop-i-preserved
loop-i-preserved c =
    let within : c.loop-i.i < length c.loop-i.entries.items = omega arith in
    record {
      seen = seen_turn entry_seen c.loop-i.entries.items c.loop-i.i c.index_mut.result.now c.prepare_entry.new.entry within c.index_mut.ensures.value c.prepare_entry.ensures.seen ∙ c.loop-i.invariant.seen;
      len = length-set c.loop-i.entries.items c.loop-i.i c.prepare_entry.new.entry ∙ c.loop-i.invariant.len;
      ready = each_turn (ReadyIf c.args.topic) c.loop-i.entries.items c.loop-i.i c.prepare_entry.new.entry within c.loop-i.invariant.ready c.in_ok-len.ensures.ready;
      holds = each_turn (HoldsIf c.args.topic c.args.msg.now) c.loop-i.entries.items c.loop-i.i c.prepare_entry.new.entry within c.loop-i.invariant.holds c.in_ok-len.ensures.holds;
      total = c.in_ok-total.ensures ∙ ap (λ n. n + c.in_ok-len.len) c.loop-i.invariant.total ∙ ap (λ n. weights c.args.topic (present (take c.loop-i.i c.loop-i.entries.items)) + n) c.in_ok-len.ensures.len ∙ sym (weights_written c.args.topic c.loop-i.entries.items c.loop-i.i c.prepare_entry.new.entry within);
    }
