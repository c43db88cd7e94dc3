use Rattle.std.proofs.Common.{◌≡◌, ◌<◌, ℕ, List, [], length, get_or, ap, sym, subst, ◌∙◌, arith}
use Rattle.std.specs.Prelude.{slice_index_or}
use Rattle.mama_event.specs.declared.shape.Shape.{Shape}
use Rattle.mama_event.specs.Ports.{queues_of}
use Rattle.mama_script.specs.declared.client.ClientLine.{ClientLine}
use Rattle.mama_check_puts.specs.Client.{client_put_to_bridge, client_put_to_timers}
use Rattle.mama_check_puts.specs.declared.client.ClientPuts.{ClientPuts}
use Rattle.mama_check.specs.Puts.{client_to_bridge, client_to_timers}
use Rattle.mama_check.proofs.LineLemmas.{any_default, items_at}
use Rattle.mama_check.proofs.PutLists.{lists_none, lists_push, lists_all, at_four}
use Rattle.mama_check.proofs.puts.puts_of_clients.Goals as goal

pub loop-c-init : goal.loop-c-init
loop-c-init c = record {
  bridge = lists_none (λ (p : ClientPuts). p.to_bridge.items) c.new-all.result.items (client_to_bridge c.args.script.now c.args.run.now) c.new-all.ensures.items;
  timers = lists_none (λ (p : ClientPuts). p.to_timers.items) c.new-all.result.items (client_to_timers c.args.script.now c.args.run.now) c.new-all.ensures.items;
}

pub number_at-number-requires : goal.number_at-number-requires
number_at-number-requires c =
    let within : c.loop-c.c < length c.args.script.now.clients = subst (λ (ps : List (List ClientLine)). c.loop-c.c < length ps) c.clients-clients.ensures c.loop-c-test.true in
    omega (arith, within, c.shape.ensures.within.clients_few)

pub loop-c-preserved : goal.loop-c-preserved
loop-c-preserved c =
    let n = c.loop-c.c in
    let x = c.index-clients-c.result in
    let within : n < length c.args.script.now.clients = subst (λ (ps : List (List ClientLine)). n < length ps) c.clients-clients.ensures c.loop-c-test.true in
    let has : n < length c.args.run.now.clients = subst (λ (m : ℕ). n < m) (sym c.requires) within in
    let queues : c.shape.result.now.bounds.queues ≡ queues_of c.args.script.now.shape = ap (λ (s : Shape). s.bounds.queues) c.shape.ensures.value in
    let lines : c.as_slice.result.now ≡ slice_index_or c.args.script.now.clients n [] =
    c.as_slice.ensures ∙ c.index-clients-c.is ∙ ap (λ (ls : List (List ClientLine)). get_or ls n x) c.clients-clients.ensures ∙ any_default c.args.script.now.clients n x [] within in
    let moments : c.deref.result.now ≡ slice_index_or c.args.run.now.clients n [] =
    c.deref.ensures.value ∙ items_at c.clients-moments.result.now c.args.run.now.clients n c.index-moments-c.result c.clients-moments.ensures has c.index-moments-c.is in
    record {
      bridge = lists_push (λ (p : ClientPuts). p.to_bridge.items) c.loop-c.all.items c.push.new.self.items c.in_ok-puts_of_client.field-0 n (client_to_bridge c.args.script.now c.args.run.now)
          c.loop-c.invariant.bridge c.in_ok-push.ensures.items
          (c.in_ok-puts_of_client.ensures.bridge
          ∙ at_four client_put_to_bridge c.shape.result.now.bounds.queues (queues_of c.args.script.now.shape) c.number_at-number.result n c.deref.result.now (slice_index_or c.args.run.now.clients n []) c.as_slice.result.now (slice_index_or c.args.script.now.clients n [])
          queues c.number_at-number.ensures moments lines);
      timers = lists_push (λ (p : ClientPuts). p.to_timers.items) c.loop-c.all.items c.push.new.self.items c.in_ok-puts_of_client.field-0 n (client_to_timers c.args.script.now c.args.run.now)
          c.loop-c.invariant.timers c.in_ok-push.ensures.items
          (c.in_ok-puts_of_client.ensures.timers
          ∙ at_four client_put_to_timers c.shape.result.now.bounds.queues (queues_of c.args.script.now.shape) c.number_at-number.result n c.deref.result.now (slice_index_or c.args.run.now.clients n []) c.as_slice.result.now (slice_index_or c.args.script.now.clients n [])
          queues c.number_at-number.ensures moments lines);
    }

pub returns : goal.returns
returns c =
    let end : c.loop-c.c ≡ length c.clients-clients.result.now = omega (arith, c.loop-c.auto.c-end, c.loop-c-test.false) in
    let all : c.loop-c.c ≡ length c.args.script.now.clients = end ∙ ap (λ (ls : List (List ClientLine)). length ls) c.clients-clients.ensures in
    record { bridge = lists_all _ _ _ _ all c.loop-c.invariant.bridge; timers = lists_all _ _ _ _ all c.loop-c.invariant.timers }
