use Rattle.std.proofs.Common.{◌≡◌, ◌<◌, [], length, map, get_or, arith, sym, ap, ◌∙◌}
use Rattle.std.specs.Prelude.{Option}
use Rattle.std.specs.Global.{Vec}
use Rattle.std.proofs.lemmas.List.{get_or-map, length-map}
use Rattle.mama_check_order.specs.declared.order.Need.{Need}
use Rattle.mama_replay.proofs.Needing.{actors_more}
use Rattle.mama_replay.proofs.needs.needs_of_steps.Goals as goal

pub loop-actor-preserved : goal.loop-actor-preserved
loop-actor-preserved c =
    let items = λ (v : Vec (Option Need)). v.items in
    let needs = c.args.needs.now in
    let k = c.loop-actor.actor in
    let inside : k < length (map items needs) = omega (arith, length-map needs items) in
    let own : c.as_slice.result.now ≡ get_or (map items needs) k [] =
    c.as_slice.ensures.value ∙ ap items c.index-needs-actor.is ∙ sym (get_or-map items needs k c.index-needs-actor.result [] c.loop-actor-test.true) in
    actors_more c.args.clients.now c.loop-actor.all.items c.push.new.self.items (map items needs) k c.in_ok-needs_at.field-0 c.as_slice.result.now inside own c.in_ok-needs_at.ensures c.in_ok-push.ensures.items
    ∙ c.loop-actor.invariant
