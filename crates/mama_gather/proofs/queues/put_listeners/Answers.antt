use Rattle.std.proofs.Common.{◌≡◌, subst, rules, arith}
use Rattle.std.proofs.lemmas.Grind.{common_steps}
use Rattle.std.specs.List.{All}
use Rattle.mama_event.specs.declared.ids.ObjectId.{ObjectId}
use Rattle.mama_event.specs.Listener.{told}
use Rattle.mama_posts_clients.specs.Queue.{HasComeBack}
use Rattle.mama_gather.proofs.Placing.{listener_more}
use Rattle.mama_gather.proofs.queues.put_listeners.Goals as goal

pub loop-entry-preserved : goal.loop-entry-preserved
loop-entry-preserved g c = record {
  whole = first_of (search rules, grind (arith, common_steps));
  moved = (λ calls all were.
      listener_more (told g.L.Tagged.tagged g.L.Listener.calls g.L.Listener.heard g.L.Listener.given g.L.Listener.plan) calls c.args.plans.now c.args.queue c.loop-entry.yielded c.in-Some.entry c.args.found.now.items c.loop-entry.found.items c.put.new.found.items
      (c.loop-entry.invariant.moved calls) c.in_ok-put.ensures all were);
}

pub returns : goal.returns
returns g c = λ calls all were.
    let view = told g.L.Tagged.tagged g.L.Listener.calls g.L.Listener.heard g.L.Listener.given g.L.Listener.plan in
    let same : c.args.listeners.items ≡ c.loop-entry.yielded = first_of (search rules, grind (arith, common_steps)) in
    c.loop-entry.invariant.moved calls (subst (All (λ (b : ObjectId × g.row.L.Denot). HasComeBack (calls c.args.queue b.0) (b.0, view b.1))) same all) were
