use Rattle.std.proofs.Common.{ℕ, ◌<◌, ◌≤◌, List, length, map, get_or, subst, arith}
use Rattle.std.specs.Prelude.{Option}
use Rattle.std.specs.Global.{Vec}
use Rattle.std.proofs.lemmas.Bool.{OnFalse_at}
use Rattle.std.proofs.lemmas.List.{length-map}
use Rattle.mama_check_order.specs.Search.{entries_of}
use Rattle.mama_check_order.specs.declared.order.Need.{Need}
use Rattle.mama_check_order.proofs.Stops.{whole_reached, stop_reached}
use Rattle.mama_check_order.proofs.order.first_stuck.Goals as goal

abbrev needs_in : List (Vec (Option Need)) → List (List (Option Need))
needs_in needs = map (λ actor. actor.items) needs

as_many : (needs : List (Vec (Option Need))) (a : ℕ) → a < length (needs_in needs) → a < length needs
as_many needs a h = subst (λ (n : ℕ). a < n) (length-map needs (λ actor. actor.items)) h

pub returns-clause-whole : goal.returns-clause-whole
returns-clause-whole c =
    whole_reached (needs_in c.args.needs.now) c.loop-actor.made c.loop-actor.turns.items c.loop-actor.invariant.reached
    (λ a inside.
    let there = as_many c.args.needs.now a inside in
    c.loop-actor.invariant.whole a (omega arith))

pub returns-then-not-branch-clause-stop : goal.returns-then-not-branch-clause-stop
returns-then-not-branch-clause-stop c =
    let needs = needs_in c.args.needs.now in
    stop_reached needs c.actor_comes.new.made c.actor_comes.new.turns.items c.loop-actor.actor c.in_ok-actor_comes.ensures.reached
    (λ a low.
    let was : length (entries_of needs a) ≤ get_or c.loop-actor.made a 0 = c.loop-actor.invariant.whole a low in
    let more : get_or c.loop-actor.made a 0 ≤ get_or c.actor_comes.new.made a 0 = c.in_ok-actor_comes.ensures.goes_on a in
    omega arith)
    (OnFalse_at c.if-not-branch.true c.in_ok-actor_comes.ensures.inside) (OnFalse_at c.if-not-branch.true c.in_ok-actor_comes.ensures.stuck)
