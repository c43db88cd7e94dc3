use Rattle.std.proofs.Common.{◌≡◌, ℕ, ◌+◌, List, ◌++◌, length, ap, ◌∙◌}
use Rattle.mama_event.specs.Ports.{publishers_of}
use Rattle.mama_check.specs.Causal.{of_each}
use Rattle.mama_check.proofs.Causes.{are_to_bridge}
use Rattle.mama_check.proofs.actors.bridge_putters.Goals as goal

pub returns : goal.returns
returns c =
    let clients : List ℕ = c.add_actors.new.actors.items in
    let first : ℕ = c.places_in-places.result.publishers in
    let many : length c.as_slice.result.now ≡ publishers_of c.args.shape.now = ap (λ (ts : List ℕ). length ts) c.as_slice.ensures in
    are_to_bridge c.args.shape.now c.new-actors.result.items clients c.add_actors-2.new.actors.items c.add_actors-3.new.actors.items first c.places_in-places.result.queues
    c.new-actors.ensures.items c.places_in-places.ensures.publishers c.places_in-places.ensures.queues c.in_ok-add_actors.ensures
    (c.in_ok-add_actors-2.ensures ∙ ap (λ (n : ℕ). clients ++ of_each n (λ k. first + k)) many)
    c.in_ok-add_actors-3.ensures
