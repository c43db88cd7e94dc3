use Rattle.mama_check.proofs.Causes.{are_to_timers}
use Rattle.mama_check.proofs.actors.timers_putters.Goals as goal

pub returns : goal.returns
returns c =
    are_to_timers c.args.shape.now c.new-actors.result.items c.add_actors.new.actors.items c.add_actors-2.new.actors.items c.push.new.self.items c.places_in-places.result.bridge c.places_in-places.result.queues
    c.new-actors.ensures.items c.places_in-places.ensures.bridge c.places_in-places.ensures.queues c.in_ok-add_actors.ensures c.in_ok-add_actors-2.ensures c.in_ok-push.ensures.items
