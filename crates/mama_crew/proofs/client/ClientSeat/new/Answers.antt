use Rattle.std.proofs.Common.{◌∙◌, ap}
use Rattle.mama_event.specs.declared.to_bridge.BridgeNote.{BridgeNote}
use Rattle.mama_event.specs.declared.to_timers.TimersNote.{TimersNote}
use Rattle.mama_event.specs.Ports.{queues_of, bridge_port_of_client, timers_port_of_client}
use Rattle.mama_lane.specs.Values.{PortValue}
use Rattle.mama_posts_clients.specs.Outlets.{OutletsValue}
use Rattle.mama_crew.proofs.NewLemmas.{port_in, client_unused}
use Rattle.mama_crew.proofs.client.ClientSeat.new.Goals as goal

pub new-post-requires-clause-put : goal.new-post-requires-clause-put
new-post-requires-clause-put g c = (ap (λ (p : PortValue BridgeNote). p.put) c.requires.bridge, ap (λ (p : PortValue TimersNote). p.put) c.requires.timers)

pub new-post-requires-clause-bounds : goal.new-post-requires-clause-bounds
new-post-requires-clause-bounds g c = (
  ap (λ (p : PortValue BridgeNote). p.bounds) c.requires.bridge ∙ c.requires.lanes.to_bridge.bounds_are,
  ap (λ (p : PortValue TimersNote). p.bounds) c.requires.timers ∙ c.requires.lanes.to_timers.bounds_are,
)

pub returns-clause-seat : goal.returns-clause-seat
returns-clause-seat g c =
    let hall = c.args._hall.now in
    let shape = c.args.script.now.shape in
    record {
      there = c.requires.there;
      keeps = c.new-post.ensures.seat;
      on_bridge = port_in hall.to_bridge (bridge_port_of_client shape c.args.number) c.args.to_bridge _ (ap (λ (o : OutletsValue). o.to_bridge) c.new-post.ensures.ends) c.requires.bridge;
      on_timers = port_in hall.to_timers (timers_port_of_client shape c.args.number) c.args.to_timers _ (ap (λ (o : OutletsValue). o.to_timers) c.new-post.ensures.ends) c.requires.timers;
      reads = c.is_reading-reads.ensures;
    }

pub returns-clause-new : goal.returns-clause-new
returns-clause-new g c =
    client_unused c.args.number (queues_of c.args.script.now.shape) _ c.args.to_bridge c.args.to_timers c.new-post.ensures.start.0 c.new-post.ensures.start.1 c.new-post.ensures.ends
    (ap (λ (p : PortValue BridgeNote). p.put) c.requires.bridge) (ap (λ (p : PortValue TimersNote). p.put) c.requires.timers)
