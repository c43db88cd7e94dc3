use Rattle.std.proofs.Common.{◌∙◌, ap}
use Rattle.mama_event.specs.declared.to_bridge.BridgeNote.{BridgeNote}
use Rattle.mama_event.specs.declared.to_timers.TimersNote.{TimersNote}
use Rattle.mama_lane.specs.Values.{PortValue}
use Rattle.mama_posts_clients.specs.Client.{ClientPostValue}
use Rattle.mama_posts_clients.proofs.ClientLemmas.{done_as}
use Rattle.mama_posts_clients.proofs.client.ClientPost.into_parts.Goals as goal

pub returns-clause-done : goal.returns-clause-done
returns-clause-done g c = λ script number seat end.
    done_as script number c.args.self c.into_ports-to_bridge.result.0.put c.into_ports-to_bridge.result.1.put c.into_moments.result.items seat end
    (ap (λ (p : PortValue BridgeNote). p.put) c.into_ports-to_bridge.ensures.0 ∙ ap (λ (v : ClientPostValue). v.ports.to_bridge.put) c.self.view_is)
    (ap (λ (p : PortValue TimersNote). p.put) c.into_ports-to_bridge.ensures.1 ∙ ap (λ (v : ClientPostValue). v.ports.to_timers.put) c.self.view_is)
    (c.into_moments.ensures ∙ ap (λ (v : ClientPostValue). v.walk.read) c.self.view_is)
