use Rattle.std.proofs.Common.{◌≡◌, length}
use Rattle.mama_posts_services.specs.Bridge.{IsBridgeOf, StayPlaced}
use Rattle.mama_posts_services.proofs.bridge.BridgePost.finish.Given as goal

abbrev pub invariant-puts : goal.invariant-puts
invariant-puts g l = record {
  seat : IsBridgeOf l.fn.self.service.shape l.self;
  place : StayPlaced l.fn.self.ports l.self.ports;
  same : l.self.service ≡ record l.fn.self.service { left = l.self.service.left };
}

abbrev pub decreases-puts : goal.decreases-puts
decreases-puts g l = length l.self.service.left
