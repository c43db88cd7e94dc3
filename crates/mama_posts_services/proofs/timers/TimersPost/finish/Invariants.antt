use Rattle.std.proofs.Common.{◌≡◌, map, length}
use Rattle.mama_posts_services.specs.Ports.{place_of}
use Rattle.mama_posts_services.specs.Timers.{IsTimersOf}
use Rattle.mama_posts_services.proofs.timers.TimersPost.finish.Given as goal

abbrev pub invariant-puts : goal.invariant-puts
invariant-puts g l = record {
  seat : IsTimersOf l.fn.self.service.shape l.self;
  place : map place_of l.self.queues ≡ map place_of l.fn.self.queues;
  same : l.self.service ≡ record l.fn.self.service { left = l.self.service.left };
}

abbrev pub decreases-puts : goal.decreases-puts
decreases-puts g l = length l.self.service.left
