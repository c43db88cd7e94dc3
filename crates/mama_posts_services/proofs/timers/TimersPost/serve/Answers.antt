use Rattle.std.proofs.Common.{refl, ap}
use Rattle.mama_timer.specs.Service.{Service}
use Rattle.mama_posts_services.proofs.ServiceLemmas.{lays_all}
use Rattle.mama_posts_services.proofs.TimersLemmas.{event_taken}
use Rattle.mama_posts_services.proofs.timers.TimersPost.serve.Goals as goal

pub returns-in-Ok-clause-seat : goal.returns-in-Ok-clause-seat
returns-in-Ok-clause-seat g c =
    event_taken c.args.self.now.service.shape _ c.args.self.now _ c.args.port _ c.self.view_is c.requires.seat c.requires.kept c.requires.left
    (ap (λ (r : Service). r.shape) c.in-Ok.ensures.journal) (ap (λ (r : Service). r.journal) c.in-Ok.ensures.journal) refl
    (lays_all _ c.all.result c.take.new.out.items _ _ c.all.ensures c.in-Ok.ensures.puts c.lend-out.ensures.empty) refl
