use Rattle.std.proofs.Common.{ap}
use Rattle.mama_posts_services.specs.Timers.{TimersPostValue}
use Rattle.mama_posts_services.proofs.ServiceLemmas.{begins, first_left}
use Rattle.mama_posts_services.proofs.TimersLemmas.{first_may, first_laid, first_placed}
use Rattle.mama_posts_services.proofs.timers.TimersPost.put_first.Goals as goal

pub put_to-requires-clause-lawful : goal.put_to-requires-clause-lawful
put_to-requires-clause-lawful g c =
    first_may c.lawful_clients_get_lawful_streams.ensures c.args.self.now.service.shape _ c.args.self.now _ _ _ c.self.view_is c.requires.seat (begins _ _ c.in-Some.out _ c.in-Some.ensures.some)

pub returns-in-Ok-clause-seat : goal.returns-in-Ok-clause-seat
returns-in-Ok-clause-seat g c =
    first_laid c.args.self.now.service.shape _ c.args.self.now _ _ _ c.put_to.new.ports.items c.self.view_is c.requires.seat (begins _ _ c.in-Some.out _ c.in-Some.ensures.some) c.in-Ok.ensures.ok

pub returns-in-Ok-clause-place : goal.returns-in-Ok-clause-place
returns-in-Ok-clause-place g c = first_placed _ c.args.self.now _ _ c.put_to.new.ports.items c.self.view_is c.in-Ok.ensures.ok

pub returns-in-Ok-clause-put : goal.returns-in-Ok-clause-put
returns-in-Ok-clause-put g c = λ is. first_left _ c.args.self.now.service _ _ (ap (λ (v : TimersPostValue). v.service) c.self.view_is) (begins _ _ c.in-Some.out _ c.in-Some.ensures.some)
