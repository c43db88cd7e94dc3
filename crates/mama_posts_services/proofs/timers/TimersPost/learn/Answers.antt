use Rattle.mama_posts_services.proofs.TimersLemmas.{note_learnt}
use Rattle.mama_posts_services.proofs.timers.TimersPost.learn.Goals as goal

pub returns-clause-seat : goal.returns-clause-seat
returns-clause-seat g c = λ shape seat. note_learnt shape _ c.args.self.now c.learn.new.self c.args.note c.self.view_is c.learn.ensures seat
