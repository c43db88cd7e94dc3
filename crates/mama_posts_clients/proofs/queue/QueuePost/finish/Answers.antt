use Rattle.std.proofs.Common.{◌∙◌, ap, sym, subst}
use Rattle.mama_posts_clients.specs.Outlets.{after_puts, MayPut}
use Rattle.mama_posts_clients.specs.Queue.{QueuePostValue}
use Rattle.mama_posts_clients.proofs.QueueLemmas.{queue_may, put_seat}
use Rattle.mama_posts_clients.proofs.queue.QueuePost.finish.Goals as goal

pub put_all-put-requires-clause-lawful : goal.put_all-put-requires-clause-lawful
put_all-put-requires-clause-lawful g c =
    subst (λ (v : QueuePostValue). MayPut v.ports v.left) (sym c.self.view_is)
    (queue_may c.args._plans.now c.args._number c.args.self.now c.requires.seat c.queue_puts_are_lawful.ensures)

pub returns-clause-seat : goal.returns-clause-seat
returns-clause-seat g c =
    put_seat c.args._plans.now c.args._number c.args.self.now _ c.requires.seat
    (ap (λ (v : QueuePostValue). v.served) c.self.view_is) (ap (λ (v : QueuePostValue). v.watches) c.self.view_is) (ap (λ (v : QueuePostValue). v.inlet) c.self.view_is) (ap (λ (v : QueuePostValue). v.back) c.self.view_is)
    (c.put_all-put.ensures.puts ∙ ap (λ (v : QueuePostValue). after_puts v.ports v.left) c.self.view_is)
