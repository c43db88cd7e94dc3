use Rattle.std.proofs.Common.{append-nil, ◌∙◌, ap}
use Rattle.mama_event.specs.Listener.{ListenerData, told}
use Rattle.mama_timeout.specs.Table.{TableData}
use Rattle.mama_posts_clients.specs.Queue.{told_back}
use Rattle.mama_posts_clients.proofs.QueueLemmas.{first_as, nothing_laid}
use Rattle.mama_posts_clients.proofs.queue.QueuePost.new.Goals as goal

pub returns-clause-seat : goal.returns-clause-seat
returns-clause-seat g c = λ objects.
    let view : g.row.L.Denot → ListenerData = told g.L.Tagged.tagged g.L.Listener.calls g.L.Listener.heard g.L.Listener.given g.L.Listener.plan in
    first_as objects c.args.number c.args.watches.items c.new-serving.result c.in_ok-watches.watches.watches c.new-inlet.result c.new-ports.result _ (told_back view c.new-back.result.items) c.args.taker c.args.to_bridge c.args.to_timers
    c.requires.taker.0 c.requires.taker.1 c.requires.put.0 c.requires.put.1 c.new-serving.ensures (ap (λ (t : TableData). t.watches) c.in_ok-watches.ensures) c.new-inlet.ensures c.new-ports.ensures
    (append-nil _ ∙ nothing_laid _ c.all-left.result c.new-out.result.items c.all-left.ensures c.new-out.ensures) (ap (told_back view) c.new-back.ensures.items)
