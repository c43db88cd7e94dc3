use Rattle.std.proofs.Common.{◌∙◌, ap, sym, subst}
use Rattle.mama_event.specs.declared.to_bridge.BridgeNote.{BridgeNote}
use Rattle.mama_event.specs.declared.to_queue.QueueNote.{QueueNote}
use Rattle.mama_event.specs.declared.to_timers.TimersNote.{TimersNote}
use Rattle.mama_timeout.specs.Table.{AreApart}
use Rattle.mama_posts_clients.specs.Queue.{rows_of_watches}
use Rattle.mama_lane.specs.Values.{PortValue, TakerValue}
use Rattle.mama_hall.specs.Ends.{IsLaneOf}
use Rattle.mama_crew.proofs.OpeningLemmas.{taker_at, holds_at}
use Rattle.mama_crew.proofs.NewLemmas.{queue_in, queue_unused, new_rows}
use Rattle.mama_crew.proofs.WatchLemmas.{watches_apart}
use Rattle.mama_crew.proofs.queue.new_queue.Goals as goal

pub new-requires-clause-watches : goal.new-requires-clause-watches
new-requires-clause-watches g c = subst AreApart (sym c.requires.watches) (watches_apart c.args.script.now c.args.number c.shape-shape.ensures.within)

pub new-requires-clause-taker : goal.new-requires-clause-taker
new-requires-clause-taker g c =
    let lanes = c.args._hall.now.to_queues in
    let there = taker_at lanes c.args.number c.args.taker c.requires.taker in
    let of_lane = holds_at (IsLaneOf c.args.script.now.shape.bounds 2) lanes c.args.number there.0 c.requires.lanes.to_queues there.1 in
    (ap (λ (t : TakerValue QueueNote). t.taken) there.2, ap (λ (t : TakerValue QueueNote). t.ports) there.2 ∙ of_lane.ports_are)

pub new-requires-clause-put : goal.new-requires-clause-put
new-requires-clause-put g c = (ap (λ (p : PortValue BridgeNote). p.put) c.requires.bridge, ap (λ (p : PortValue TimersNote). p.put) c.requires.timers)

pub returns-clause-seat : goal.returns-clause-seat
returns-clause-seat g c =
    let post = c.in_ok-post.post in
    let e = c.in_ok-post.ensures in
    queue_in c.args.script.now c.args._hall.now c.args.number post c.args.taker c.args.to_bridge c.args.to_timers c.requires.there (e.seat c.args._hall.now.objects)
    e.ends.0 e.ends.1 c.requires.taker c.requires.bridge c.requires.timers (ap rows_of_watches e.watched ∙ new_rows c.args.watches.items ∙ c.requires.watches)

pub returns-clause-new : goal.returns-clause-new
returns-clause-new g c =
    let e = c.in_ok-post.ensures in
    queue_unused c.args._hall.now.to_queues c.args.number c.args.watches.items c.in_ok-post.post c.args.taker c.args.to_bridge c.args.to_timers e.start.0 e.watched e.start.1 e.start.2
    e.ends.0 e.ends.1 c.requires.taker (ap (λ (p : PortValue BridgeNote). p.put) c.requires.bridge) (ap (λ (p : PortValue TimersNote). p.put) c.requires.timers)
