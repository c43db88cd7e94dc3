use Rattle.std.proofs.Common.{Option, ◌∙◌, ap, sym, subst}
use Rattle.mama_event.specs.declared.to_bridge.BridgeNote.{BridgeNote}
use Rattle.mama_event.specs.declared.to_publisher.PublisherNote.{PublisherNote}
use Rattle.mama_event.specs.declared.to_queue.QueueNote.{QueueNote}
use Rattle.mama_event.specs.declared.to_timers.TimersNote.{TimersNote}
use Rattle.mama_lane.specs.Values.{NoteValue}
use Rattle.mama_posts_services.specs.Publisher.{PublisherPostValue}
use Rattle.mama_posts_services.specs.Bridge.{BridgePostValue}
use Rattle.mama_posts_services.specs.Timers.{TimersPostValue}
use Rattle.mama_posts_clients.specs.Queue.{QueuePostValue}
use Rattle.mama_crew.specs.declared.seat.Seat.{Seat}
use Rattle.mama_crew.specs.declared.seat.Seat.TheVariants.{Publisher, Bridge, Timers, Queue}
use Rattle.mama_crew.specs.Seat.{IsSeatOf}
use Rattle.mama_crew.specs.Informed.{publisher_told, bridge_told, timers_told, queue_told, informed}
use Rattle.mama_crew.proofs.SeatLemmas.{lane_there}
use Rattle.mama_crew.proofs.InformingLemmas.{has_ports}
use Rattle.mama_crew.proofs.seat.Seat.inform.Goals as goal

pub tell_publisher-requires-clause-ports : goal.tell_publisher-requires-clause-ports
tell_publisher-requires-clause-ports g c = has_ports c.requires.script c.args.hall.now c.args.self.now c.requires.first

pub tell_bridge-requires : goal.tell_bridge-requires
tell_bridge-requires g c = has_ports c.requires.script c.args.hall.now c.args.self.now c.requires.first

pub tell_timers-requires : goal.tell_timers-requires
tell_timers-requires g c = has_ports c.requires.script c.args.hall.now c.args.self.now c.requires.first

pub tell_queue-requires-clause-ports : goal.tell_queue-requires-clause-ports
tell_queue-requires-clause-ports g c = has_ports c.requires.script c.args.hall.now c.args.self.now c.requires.first

pub tell_publisher-requires-clause-there : goal.tell_publisher-requires-clause-there
tell_publisher-requires-clause-there g c =
    let sits = subst (λ (s : Seat g.row.L.Denot). IsSeatOf c.requires.script c.args.hall.now s) c.in-Publisher.is c.requires.second in
    lane_there c.args.hall.now.to_publishers c.in-Publisher.number c.in-Publisher.seat.inlet.taker.lane sits.lane

pub tell_queue-requires-clause-there : goal.tell_queue-requires-clause-there
tell_queue-requires-clause-there g c =
    let sits = subst (λ (s : Seat g.row.L.Denot). IsSeatOf c.requires.script c.args.hall.now s) c.in-Queue.is c.requires.second in
    lane_there c.args.hall.now.to_queues c.in-Queue.number c.in-Queue.post.inlet.taker.lane sits.lane

pub learn-requires-clause-lane : goal.learn-requires-clause-lane
learn-requires-clause-lane g c =
    let sits = subst (λ (s : Seat g.row.L.Denot). IsSeatOf c.requires.script c.args.hall.now s) c.in-Publisher.is c.requires.second in
    sits.lane

pub learn-requires-in-Bridge-clause-lane : goal.learn-requires-in-Bridge-clause-lane
learn-requires-in-Bridge-clause-lane g c =
    let sits = subst (λ (s : Seat g.row.L.Denot). IsSeatOf c.requires.script c.args.hall.now s) c.in-Bridge.is c.requires.second in
    sits.lane

pub learn-requires-in-Timers-clause-lane : goal.learn-requires-in-Timers-clause-lane
learn-requires-in-Timers-clause-lane g c =
    let sits = subst (λ (s : Seat g.row.L.Denot). IsSeatOf c.requires.script c.args.hall.now s) c.in-Timers.is c.requires.second in
    sits.lane

pub queue_learns-requires-clause-lane : goal.queue_learns-requires-clause-lane
queue_learns-requires-clause-lane g c =
    let sits = subst (λ (s : Seat g.row.L.Denot). IsSeatOf c.requires.script c.args.hall.now s) c.in-Queue.is c.requires.second in
    sits.lane

pub returns-in_ok-note-in-Publisher-clause-informed : goal.returns-in_ok-note-in-Publisher-clause-informed
returns-in_ok-note-in-Publisher-clause-informed g c =
    let learnt = c.learn.ensures.told ∙ ap (λ (t : Option (NoteValue PublisherNote)). publisher_told t c.in-Publisher.seat) c.in_ok-note-in-Publisher.ensures.note in
    ap (λ (v : PublisherPostValue). let seat : Seat g.row.L.Denot = Publisher c.in-Publisher.number v in seat) learnt ∙ ap (λ (s : Seat g.row.L.Denot). informed c.args.self.now s) (sym c.in-Publisher.is)

pub returns-in_ok-note-in-Publisher-clause-seat : goal.returns-in_ok-note-in-Publisher-clause-seat
returns-in_ok-note-in-Publisher-clause-seat g c = λ script was. c.learn.ensures.seat script (subst (λ (s : Seat g.row.L.Denot). IsSeatOf script c.args.hall.now s) c.in-Publisher.is was)

pub returns-in_ok-note-in-Bridge-clause-informed : goal.returns-in_ok-note-in-Bridge-clause-informed
returns-in_ok-note-in-Bridge-clause-informed g c =
    let learnt = c.learn-in-Bridge.ensures.told ∙ ap (λ (t : Option (NoteValue BridgeNote)). bridge_told t c.in-Bridge.seat) c.in_ok-note-in-Bridge.ensures.note in
    ap (λ (v : BridgePostValue). let seat : Seat g.row.L.Denot = Bridge v in seat) learnt ∙ ap (λ (s : Seat g.row.L.Denot). informed c.args.self.now s) (sym c.in-Bridge.is)

pub returns-in_ok-note-in-Bridge-clause-seat : goal.returns-in_ok-note-in-Bridge-clause-seat
returns-in_ok-note-in-Bridge-clause-seat g c = λ script was. c.learn-in-Bridge.ensures.seat script (subst (λ (s : Seat g.row.L.Denot). IsSeatOf script c.args.hall.now s) c.in-Bridge.is was)

pub returns-in_ok-note-in-Timers-clause-informed : goal.returns-in_ok-note-in-Timers-clause-informed
returns-in_ok-note-in-Timers-clause-informed g c =
    let learnt = c.learn-in-Timers.ensures.told ∙ ap (λ (t : Option (NoteValue TimersNote)). timers_told t c.in-Timers.seat) c.in_ok-note-in-Timers.ensures.note in
    ap (λ (v : TimersPostValue). let seat : Seat g.row.L.Denot = Timers v in seat) learnt ∙ ap (λ (s : Seat g.row.L.Denot). informed c.args.self.now s) (sym c.in-Timers.is)

pub returns-in_ok-note-in-Timers-clause-seat : goal.returns-in_ok-note-in-Timers-clause-seat
returns-in_ok-note-in-Timers-clause-seat g c = λ script was. c.learn-in-Timers.ensures.seat script (subst (λ (s : Seat g.row.L.Denot). IsSeatOf script c.args.hall.now s) c.in-Timers.is was)

pub returns-in_ok-note-in-Queue-clause-informed : goal.returns-in_ok-note-in-Queue-clause-informed
returns-in_ok-note-in-Queue-clause-informed g c =
    let learnt = c.queue_learns.ensures.told ∙ ap (λ (t : Option (NoteValue QueueNote)). queue_told t c.in-Queue.post) c.in_ok-note-in-Queue.ensures.note in
    ap (λ (v : QueuePostValue). let seat : Seat g.row.L.Denot = Queue c.in-Queue.number v in seat) learnt ∙ ap (λ (s : Seat g.row.L.Denot). informed c.args.self.now s) (sym c.in-Queue.is)

pub returns-in_ok-note-in-Queue-clause-seat : goal.returns-in_ok-note-in-Queue-clause-seat
returns-in_ok-note-in-Queue-clause-seat g c = λ script was. c.queue_learns.ensures.seat script (subst (λ (s : Seat g.row.L.Denot). IsSeatOf script c.args.hall.now s) c.in-Queue.is was)
