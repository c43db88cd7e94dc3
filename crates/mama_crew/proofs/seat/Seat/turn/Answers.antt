use Rattle.std.proofs.Common.{◌≤◌, ◌+◌, length, sym, subst}
use Rattle.mama_crew.specs.Seat.{MadeStep, journal_in}
use Rattle.mama_crew.specs.declared.seat.Seat.{Seat}
use Rattle.mama_crew.specs.declared.seat.Seat.TheVariants.{Client, Bridge, Timers, Queue}
use Rattle.mama_crew.proofs.seat.Seat.turn.Goals as goal

pub returns-in-Client-clause-moved : goal.returns-in-Client-clause-moved
returns-in-Client-clause-moved g c = λ is.
    subst (λ (s : Seat g.row.L.Denot). MadeStep c.args.script.now c.args.moment s (Client c.in-Client.number c.turn.new.self)) (sym c.in-Client.is) (c.turn.ensures.moved is)

pub returns-in-Bridge-clause-moved : goal.returns-in-Bridge-clause-moved
returns-in-Bridge-clause-moved g c = λ is.
    subst (λ (s : Seat g.row.L.Denot). MadeStep c.args.script.now c.args.moment s (Bridge c.turn-in-Bridge.new.self)) (sym c.in-Bridge.is) (c.turn-in-Bridge.ensures.moved is)

pub returns-in-Timers-clause-moved : goal.returns-in-Timers-clause-moved
returns-in-Timers-clause-moved g c = λ is.
    subst (λ (s : Seat g.row.L.Denot). MadeStep c.args.script.now c.args.moment s (Timers c.turn-in-Timers.new.self)) (sym c.in-Timers.is) (c.turn-in-Timers.ensures.moved is)

pub returns-in-Queue-clause-moved : goal.returns-in-Queue-clause-moved
returns-in-Queue-clause-moved g c = λ is.
    subst (λ (s : Seat g.row.L.Denot). MadeStep c.args.script.now c.args.moment s (Queue c.in-Queue.number c.turn_queue.new.post)) (sym c.in-Queue.is) (c.turn_queue.ensures.moved is)

pub returns-in-Queue-clause-few : goal.returns-in-Queue-clause-few
returns-in-Queue-clause-few g c =
    subst (λ (s : Seat g.row.L.Denot). length c.turn_queue.new.post.served.journal ≤ length (journal_in s) + 1) (sym c.in-Queue.is) c.turn_queue.ensures.few
