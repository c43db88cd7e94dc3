use Rattle.std.proofs.Common.{ap, sym, subst, ◌∙◌}
use Rattle.mama_event.specs.declared.ids.ObjectId.TheVariants.{Sub}
use Rattle.mama_rules_queue.specs.Queue.{deeds}
use Rattle.mama_dispatch.specs.Journals as dispatch
use Rattle.mama_plans.specs.Orders.{orders_in}
use Rattle.mama_crew.specs.Seat.{IsSeatOf, journal_in}
use Rattle.mama_crew.specs.declared.seat.Seat.{Seat}
use Rattle.mama_grouped.proofs.queries.notes_of.Goals as goal

pub returns-in-Queue : goal.returns-in-Queue
returns-in-Queue g c = λ script hall sits.
    let seat = subst (λ (s : Seat g.row.L.Denot). IsSeatOf script hall s) c.in-Queue.is sits in
    c.notes.ensures hall.objects seat.keeps.planned
    ∙ ap (λ (s : Seat g.row.L.Denot). dispatch.notes_of (Sub c.args.sub) (deeds (orders_in hall.objects) (journal_in s))) (sym c.in-Queue.is)
