use Rattle.std.proofs.Common.{rules}
use Rattle.std.proofs.lemmas.List.Elements.{All-append, All-same}
use Rattle.mama_shown.specs.Seat.{IsSeatOf, HasEnded}
use Rattle.mama_play.proofs.playing.all_turned.Goals as goal

pub in_order-requires-clause-seats : goal.in_order-requires-clause-seats
in_order-requires-clause-seats g c =
    let P = IsSeatOf c.args.script.now c.args.hall.now in let t = c.in_ok-seats in
    All-same P c.append.new.self.items _ c.in_ok-append.ensures.items (All-append P t.field-0.seats.items t.field-0.queues.items t.ensures.seats t.ensures.queues)

pub in_order-requires-clause-ended : goal.in_order-requires-clause-ended
in_order-requires-clause-ended g c =
    let t = c.in_ok-seats in let over = t.ensures.ended (search rules) in
    All-same HasEnded c.append.new.self.items _ c.in_ok-append.ensures.items (All-append HasEnded t.field-0.seats.items t.field-0.queues.items over.0 over.1)
