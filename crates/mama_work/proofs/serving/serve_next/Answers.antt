use Rattle.mama_work.specs.Dispatcher.{queue_number}
use Rattle.mama_work.proofs.Weights.{took_and_served}
use Rattle.mama_work.proofs.serving.serve_next.Goals as goal

pub returns-in-Some : goal.returns-in-Some
returns-in-Some g c =
    let acts = g.S.Seat.acts in
    took_and_served {D = g.row.S.Denot} c.args.kept.now.items c.reserve.new.self.items c.serve.new.kept.items c.in-Some.item (λ (s : g.row.S.Denot). queue_number (acts s)) c.args.hand.now c.next.new.hand c.serve.new.hand
    c.reserve.ensures.items c.in-Some.ensures c.serve.ensures
