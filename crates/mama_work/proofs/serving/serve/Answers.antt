use Rattle.std.proofs.Common.{ap, ◌∙◌}
use Rattle.mama_work.specs.Dispatcher.{queue_number}
use Rattle.mama_work.proofs.Weights.{gave_back}
use Rattle.mama_work.proofs.serving.serve.Goals as goal

pub returns-in-Ok : goal.returns-in-Ok
returns-in-Ok g c =
    let acts = g.S.Seat.acts in
    gave_back {D = g.row.S.Denot} c.args.kept.now.items c.loop.kept.items c.args.item c.turn.new.item (λ (s : g.row.S.Denot). queue_number (acts s)) c.args.hand.now c.loop.hand c.push.new.self
    c.loop.invariant.hand c.loop.invariant.kept (ap queue_number (c.turn.ensures ∙ c.loop.invariant.item)) c.in-Ok.ensures.ok c.in-Ok.ensures.places
