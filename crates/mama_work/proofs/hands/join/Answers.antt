use Rattle.mama_work.specs.Dispatcher.{queue_number}
use Rattle.mama_work.proofs.Weights.{all_kept}
use Rattle.mama_work.proofs.hands.join.Goals as goal

pub returns-clause-hand : goal.returns-clause-hand
returns-clause-hand g c =
    let acts = g.S.Seat.acts in
    λ holds.
    all_kept {D = g.row.S.Denot} c.args.kept.now.items c.join-hand.result.kept.items c.append.new.self.items c.is_ok-is_there.result _ (λ (s : g.row.S.Denot). queue_number (acts s)) c.args.server.promise.start.value c.join-hand.result.hand
    c.append.ensures.items c.is_ok-is_there.ensures.value holds c.join-hand.ensures
