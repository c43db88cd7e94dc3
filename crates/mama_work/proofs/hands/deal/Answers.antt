use Rattle.std.proofs.Common.{◌≡◌, ◌<◌, [], ◌∷◌, length, ap, ◌∙◌, arith}
use Rattle.mama_pool.specs.Values.{after_push}
use Rattle.mama_work.specs.Dispatcher.{queue_number}
use Rattle.mama_work.proofs.Weights.{pushed_follows}
use Rattle.mama_work.proofs.AllHands.{read_follows}
use Rattle.mama_work.proofs.hands.deal.Goals.{in-Ok, in-Err}
use Rattle.mama_work.proofs.hands.deal.Goals as goal

pub returns : goal.returns
returns g c =
    let n = queue_number (g.S.Seat.acts c.args.seat) in let m = queue_number (g.S.Seat.acts c.new.result) in
    let same : m ≡ n = ap (λ (s : g.row.S.Denot). queue_number (g.S.Seat.acts s)) c.new.ensures in
    let hands = c.args.hands.now.items in let h = c.index_mut.result.now in
    let here : c.args.at < length hands = omega (arith, c.if-at-len.false, c.len.ensures, c.args.hands.now.ok.0) in
    elim c.match-push.branch [
      | in-Ok w ↦ rw w.result-is (read_follows hands c.args.at h c.push.new.self (n ∷ []) [] here c.index_mut.ensures.value (pushed_follows h c.push.new.self n (w.in-Ok.ensures.ok ∙ ap (after_push h) same) w.in-Ok.ensures.places))
      | in-Err w ↦ rw w.result-is tt
    ]
