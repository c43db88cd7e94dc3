use Rattle.std.proofs.Common.{◌≡◌, length, sym, ◌∙◌, arith}
use Rattle.mama_shown.specs.Seat.{actor_of}
use Rattle.mama_play.specs.Kinds.{numbered}
use Rattle.mama_play.proofs.OrderLemmas.{row_more, whole_row}
use Rattle.mama_play.proofs.order.are_numbered.Goals as goal

pub loop-i-preserved : goal.loop-i-preserved
loop-i-preserved g c =
    row_more actor_of (numbered c.args.kind) c.args.seats.now c.loop-i.i c.index-seats-i.result (omega (arith, c.loop-i-test.true)) c.index-seats-i.is
    c.loop-i.invariant (sym c.actor.ensures ∙ c.is_numbered.ensures c.if-not-is_numbered.false)

pub returns : goal.returns
returns g c =
    let end : c.loop-i.i ≡ length c.args.seats.now = omega (arith, c.loop-i-test.false) in
    λ yes. whole_row actor_of (numbered c.args.kind) c.args.seats.now c.loop-i.i end c.loop-i.invariant
