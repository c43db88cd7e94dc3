use Rattle.std.proofs.Common.{Vec, Global}
use Rattle.std.specs.List.{All}
use Rattle.std.proofs.lemmas.List.Elements.{All-nil, All-push, All-same}
use Rattle.mama_shown.specs.declared.seat.ShownSeat.{ShownSeat}
use Rattle.mama_shown.specs.Seat.{IsSeatOf}
use Rattle.mama_play.proofs.groups.empty_groups.Goals as goal

pub loop-preserved : goal.loop-preserved
loop-preserved g c =
    let Sits : ShownSeat g.row.L.Denot g.row.H.Denot g.row.Rt.Denot → Type 0 = IsSeatOf c.args._script.now c.args._hall.now in
    let Group : Vec (ShownSeat g.row.L.Denot g.row.H.Denot g.row.Rt.Denot) Global → Type 0 = λ group. All Sits group.items in
    All-same Group c.push.new.self.items _ c.in_ok-push.ensures.items
    (All-push Group c.loop.groups.items c.new.result c.loop.invariant (All-same Sits c.new.result.items _ c.new.ensures.items (All-nil Sits)))
