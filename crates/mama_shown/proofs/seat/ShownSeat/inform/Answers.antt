use Rattle.std.proofs.Common.{ap}
use Rattle.mama_grouped.specs.declared.seat.GroupedSeat.{GroupedSeat}
use Rattle.mama_shown.proofs.Informing.{learnt_sits}
use Rattle.mama_shown.proofs.seat.ShownSeat.inform.Goals as goal

pub inform-requires : goal.inform-requires
inform-requires g c = c.requires

pub returns-clause-ok : goal.returns-clause-ok
returns-clause-ok g c = c.inform.ensures.ok

pub returns-clause-informed : goal.returns-clause-informed
returns-clause-informed g c = ap (λ (s : GroupedSeat g.row.L.Denot g.row.H.Denot). record c.args.other.now { seat = s }) c.inform.ensures.informed

pub returns-clause-seat : goal.returns-clause-seat
returns-clause-seat g c = λ script.
    learnt_sits script c.args.hall.now c.args.self.now.seat.seat c.args.other.now c.inform.new.other c.inform.ensures.informed (c.inform.ensures.seat script)

pub returns-clause-same : goal.returns-clause-same
returns-clause-same g c = ap (λ (s : GroupedSeat g.row.L.Denot g.row.H.Denot). record c.args.self.now { seat = s }) c.inform.ensures.same
