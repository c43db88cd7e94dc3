use Rattle.std.proofs.Common.{sym, subst}
use Rattle.mama_grouped.specs.Seat.{Hears}
use Rattle.mama_grouped.proofs.Turning.{hears_informed}
use Rattle.mama_grouped.proofs.seat.GroupedSeat.inform.Goals as goal

pub returns-clause-seat : goal.returns-clause-seat
returns-clause-seat g c = λ script sits. record {
  sits = c.inform.ensures.seat script sits.sits;
  hears =
      subst (λ s. Hears script c.args.hall.now s c.args.other.now.hearing) (sym c.inform.ensures.informed)
      (hears_informed _ script c.args.hall.now c.args.self.now.seat c.args.other.now.seat c.args.other.now.hearing sits.hears);
}
