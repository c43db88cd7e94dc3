use Rattle.std.proofs.lemmas.Bool.{false≢true, both_ways}
use Rattle.mama_shown.proofs.seat.ShownSeat.ended.Goals as goal

pub returns-then-not-has_sealed : goal.returns-then-not-has_sealed
returns-then-not-has_sealed g c = ((λ is. absurd (false≢true is)), (λ e. absurd (both_ways c.has_sealed.result c.if-not-has_sealed.true (c.has_sealed.ensures.1 e.sealed))))

pub returns : goal.returns
returns g c = (
  (λ is. record { seat = c.ended.ensures.0 is; sealed = c.has_sealed.ensures.0 c.if-not-has_sealed.false }),
  (λ e. c.ended.ensures.1 e.seat),
)
