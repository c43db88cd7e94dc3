use Rattle.std.proofs.Common.{refl, sym, ◌∙◌, subst}
use Rattle.mama_shown.specs.Seat.{HasSealed}
use Rattle.mama_shown.proofs.seat.ShownSeat.has_sealed.Goals as goal

pub returns-in-Some : goal.returns-in-Some
returns-in-Some g c = ((λ is. subst HasSealed (sym c.in-Some.is) (sym c.has_told.ensures ∙ is)), (λ sealed. c.has_told.ensures ∙ subst HasSealed c.in-Some.is sealed))

pub returns-in-None : goal.returns-in-None
returns-in-None g c = ((λ _. subst HasSealed (sym c.in-None.is) tt), (λ _. refl))
