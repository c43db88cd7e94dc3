use Rattle.std.proofs.Common.{subst}
use Rattle.mama_dispatch.specs.Hearing.{ArePlanned}
use Rattle.mama_dispatch.specs.Seats.{Fits}
use Rattle.mama_dispatch.specs.Served.{Served}
use Rattle.mama_dispatch.proofs.ServingLemmas.{planned_fits_told}
use Rattle.mama_dispatch.proofs.serving.Serving.planned_orders_fit.Goals as goal

pub returns : goal.returns
returns g c = λ orders. subst (λ (s : Served). ArePlanned orders s.seats → Fits orders s.seats) c.self.view_is (planned_fits_told orders c.self.inside.seats c.few.ensures)
