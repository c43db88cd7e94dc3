use Rattle.std.proofs.Common.{List, subst}
use Rattle.mama_dispatch.specs.Seats.{SeatData, Fits}
use Rattle.mama_dispatch.specs.Served.{Served}
use Rattle.mama_dispatch.proofs.ServingLemmas.{given_at, given_fits, fits_told}
use Rattle.mama_dispatch.proofs.serving.Serving.orders_were_given.Goals as goal

pub returns : goal.returns
returns g c =
    let ss : List SeatData = c.self.inside.seats in
    ((λ o. given_at o ss), subst (λ (s : Served). Fits (λ o. given_at o ss) s.seats) c.self.view_is (fits_told (λ o. given_at o ss) ss (given_fits ss c.apart.ensures)))
