use Rattle.std.proofs.Common.{◌≡◌, sym, subst}
use Rattle.mama_rules_queue.specs.Queue.{deeds, is_live}
use Rattle.mama_dispatch.specs.Journals.{is_live_here}
use Rattle.mama_dispatch.specs.Seats.{Fits}
use Rattle.mama_dispatch.specs.Served.{Served}
use Rattle.mama_dispatch.proofs.ServingLemmas.{fits_untold}
use Rattle.mama_dispatch.proofs.serving.Serving.objects_live_by_callbacks.Goals as goal

pub returns : goal.returns
returns g c = λ orders object fits.
    subst (λ (s : Served). is_live (deeds orders s.journal) object ≡ is_live_here object s.journal) c.self.view_is
    ((c.self.invariant.served.stands orders (fits_untold orders c.self.inside.seats (subst (λ (s : Served). Fits orders s.seats) (sym c.self.view_is) fits))).live object)
