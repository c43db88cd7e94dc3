use Rattle.std.proofs.lemmas.Result.{IfOk-weaker}
use Rattle.std.proofs.Common.{ap, sym, ◌∙◌, subst}
use Rattle.mama_dispatch.specs.Journals.{context_after, image_in}
use Rattle.mama_dispatch.specs.Seats.{Fits}
use Rattle.mama_dispatch.specs.Served.{Served}
use Rattle.mama_dispatch.proofs.ServingLemmas.{fits_untold, context_there}
use Rattle.mama_dispatch.proofs.serving.Serving.image_of.Goals as goal

pub returns : goal.returns
returns g c =
    IfOk-weaker c.image.result _ _
    (λ found is orders fits.
    is
    ∙ ap image_in (context_there orders c.self.inside.journal.items c.self.inside.seats c.args.sub
    (c.self.invariant.served.stands orders (fits_untold orders c.self.inside.seats (subst (λ (s : Served). Fits orders s.seats) (sym c.self.view_is) fits))))
    ∙ ap (λ (s : Served). image_in (context_after orders s.journal c.args.sub)) c.self.view_is)
    c.image.ensures
