use Rattle.std.proofs.Common.{ap, sym, ◌∙◌, subst}
use Rattle.mama_dispatch.specs.Journals.{images_left}
use Rattle.mama_dispatch.specs.Seats.{Fits}
use Rattle.mama_dispatch.specs.Served.{Served}
use Rattle.mama_dispatch.specs.Notes.{calls_made}
use Rattle.mama_dispatch.specs.Noted.{lists_in}
use Rattle.mama_dispatch.proofs.ServingLemmas.{fits_untold}
use Rattle.mama_dispatch.proofs.NoteLemmas.{lists_there}
use Rattle.mama_dispatch.proofs.serving.Serving.into_notes.Goals as goal

pub returns-clause-calls : goal.returns-clause-calls
returns-clause-calls g c = λ orders fits.
    c.calls_of_rows.ensures ∙ ap lists_in c.into_parts-rows.ensures.rows
    ∙ lists_there orders c.self.inside.journal.items c.self.inside.seats
    (c.self.invariant.served.stands orders (fits_untold orders c.self.inside.seats (subst (λ (s : Served). Fits orders s.seats) (sym c.self.view_is) fits)))
    ∙ ap (λ (s : Served). calls_made orders s.journal) c.self.view_is

pub returns-clause-images : goal.returns-clause-images
returns-clause-images g c = λ orders fits.
    c.self.invariant.noted.left orders (fits_untold orders c.self.inside.seats (subst (λ (s : Served). Fits orders s.seats) (sym c.self.view_is) fits))
    ∙ ap (λ (s : Served). images_left orders s.journal) c.self.view_is
