use Rattle.std.proofs.Common.{ap, sym, ◌∙◌, subst}
use Rattle.mama_rules_queue.specs.Queue.{deeds}
use Rattle.mama_dispatch.specs.Journals.{notes_of}
use Rattle.mama_dispatch.specs.Seats.{Fits}
use Rattle.mama_dispatch.specs.Served.{Served}
use Rattle.mama_dispatch.proofs.ServingLemmas.{fits_untold, calls_there}
use Rattle.mama_dispatch.proofs.serving.Serving.notes.Goals as goal

pub returns : goal.returns
returns g c = λ orders fits.
    c.calls.ensures
    ∙ calls_there c.self.inside.journal.items (deeds orders c.self.inside.journal.items) c.self.inside.seats c.args.object
    (c.self.invariant.served.stands orders (fits_untold orders c.self.inside.seats (subst (λ (s : Served). Fits orders s.seats) (sym c.self.view_is) fits)))
    ∙ ap (λ (s : Served). notes_of c.args.object (deeds orders s.journal)) c.self.view_is
