use Rattle.std.proofs.Common.{ap, sym, ◌∙◌, subst}
use Rattle.mama_rules_queue.specs.Queue.{deeds, is_muted}
use Rattle.mama_dispatch.specs.Journals.{is_live_here}
use Rattle.mama_dispatch.specs.State.{object_state}
use Rattle.mama_dispatch.specs.Seats.{Fits}
use Rattle.mama_dispatch.specs.Served.{Served}
use Rattle.mama_dispatch.proofs.ServingLemmas.{fits_untold, state_there}
use Rattle.mama_dispatch.proofs.serving.Serving.state.Goals as goal

pub returns : goal.returns
returns g c = λ orders fits.
    c.by.ensures
    ∙ rw (c.is_here.ensures, c.is_muted.ensures)
    (state_there c.self.inside.journal.items (deeds orders c.self.inside.journal.items) c.self.inside.seats c.args.object
    (c.self.invariant.served.stands orders (fits_untold orders c.self.inside.seats (subst (λ (s : Served). Fits orders s.seats) (sym c.self.view_is) fits))))
    ∙ ap (λ (s : Served). object_state (is_live_here c.args.object s.journal) (is_muted c.args.object (deeds orders s.journal))) c.self.view_is
