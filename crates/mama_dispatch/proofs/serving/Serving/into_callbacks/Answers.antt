use Rattle.std.proofs.Common.{ap, sym, ◌∙◌, subst}
use Rattle.mama_rules_queue.specs.Queue.{deeds}
use Rattle.mama_dispatch.specs.Journals.{notes_of}
use Rattle.mama_dispatch.specs.Seats.{Fits}
use Rattle.mama_dispatch.specs.Served.{Served}
use Rattle.mama_dispatch.specs.Callbacks.{calls_to}
use Rattle.mama_dispatch.proofs.ServingLemmas.{fits_untold, calls_there}
use Rattle.mama_dispatch.proofs.CallbackLemmas.{calls_in_lists}
use Rattle.mama_dispatch.proofs.serving.Serving.into_callbacks.Goals as goal

pub returns-clause-calls : goal.returns-clause-calls
returns-clause-calls g c = λ orders fits o.
    ap (calls_to o) c.of.ensures ∙ calls_in_lists o c.self.inside.seats
    ∙ calls_there c.self.inside.journal.items (deeds orders c.self.inside.journal.items) c.self.inside.seats o
    (c.self.invariant.served.stands orders (fits_untold orders c.self.inside.seats (subst (λ (s : Served). Fits orders s.seats) (sym c.self.view_is) fits)))
    ∙ ap (λ (s : Served). notes_of o (deeds orders s.journal)) c.self.view_is
