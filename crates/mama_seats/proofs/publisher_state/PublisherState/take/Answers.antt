use Rattle.std.proofs.Common.{◌≡◌, [], ◌∷◌, ◌++◌, map, ap, sym, subst, ◌∙◌}
use Rattle.mama_event.specs.ToPublisher.{note_of}
use Rattle.mama_event.specs.ToBridge.{note_of as bridge_note_of}
use Rattle.mama_event.specs.Publisher.{publisher_puts_at}
use Rattle.mama_event.specs.declared.publisher_entry.PublisherEntry.TheVariants as entry
use Rattle.mama_publisher.specs.Laws.{StandsAt}
use Rattle.mama_seats.specs.Sender.{Progress, IsSeatedAt}
use Rattle.mama_seats.proofs.SenderLemmas.{took_seats}
use Rattle.mama_seats.proofs.publisher_state.PublisherState.take.Goals as goal

pub returns-clause-puts : goal.returns-clause-puts
returns-clause-puts g c = λ script stands.
    let here = subst (λ (s : Progress). StandsAt script s.journal s.publisher) (sym c.self.view_is) stands in
    c.in-Ok.ensures.notes
    ∙ ap (λ puts. map (bridge_note_of g.M.Tagged.tagged) c.args.out.now.items ++ puts) (sym (c.taking_an_event.ensures script c.self.inside.journal.items c.self.inside.publisher c.args.event here).puts)
    ∙ ap (λ (s : Progress). map (bridge_note_of g.M.Tagged.tagged) c.args.out.now.items ++ publisher_puts_at script s.journal (entry.Took (note_of c.args.event))) c.self.view_is

pub returns-clause-seated : goal.returns-clause-seated
returns-clause-seated g c = λ part seated.
    let here = subst (IsSeatedAt part) (sym c.self.view_is) seated in
    let same : c.in_ok-note.note ≡ note_of c.args.event = cc c.in_ok-note.ensures in
    took_seats c.taking_an_event.ensures part.base part.lines _ c.self.inside.journal.items _ c.self.inside.publisher _ c.args.event here c.take.ensures.stays
    (c.note_taken.ensures ∙ ap (λ j. j ++ entry.Took c.in_ok-note.note ∷ []) c.reserve.ensures.items
    ∙ ap (λ n. c.self.inside.journal.items ++ entry.Took n ∷ []) same)
