use Rattle.std.proofs.Common.{ℕ, drop, [], ◌∷◌, ◌++◌, ◌∙◌, ap, sym, subst}
use Rattle.mama_event.specs.Publisher.{publisher_puts_at}
use Rattle.mama_event.specs.ToPublisher.{note_of}
use Rattle.mama_event.specs.declared.publisher_entry.PublisherEntry.TheVariants.{Took}
use Rattle.mama_seats.specs.Sender.{Progress, IsSeated, IsSeatedAt, script_of}
use Rattle.mama_posts_services.specs.Publisher.{PublisherPostValue}
use Rattle.mama_posts_services.proofs.PublisherLemmas.{event_seat}
use Rattle.mama_posts_services.proofs.ServiceLemmas.{lays_all}
use Rattle.mama_posts_services.proofs.publisher.PublisherPost.take.Goals as goal

pub returns-clause-seat : goal.returns-clause-seat
returns-clause-seat g c =
    let part = c.args.part.now in
    let note = note_of c.args.event in
    let old = c.args.self.now in
    let script = script_of c.args._number part.base part.lines in
    let seat = c.requires.seat in
    let same = ap (λ (v : PublisherPostValue). v.progress) c.self.view_is in
    let mine = subst (λ (n : ℕ). IsSeated (script_of n part.base part.lines) old.progress.journal old.progress.publisher (drop old.progress.line part.lines)) seat.number_is seat.seated in
    let here = subst (λ (p : Progress). IsSeated script p.journal p.publisher (drop p.line part.lines)) (sym same) mine in
    event_seat part c.args._number old note c.take.new.self _ _ _ seat c.requires.left c.requires.in_time
    (c.in_ok-take.ensures.state ∙ ap (λ (p : Progress). record p { journal = p.journal ++ Took note ∷ [] }) same)
    (c.in_ok-take.ensures.seated part (subst (IsSeatedAt part) (sym same) seat.seated))
    (ap (λ (v : PublisherPostValue). v.port) c.self.view_is) (ap (λ (v : PublisherPostValue). v.inlet) c.self.view_is) c.requires.kept
    (lays_all _ c.all.result c.take.new.out.items _ (publisher_puts_at script c.self.inside.state.journal (Took note)) c.all.ensures (c.in_ok-take.ensures.puts script here.stands) c.lend-out.ensures.empty
    ∙ ap (λ (p : Progress). publisher_puts_at script p.journal (Took note)) same)
