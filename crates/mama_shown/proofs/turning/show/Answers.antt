use Rattle.std.specs.Prelude.{OnOk}
use Rattle.std.proofs.Common.{◌≡◌, ◌≤◌, ◌+◌, length, sym, subst}
use Rattle.mama_crew.specs.Seat as crew
use Rattle.mama_crew.specs.Seat.{journal_in}
use Rattle.mama_shown.specs.Images.{all_sets, AreShown}
use Rattle.mama_shown.proofs.turning.show.Goals as goal

pub show_next-requires-clause-sits : goal.show_next-requires-clause-sits
show_next-requires-clause-sits g c = subst (λ s. crew.IsSeatOf c.args.script.now c.args.hall.now s) (sym c.crew_seat.ensures) c.requires.sits

pub show_next-requires-clause-shows : goal.show_next-requires-clause-shows
show_next-requires-clause-shows g c =
    subst (λ s. AreShown c.args.hall.now.objects (journal_in s) c.args.showing.now.shown (all_sets c.args.showing.now.board)) (sym c.crew_seat.ensures) c.requires.shows

pub show_next-requires-clause-unsealed : goal.show_next-requires-clause-unsealed
show_next-requires-clause-unsealed g c = c.requires.unsealed

pub returns-clause-shows : goal.returns-clause-shows
returns-clause-shows g c =
    subst (λ s. AreShown c.args.hall.now.objects (journal_in s) c.show_next.new.self.shown (all_sets c.show_next.new.self.board)) c.crew_seat.ensures c.show_next.ensures.shows

pub returns-clause-next : goal.returns-clause-next
returns-clause-next g c = c.show_next.ensures.next

pub returns-clause-all : goal.returns-clause-all
returns-clause-all g c = λ is.
    let all = c.show_next.ensures.all is in
    (all.0, subst (λ s. length (journal_in s) ≡ c.args.showing.now.shown) c.crew_seat.ensures all.1)

pub returns-clause-last : goal.returns-clause-last
returns-clause-last g c =
    subst (λ s. OnOk c.show_next.result (length (journal_in s) ≤ c.args.showing.now.shown + 1 → length (journal_in s) ≡ c.show_next.new.self.shown)) c.crew_seat.ensures c.show_next.ensures.last

pub returns-clause-same : goal.returns-clause-same
returns-clause-same g c = c.show_next.ensures.same

pub returns-clause-board : goal.returns-clause-board
returns-clause-board g c = c.show_next.ensures.board
