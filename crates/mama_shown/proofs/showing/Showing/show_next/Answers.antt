use Rattle.std.proofs.Common.{refl}
use Rattle.std.proofs.lemmas.Result.{IfOk-from_err}
use Rattle.mama_crew.specs.Seat.{journal_in}
use Rattle.mama_grouped.proofs.Turning.{no_answer}
use Rattle.mama_shown.specs.Images.{all_sets}
use Rattle.mama_shown.proofs.Shown.{shown_more, shown_last, shown_whole}
use Rattle.mama_shown.proofs.Onward.{no_more}
use Rattle.mama_shown.proofs.showing.Showing.show_next.Goals as goal

pub show_named-requires : goal.show_named-requires
show_named-requires g c = record { sits = c.requires.sits; shows = c.requires.shows; unsealed = c.requires.unsealed }

-- there was no memory to show it

pub returns-in_err-show_named-clause-shows : goal.returns-in_err-show_named-clause-shows
returns-in_err-show_named-clause-shows g c = c.show_named.ensures.shows

pub returns-in_err-show_named-clause-next : goal.returns-in_err-show_named-clause-next
returns-in_err-show_named-clause-next g c = λ is. absurd (no_answer _ _ c.from_residual.ensures.0 is)

pub returns-in_err-show_named-clause-all : goal.returns-in_err-show_named-clause-all
returns-in_err-show_named-clause-all g c = λ is. absurd (no_answer _ _ c.from_residual.ensures.0 is)

pub returns-in_err-show_named-clause-last : goal.returns-in_err-show_named-clause-last
returns-in_err-show_named-clause-last g c = IfOk-from_err c.from_residual.result _ c.from_residual.ensures.0

pub returns-in_err-show_named-clause-same : goal.returns-in_err-show_named-clause-same
returns-in_err-show_named-clause-same g c = c.show_named.ensures.same.1

pub returns-in_err-show_named-clause-board : goal.returns-in_err-show_named-clause-board
returns-in_err-show_named-clause-board g c = c.show_named.ensures.board

-- it was shown

pub returns-then-next-journal-clause-shows : goal.returns-then-next-journal-clause-shows
returns-then-next-journal-clause-shows g c =
    shown_more c.args.hall.now.objects (journal_in c.args.seat.now) c.journal_of-journal.result.now c.args.self.now.shown c.show_named.new.self.shown c.index-journal-next.result _ (all_sets c.show_named.new.self.board)
    c.named_by-named.result c.journal_of-journal.ensures c.if-next-journal.true refl c.named_by-named.ensures c.in_ok-show_named.ensures.set c.show_named.ensures.same.0 c.show_named.ensures.shows

pub returns-then-next-journal-clause-next : goal.returns-then-next-journal-clause-next
returns-then-next-journal-clause-next g c = λ is. refl

pub returns-then-next-journal-clause-all : goal.returns-then-next-journal-clause-all
returns-then-next-journal-clause-all g c = λ is. absurd cc

pub returns-then-next-journal-clause-last : goal.returns-then-next-journal-clause-last
returns-then-next-journal-clause-last g c = λ few. shown_last (journal_in c.args.seat.now) c.journal_of-journal.result.now c.args.self.now.shown c.journal_of-journal.ensures c.if-next-journal.true few

pub returns-then-next-journal-clause-same : goal.returns-then-next-journal-clause-same
returns-then-next-journal-clause-same g c = c.show_named.ensures.same.1

pub returns-then-next-journal-clause-board : goal.returns-then-next-journal-clause-board
returns-then-next-journal-clause-board g c = c.show_named.ensures.board

-- all was shown

pub returns-clause-shows : goal.returns-clause-shows
returns-clause-shows g c = c.requires.shows

pub returns-clause-next : goal.returns-clause-next
returns-clause-next g c = λ is. absurd cc

pub returns-clause-all : goal.returns-clause-all
returns-clause-all g c = λ _. (
  refl,
  shown_whole c.args.hall.now.objects (journal_in c.args.seat.now) c.journal_of-journal.result.now c.args.self.now.shown (all_sets c.args.self.now.board) c.journal_of-journal.ensures c.if-next-journal.false c.requires.shows,
)

pub returns-clause-last : goal.returns-clause-last
returns-clause-last g c = λ _.
    shown_whole c.args.hall.now.objects (journal_in c.args.seat.now) c.journal_of-journal.result.now c.args.self.now.shown (all_sets c.args.self.now.board) c.journal_of-journal.ensures c.if-next-journal.false c.requires.shows

pub returns-clause-same : goal.returns-clause-same
returns-clause-same g c = refl

pub returns-clause-board : goal.returns-clause-board
returns-clause-board g c = (refl, c.requires.unsealed, no_more c.args.self.now.board.sets)
