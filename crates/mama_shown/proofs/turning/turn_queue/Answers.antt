use Rattle.std.specs.Prelude.{is_some}
use Rattle.std.proofs.Common.{rules, arith, refl, sym, ◌∙◌, ap, subst}
use Rattle.std.proofs.lemmas.Bool.{both_ways}
use Rattle.mama_grouped.proofs.Turning.{grows_not, no_answer}
use Rattle.mama_shown.specs.Turn.{Steps}
use Rattle.mama_shown.proofs.Turns.{none_of, shown_on}
use Rattle.mama_shown.proofs.Onward.{no_more, onward_twice}
use Rattle.mama_shown.proofs.turning.turn_queue.Goals as goal

-- the board has told: it is over

pub returns-then-has_told-clause-sits : goal.returns-then-has_told-clause-sits
returns-then-has_told-clause-sits g c = c.requires.sits

pub returns-then-has_told-clause-shows : goal.returns-then-has_told-clause-shows
returns-then-has_told-clause-shows g c = c.requires.shows

pub returns-then-has_told-clause-actor : goal.returns-then-has_told-clause-actor
returns-then-has_told-clause-actor g c = refl

pub returns-then-has_told-clause-grows : goal.returns-then-has_told-clause-grows
returns-then-has_told-clause-grows g c = grows_not c.args.seat.now.seat

pub returns-then-has_told-clause-waiting : goal.returns-then-has_told-clause-waiting
returns-then-has_told-clause-waiting g c = λ is. absurd cc

pub returns-then-has_told-clause-ended : goal.returns-then-has_told-clause-ended
returns-then-has_told-clause-ended g c = ((λ _. sym c.has_told.ensures ∙ c.if-has_told.true), (λ _. refl))

pub returns-then-has_told-clause-over : goal.returns-then-has_told-clause-over
returns-then-has_told-clause-over g c = λ is. (refl, refl)

pub returns-then-has_told-clause-moved : goal.returns-then-has_told-clause-moved
returns-then-has_told-clause-moved g c = λ is. absurd cc

-- what is to be shown

pub show-requires-clause-sits : goal.show-requires-clause-sits
show-requires-clause-sits g c = c.requires.sits.sits

pub show-requires-clause-shows : goal.show-requires-clause-shows
show-requires-clause-shows g c = c.requires.shows.shows

pub show-requires-clause-unsealed : goal.show-requires-clause-unsealed
show-requires-clause-unsealed g c = c.requires.shows.unsealed (none_of c.args.showing.now.told (sym c.has_told.ensures ∙ c.if-has_told.false))

-- it could not be shown

pub returns-in_err-shown-clause-sits : goal.returns-in_err-shown-clause-sits
returns-in_err-shown-clause-sits g c = c.requires.sits

pub returns-in_err-shown-clause-shows : goal.returns-in_err-shown-clause-shows
returns-in_err-shown-clause-shows g c =
    shown_on c.args.hall.now.objects c.args.seat.now c.args.showing.now c.show.new.showing c.requires.shows (none_of c.args.showing.now.told (sym c.has_told.ensures ∙ c.if-has_told.false))
    c.show.ensures.same c.show.ensures.board.0 c.show.ensures.board.1 c.show.ensures.shows

pub returns-in_err-shown-clause-actor : goal.returns-in_err-shown-clause-actor
returns-in_err-shown-clause-actor g c = refl

pub returns-in_err-shown-clause-grows : goal.returns-in_err-shown-clause-grows
returns-in_err-shown-clause-grows g c = grows_not c.args.seat.now.seat

pub returns-in_err-shown-clause-waiting : goal.returns-in_err-shown-clause-waiting
returns-in_err-shown-clause-waiting g c = λ is. absurd (no_answer _ _ c.from_residual.ensures.0 is)

pub returns-in_err-shown-clause-ended : goal.returns-in_err-shown-clause-ended
returns-in_err-shown-clause-ended g c =
    ((λ is. absurd (no_answer _ _ c.from_residual.ensures.0 is)), (λ told. absurd (both_ways (is_some c.args.showing.now.told) (sym c.has_told.ensures ∙ c.if-has_told.false) told)))

pub returns-in_err-shown-clause-over : goal.returns-in_err-shown-clause-over
returns-in_err-shown-clause-over g c = λ is. absurd (no_answer _ _ c.from_residual.ensures.0 is)

pub returns-in_err-shown-clause-moved : goal.returns-in_err-shown-clause-moved
returns-in_err-shown-clause-moved g c = λ is. absurd (no_answer _ _ c.from_residual.ensures.0 is)

-- it was shown

pub returns-then-shown-clause-sits : goal.returns-then-shown-clause-sits
returns-then-shown-clause-sits g c = c.requires.sits

pub returns-then-shown-clause-shows : goal.returns-then-shown-clause-shows
returns-then-shown-clause-shows g c =
    shown_on c.args.hall.now.objects c.args.seat.now c.args.showing.now c.show.new.showing c.requires.shows (none_of c.args.showing.now.told (sym c.has_told.ensures ∙ c.if-has_told.false))
    c.show.ensures.same c.show.ensures.board.0 c.show.ensures.board.1 c.show.ensures.shows

pub returns-then-shown-clause-actor : goal.returns-then-shown-clause-actor
returns-then-shown-clause-actor g c = refl

pub returns-then-shown-clause-grows : goal.returns-then-shown-clause-grows
returns-then-shown-clause-grows g c = grows_not c.args.seat.now.seat

pub returns-then-shown-clause-waiting : goal.returns-then-shown-clause-waiting
returns-then-shown-clause-waiting g c = λ is. absurd cc

pub returns-then-shown-clause-ended : goal.returns-then-shown-clause-ended
returns-then-shown-clause-ended g c =
    ((λ is. absurd cc), (λ told. absurd (both_ways (is_some c.args.showing.now.told) (sym c.has_told.ensures ∙ c.if-has_told.false) told)))

pub returns-then-shown-clause-over : goal.returns-then-shown-clause-over
returns-then-shown-clause-over g c = λ is. absurd cc

pub returns-then-shown-clause-moved : goal.returns-then-shown-clause-moved
returns-then-shown-clause-moved g c = λ _. Steps.show refl (c.show.ensures.next (search rules))

-- all was shown

pub turn_shown-requires : goal.turn_shown-requires
turn_shown-requires g c =
    let all = c.show.ensures.all (search rules) in
    let none = none_of c.args.showing.now.told (sym c.has_told.ensures ∙ c.if-has_told.false) in
    record {
      sits = c.requires.sits;
      shows = shown_on c.args.hall.now.objects c.args.seat.now c.args.showing.now c.show.new.showing c.requires.shows none c.show.ensures.same c.show.ensures.board.0 c.show.ensures.board.1 c.show.ensures.shows;
      untold = c.show.ensures.same ∙ none;
      all = all.1 ∙ sym (ap (λ s. s.shown) all.0);
    }

pub returns-clause-sits : goal.returns-clause-sits
returns-clause-sits g c = c.turn_shown.ensures.sits

pub returns-clause-shows : goal.returns-clause-shows
returns-clause-shows g c = c.turn_shown.ensures.shows

pub returns-clause-actor : goal.returns-clause-actor
returns-clause-actor g c = c.turn_shown.ensures.actor

pub returns-clause-grows : goal.returns-clause-grows
returns-clause-grows g c = c.turn_shown.ensures.grows

pub returns-clause-waiting : goal.returns-clause-waiting
returns-clause-waiting g c = λ is.
    let all = c.show.ensures.all (search rules) in
    let waits = c.turn_shown.ensures.waiting is in
    (waits.0, waits.1 ∙ all.0, waits.2, all.1)

pub returns-clause-ended : goal.returns-clause-ended
returns-clause-ended g c =
    ((λ is. absurd (c.turn_shown.ensures.not_ended is)), (λ told. absurd (both_ways (is_some c.args.showing.now.told) (sym c.has_told.ensures ∙ c.if-has_told.false) told)))

pub returns-clause-over : goal.returns-clause-over
returns-clause-over g c = λ is. absurd (c.turn_shown.ensures.not_ended is)

pub returns-clause-moved : goal.returns-clause-moved
returns-clause-moved g c = λ is.
    let all = c.show.ensures.all (search rules) in
    subst (λ s. Steps c.args.script.now c.args.moment c.args.seat.now s c.turn_shown.new.seat c.turn_shown.new.showing) all.0 (c.turn_shown.ensures.moved is)

pub returns-then-has_told-clause-few : goal.returns-then-has_told-clause-few
returns-then-has_told-clause-few g c = omega arith

pub returns-in_err-shown-clause-few : goal.returns-in_err-shown-clause-few
returns-in_err-shown-clause-few g c = omega arith

pub returns-then-shown-clause-few : goal.returns-then-shown-clause-few
returns-then-shown-clause-few g c = omega arith

pub returns-clause-few : goal.returns-clause-few
returns-clause-few g c = c.turn_shown.ensures.few

pub returns-then-has_told-clause-onward : goal.returns-then-has_told-clause-onward
returns-then-has_told-clause-onward g c = no_more c.args.showing.now.board.sets

pub returns-in_err-shown-clause-onward : goal.returns-in_err-shown-clause-onward
returns-in_err-shown-clause-onward g c = c.show.ensures.board.2

pub returns-then-shown-clause-onward : goal.returns-then-shown-clause-onward
returns-then-shown-clause-onward g c = c.show.ensures.board.2

pub returns-clause-onward : goal.returns-clause-onward
returns-clause-onward g c = onward_twice c.args.showing.now.board.sets c.show.new.showing.board.sets c.turn_shown.new.showing.board.sets c.show.ensures.board.2 c.turn_shown.ensures.onward
