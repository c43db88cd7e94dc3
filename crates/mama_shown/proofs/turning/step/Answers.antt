use Rattle.std.proofs.Common.{◌≤◌, ◌+◌, length, refl, subst}
use Rattle.mama_crew.specs.Seat.{journal_in}
use Rattle.mama_grouped.proofs.Turning.{no_answer}
use Rattle.mama_shown.proofs.Turns.{still_showing, shown_on}
use Rattle.mama_shown.proofs.Onward.{no_more}
use Rattle.mama_shown.proofs.turning.step.Goals as goal

pub turn-requires : goal.turn-requires
turn-requires g c = c.requires.sits

-- there was no memory for the turn

pub returns-in_err-pace-clause-sits : goal.returns-in_err-pace-clause-sits
returns-in_err-pace-clause-sits g c = c.turn.ensures.seat

pub returns-in_err-pace-clause-shows : goal.returns-in_err-pace-clause-shows
returns-in_err-pace-clause-shows g c =
    still_showing c.args.hall.now.objects c.args.seat.now c.turn.new.self c.args.showing.now c.turn.ensures.grows c.turn.ensures.actor c.requires.untold c.requires.shows

pub returns-in_err-pace-clause-actor : goal.returns-in_err-pace-clause-actor
returns-in_err-pace-clause-actor g c = c.turn.ensures.actor

pub returns-in_err-pace-clause-grows : goal.returns-in_err-pace-clause-grows
returns-in_err-pace-clause-grows g c = c.turn.ensures.grows

pub returns-in_err-pace-clause-waiting : goal.returns-in_err-pace-clause-waiting
returns-in_err-pace-clause-waiting g c = λ is. absurd (no_answer _ _ c.from_residual.ensures.0 is)

pub returns-in_err-pace-clause-not_ended : goal.returns-in_err-pace-clause-not_ended
returns-in_err-pace-clause-not_ended g c = λ is. no_answer _ _ c.from_residual.ensures.0 is

pub returns-in_err-pace-clause-moved : goal.returns-in_err-pace-clause-moved
returns-in_err-pace-clause-moved g c = λ is. absurd (no_answer _ _ c.from_residual.ensures.0 is)

-- the seat moved, and what that changed is shown

pub show-requires : goal.show-requires
show-requires g c =
    let still = still_showing c.args.hall.now.objects c.args.seat.now c.turn.new.self c.args.showing.now c.turn.ensures.grows c.turn.ensures.actor c.requires.untold c.requires.shows in
    record { sits = c.turn.ensures.seat.sits; shows = still.shows; unsealed = still.unsealed c.requires.untold }

pub returns-in_err-show-in-Moved-clause-sits : goal.returns-in_err-show-in-Moved-clause-sits
returns-in_err-show-in-Moved-clause-sits g c = c.turn.ensures.seat

pub returns-in_err-show-in-Moved-clause-shows : goal.returns-in_err-show-in-Moved-clause-shows
returns-in_err-show-in-Moved-clause-shows g c =
    shown_on c.args.hall.now.objects c.turn.new.self c.args.showing.now c.show.new.showing
    (still_showing c.args.hall.now.objects c.args.seat.now c.turn.new.self c.args.showing.now c.turn.ensures.grows c.turn.ensures.actor c.requires.untold c.requires.shows)
    c.requires.untold c.show.ensures.same c.show.ensures.board.0 c.show.ensures.board.1 c.show.ensures.shows

pub returns-in_err-show-in-Moved-clause-actor : goal.returns-in_err-show-in-Moved-clause-actor
returns-in_err-show-in-Moved-clause-actor g c = c.turn.ensures.actor

pub returns-in_err-show-in-Moved-clause-grows : goal.returns-in_err-show-in-Moved-clause-grows
returns-in_err-show-in-Moved-clause-grows g c = c.turn.ensures.grows

pub returns-in_err-show-in-Moved-clause-waiting : goal.returns-in_err-show-in-Moved-clause-waiting
returns-in_err-show-in-Moved-clause-waiting g c = λ is. absurd (no_answer _ _ c.from_residual-in_err-show-in-Moved.ensures.0 is)

pub returns-in_err-show-in-Moved-clause-not_ended : goal.returns-in_err-show-in-Moved-clause-not_ended
returns-in_err-show-in-Moved-clause-not_ended g c = λ is. no_answer _ _ c.from_residual-in_err-show-in-Moved.ensures.0 is

pub returns-in_err-show-in-Moved-clause-moved : goal.returns-in_err-show-in-Moved-clause-moved
returns-in_err-show-in-Moved-clause-moved g c = λ is. absurd (no_answer _ _ c.from_residual-in_err-show-in-Moved.ensures.0 is)

pub returns-in_ok-show-in-Moved-clause-sits : goal.returns-in_ok-show-in-Moved-clause-sits
returns-in_ok-show-in-Moved-clause-sits g c = c.turn.ensures.seat

pub returns-in_ok-show-in-Moved-clause-shows : goal.returns-in_ok-show-in-Moved-clause-shows
returns-in_ok-show-in-Moved-clause-shows g c =
    shown_on c.args.hall.now.objects c.turn.new.self c.args.showing.now c.show.new.showing
    (still_showing c.args.hall.now.objects c.args.seat.now c.turn.new.self c.args.showing.now c.turn.ensures.grows c.turn.ensures.actor c.requires.untold c.requires.shows)
    c.requires.untold c.show.ensures.same c.show.ensures.board.0 c.show.ensures.board.1 c.show.ensures.shows

pub returns-in_ok-show-in-Moved-clause-actor : goal.returns-in_ok-show-in-Moved-clause-actor
returns-in_ok-show-in-Moved-clause-actor g c = c.turn.ensures.actor

pub returns-in_ok-show-in-Moved-clause-grows : goal.returns-in_ok-show-in-Moved-clause-grows
returns-in_ok-show-in-Moved-clause-grows g c = c.turn.ensures.grows

pub returns-in_ok-show-in-Moved-clause-waiting : goal.returns-in_ok-show-in-Moved-clause-waiting
returns-in_ok-show-in-Moved-clause-waiting g c = λ is. absurd cc

pub returns-in_ok-show-in-Moved-clause-not_ended : goal.returns-in_ok-show-in-Moved-clause-not_ended
returns-in_ok-show-in-Moved-clause-not_ended g c = λ is. cc

pub returns-in_ok-show-in-Moved-clause-moved : goal.returns-in_ok-show-in-Moved-clause-moved
returns-in_ok-show-in-Moved-clause-moved g c = λ _. (
  c.in_ok-pace.ensures.moved (cc c.in-Moved.is),
  c.in_ok-show-in-Moved.ensures.last (subst (λ n. length (journal_in c.turn.new.self.seat) ≤ n + 1) c.requires.all c.turn.ensures.few),
)

-- the seat waits

pub returns-in-Waiting-clause-sits : goal.returns-in-Waiting-clause-sits
returns-in-Waiting-clause-sits g c = c.turn.ensures.seat

pub returns-in-Waiting-clause-shows : goal.returns-in-Waiting-clause-shows
returns-in-Waiting-clause-shows g c =
    still_showing c.args.hall.now.objects c.args.seat.now c.turn.new.self c.args.showing.now c.turn.ensures.grows c.turn.ensures.actor c.requires.untold c.requires.shows

pub returns-in-Waiting-clause-actor : goal.returns-in-Waiting-clause-actor
returns-in-Waiting-clause-actor g c = c.turn.ensures.actor

pub returns-in-Waiting-clause-grows : goal.returns-in-Waiting-clause-grows
returns-in-Waiting-clause-grows g c = c.turn.ensures.grows

pub returns-in-Waiting-clause-waiting : goal.returns-in-Waiting-clause-waiting
returns-in-Waiting-clause-waiting g c = λ is.
    let waits = c.in_ok-pace.ensures.waiting (cc c.in-Waiting.is) in
    (waits.0, refl, waits.1)

pub returns-in-Waiting-clause-not_ended : goal.returns-in-Waiting-clause-not_ended
returns-in-Waiting-clause-not_ended g c = λ is. cc

pub returns-in-Waiting-clause-moved : goal.returns-in-Waiting-clause-moved
returns-in-Waiting-clause-moved g c = λ is. absurd cc

-- that it has ended was looked at before

pub returns-in-Ended-clause-sits : goal.returns-in-Ended-clause-sits
returns-in-Ended-clause-sits g c = c.turn.ensures.seat

pub returns-in-Ended-clause-shows : goal.returns-in-Ended-clause-shows
returns-in-Ended-clause-shows g c =
    still_showing c.args.hall.now.objects c.args.seat.now c.turn.new.self c.args.showing.now c.turn.ensures.grows c.turn.ensures.actor c.requires.untold c.requires.shows

pub returns-in-Ended-clause-actor : goal.returns-in-Ended-clause-actor
returns-in-Ended-clause-actor g c = c.turn.ensures.actor

pub returns-in-Ended-clause-grows : goal.returns-in-Ended-clause-grows
returns-in-Ended-clause-grows g c = c.turn.ensures.grows

pub returns-in-Ended-clause-waiting : goal.returns-in-Ended-clause-waiting
returns-in-Ended-clause-waiting g c = λ is. absurd cc

pub returns-in-Ended-clause-not_ended : goal.returns-in-Ended-clause-not_ended
returns-in-Ended-clause-not_ended g c = λ _. c.requires.goes_on (c.in_ok-pace.ensures.ended.0 (cc c.in-Ended.is))

pub returns-in-Ended-clause-moved : goal.returns-in-Ended-clause-moved
returns-in-Ended-clause-moved g c = λ is. absurd cc

pub returns-in_err-pace-clause-few : goal.returns-in_err-pace-clause-few
returns-in_err-pace-clause-few g c = c.turn.ensures.few

pub returns-in_err-show-in-Moved-clause-few : goal.returns-in_err-show-in-Moved-clause-few
returns-in_err-show-in-Moved-clause-few g c = c.turn.ensures.few

pub returns-in_ok-show-in-Moved-clause-few : goal.returns-in_ok-show-in-Moved-clause-few
returns-in_ok-show-in-Moved-clause-few g c = c.turn.ensures.few

pub returns-in-Waiting-clause-few : goal.returns-in-Waiting-clause-few
returns-in-Waiting-clause-few g c = c.turn.ensures.few

pub returns-in-Ended-clause-few : goal.returns-in-Ended-clause-few
returns-in-Ended-clause-few g c = c.turn.ensures.few

pub returns-in_err-pace-clause-onward : goal.returns-in_err-pace-clause-onward
returns-in_err-pace-clause-onward g c = no_more c.args.showing.now.board.sets

pub returns-in_err-show-in-Moved-clause-onward : goal.returns-in_err-show-in-Moved-clause-onward
returns-in_err-show-in-Moved-clause-onward g c = c.show.ensures.board.2

pub returns-in_ok-show-in-Moved-clause-onward : goal.returns-in_ok-show-in-Moved-clause-onward
returns-in_ok-show-in-Moved-clause-onward g c = c.show.ensures.board.2

pub returns-in-Waiting-clause-onward : goal.returns-in-Waiting-clause-onward
returns-in-Waiting-clause-onward g c = no_more c.args.showing.now.board.sets

pub returns-in-Ended-clause-onward : goal.returns-in-Ended-clause-onward
returns-in-Ended-clause-onward g c = no_more c.args.showing.now.board.sets
