use Rattle.std.specs.Prelude.{is_some}
use Rattle.std.proofs.Common.{arith, refl, sym, ap, subst}
use Rattle.std.proofs.lemmas.Bool.{both_ways}
use Rattle.mama_grouped.proofs.Turning.{grows_not, no_answer}
use Rattle.mama_shown.specs.Seat.{IsShowing}
use Rattle.mama_shown.specs.Turn.{Steps}
use Rattle.mama_shown.proofs.Turns.{sealed_on}
use Rattle.mama_shown.proofs.Onward.{same_sets, seal_onward}
use Rattle.mama_shown.proofs.turning.turn_shown.Goals as goal

pub seal-requires : goal.seal-requires
seal-requires g c = c.requires.shows.unsealed c.requires.untold

-- the board could not be sealed

pub returns-in_err-seal-clause-sits : goal.returns-in_err-seal-clause-sits
returns-in_err-seal-clause-sits g c = c.requires.sits

pub returns-in_err-seal-clause-shows : goal.returns-in_err-seal-clause-shows
returns-in_err-seal-clause-shows g c = subst (λ s. IsShowing c.args.hall.now.objects c.args.seat.now s) (sym c.in_err-seal.ensures.err) c.requires.shows

pub returns-in_err-seal-clause-actor : goal.returns-in_err-seal-clause-actor
returns-in_err-seal-clause-actor g c = refl

pub returns-in_err-seal-clause-grows : goal.returns-in_err-seal-clause-grows
returns-in_err-seal-clause-grows g c = grows_not c.args.seat.now.seat

pub returns-in_err-seal-clause-waiting : goal.returns-in_err-seal-clause-waiting
returns-in_err-seal-clause-waiting g c = λ is. absurd (no_answer _ _ c.from_residual.ensures.0 is)

pub returns-in_err-seal-clause-not_ended : goal.returns-in_err-seal-clause-not_ended
returns-in_err-seal-clause-not_ended g c = λ is. no_answer _ _ c.from_residual.ensures.0 is

pub returns-in_err-seal-clause-moved : goal.returns-in_err-seal-clause-moved
returns-in_err-seal-clause-moved g c = λ is. absurd (no_answer _ _ c.from_residual.ensures.0 is)

-- it was sealed

pub returns-then-ended-clause-sits : goal.returns-then-ended-clause-sits
returns-then-ended-clause-sits g c = c.requires.sits

pub returns-then-ended-clause-shows : goal.returns-then-ended-clause-shows
returns-then-ended-clause-shows g c =
    sealed_on c.args.hall.now.objects c.args.seat.now c.args.showing.now c.seal.new.self c.requires.shows (c.ended.ensures.0 c.if-ended.true) c.requires.all c.seal.ensures.same c.in_ok-seal.ensures.ok.0 c.in_ok-seal.ensures.ok.1

pub returns-then-ended-clause-actor : goal.returns-then-ended-clause-actor
returns-then-ended-clause-actor g c = refl

pub returns-then-ended-clause-grows : goal.returns-then-ended-clause-grows
returns-then-ended-clause-grows g c = grows_not c.args.seat.now.seat

pub returns-then-ended-clause-waiting : goal.returns-then-ended-clause-waiting
returns-then-ended-clause-waiting g c = λ is. absurd cc

pub returns-then-ended-clause-not_ended : goal.returns-then-ended-clause-not_ended
returns-then-ended-clause-not_ended g c = λ is. cc

pub returns-then-ended-clause-moved : goal.returns-then-ended-clause-moved
returns-then-ended-clause-moved g c = λ _. Steps.seal (c.ended.ensures.0 c.if-ended.true) refl (ap is_some c.in_ok-seal.ensures.ok.1)

-- the queue goes on

pub step-requires-clause-sits : goal.step-requires-clause-sits
step-requires-clause-sits g c = c.requires.sits

pub step-requires-clause-shows : goal.step-requires-clause-shows
step-requires-clause-shows g c = c.requires.shows

pub step-requires-clause-untold : goal.step-requires-clause-untold
step-requires-clause-untold g c = c.requires.untold

pub step-requires-clause-all : goal.step-requires-clause-all
step-requires-clause-all g c = c.requires.all

pub step-requires-clause-goes_on : goal.step-requires-clause-goes_on
step-requires-clause-goes_on g c = λ ended. both_ways c.ended.result c.if-ended.false (c.ended.ensures.1 ended)

pub returns-clause-sits : goal.returns-clause-sits
returns-clause-sits g c = c.step.ensures.sits

pub returns-clause-shows : goal.returns-clause-shows
returns-clause-shows g c = c.step.ensures.shows

pub returns-clause-actor : goal.returns-clause-actor
returns-clause-actor g c = c.step.ensures.actor

pub returns-clause-grows : goal.returns-clause-grows
returns-clause-grows g c = c.step.ensures.grows

pub returns-clause-waiting : goal.returns-clause-waiting
returns-clause-waiting g c = c.step.ensures.waiting

pub returns-clause-not_ended : goal.returns-clause-not_ended
returns-clause-not_ended g c = c.step.ensures.not_ended

pub returns-clause-moved : goal.returns-clause-moved
returns-clause-moved g c = λ is. Steps.step c.requires.all (c.step.ensures.moved is).0 (c.step.ensures.moved is).1

pub returns-in_err-seal-clause-few : goal.returns-in_err-seal-clause-few
returns-in_err-seal-clause-few g c = omega arith

pub returns-then-ended-clause-few : goal.returns-then-ended-clause-few
returns-then-ended-clause-few g c = omega arith

pub returns-clause-few : goal.returns-clause-few
returns-clause-few g c = c.step.ensures.few

pub returns-in_err-seal-clause-onward : goal.returns-in_err-seal-clause-onward
returns-in_err-seal-clause-onward g c = same_sets c.args.showing.now.board c.seal.new.self.board (ap (λ s. s.board) c.in_err-seal.ensures.err)

pub returns-then-ended-clause-onward : goal.returns-then-ended-clause-onward
returns-then-ended-clause-onward g c = seal_onward c.args.showing.now.board c.seal.new.self.board c.in_ok-seal.ensures.ok.0

pub returns-clause-onward : goal.returns-clause-onward
returns-clause-onward g c = c.step.ensures.onward
