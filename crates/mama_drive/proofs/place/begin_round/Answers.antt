use Rattle.mama_drive.proofs.PlaceLemmas.{rounds_rest, round_begins}
use Rattle.mama_drive.proofs.place.begin_round.Goals as goal

pub returns-then-rests : goal.returns-then-rests
returns-then-rests c = λ o. rounds_rest o c.args.run.now c.rests.new.self (c.rests.ensures.rounds c.if-rests.true) (c.rests.ensures.clock c.if-rests.true o) c.rests.ensures.journals

pub returns : goal.returns
returns c = λ o. round_begins o c.args.run.now c.rests.new.self (c.rests.ensures.same c.if-rests.false)
