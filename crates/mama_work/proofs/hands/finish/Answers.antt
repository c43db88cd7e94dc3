use Rattle.std.proofs.Common.{ap, ◌∙◌}
use Rattle.mama_work.specs.Serving.{numbers_of}
use Rattle.mama_work.proofs.AllHands.{pool_placed, same_numbers, finished}
use Rattle.mama_work.proofs.hands.finish.Goals as goal

pub close_pool-requires : goal.close_pool-requires
close_pool-requires g c = pool_placed c.args.hands.items c.empty_all-are_empty.new.hands.items c.requires.pool c.empty_all-are_empty.ensures.hands.1

pub returns-clause-all : goal.returns-clause-all
returns-clause-all g c = λ holds weight.
    let both = c.hold_both-ended.ensures holds in
    let numbers = numbers_of g.S.Seat.acts in
    let hands = c.empty_all-are_empty.new.hands.items in
    let pool = pool_placed c.args.hands.items hands c.requires.pool c.empty_all-are_empty.ensures.hands.1 in
    let gone = c.all_was_taken.ensures hands pool c.close_pool.ensures (c.empty_all-are_empty.ensures.all both.1) weight in
    let same = same_numbers g.S.Seat.acts c.work-seats.result.seats.items c.in-Ok.seats.items c.work-seats.ensures.actors ∙ ap numbers c.in-Ok.ensures.all in
    finished c.args.hands.items hands (numbers c.args.kept.items) (numbers c.empty_all-are_empty.new.taken.items) (numbers c.work-seats.result.seats.items) weight c.empty_all-are_empty.ensures.hands.0 gone same
