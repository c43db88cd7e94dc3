use Rattle.std.proofs.Common.{[], ◌∷◌, map, option_to_list, arith}
use Rattle.mama_work.proofs.Weights.{took_follows, looked_follows, follows_then}
use Rattle.mama_work.proofs.serving.next.Goals as goal

pub returns-in-Some : goal.returns-in-Some
returns-in-Some g c =
    let a = c.number-own.ensures.number in let b = c.number-own.ensures.there in
    took_follows c.args.hand.now c.pop.new.self c.args.hand.now.number (g.D.Numbered.numbered c.in-Some.item) (omega arith) c.in-Some.ensures.some c.in-Some.ensures.places

pub returns-in-Some-steal : goal.returns-in-Some-steal
returns-in-Some-steal g c =
    let n = g.D.Numbered.numbered c.in-Some-steal.item in
    follows_then c.args.hand.now c.pop.new.self c.steal.new.hand [] [] (n ∷ []) (looked_follows c.args.hand.now c.pop.new.self c.args.hand.now.number c.in_default.ensures.none.look c.in_default.ensures.places) c.in-Some-steal.ensures

pub returns : goal.returns
returns g c =
    let found = map g.D.Numbered.numbered (option_to_list c.steal-2.result) in
    follows_then c.args.hand.now c.pop.new.self c.steal-2.new.hand [] [] found (looked_follows c.args.hand.now c.pop.new.self c.args.hand.now.number c.in_default.ensures.none.look c.in_default.ensures.places)
    (follows_then c.pop.new.self c.steal.new.hand c.steal-2.new.hand [] [] found c.in_default-steal.ensures c.steal-2.ensures)
