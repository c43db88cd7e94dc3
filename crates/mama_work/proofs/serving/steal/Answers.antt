use Rattle.std.proofs.Common.{[], ◌∷◌, arith}
use Rattle.mama_work.proofs.Weights.{same_width, took_follows, looked_follows, follows_then}
use Rattle.mama_work.proofs.serving.steal.Goals as goal

pub returns-in-Some : goal.returns-in-Some
returns-in-Some g c =
    let n = g.D.Numbered.numbered c.in-Some.item in
    let w = same_width c.args.hand.now c.loop-from.hand c.loop-from.invariant.1 in let e = c.requires.end in let t = c.loop-from-test.true in
    follows_then c.args.hand.now c.loop-from.hand c.steal.new.self [] [] (n ∷ []) c.loop-from.invariant (took_follows c.loop-from.hand c.steal.new.self c.loop-from.from n (omega arith) c.in-Some.ensures.some c.in-Some.ensures.places)

pub loop-from-preserved : goal.loop-from-preserved
loop-from-preserved g c = follows_then c.args.hand.now c.loop-from.hand c.steal.new.self [] [] [] c.loop-from.invariant (looked_follows c.loop-from.hand c.steal.new.self c.loop-from.from c.in_default.ensures.none c.in_default.ensures.places)
