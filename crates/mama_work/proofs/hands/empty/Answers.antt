use Rattle.std.proofs.Common.{List, ◌∷◌, [], ◌++◌, map, sym, ap, ◌∙◌, subst, arith}
use Rattle.mama_work.specs.Serving.{Follows}
use Rattle.mama_work.proofs.Weights.{same_width, took_follows, looked_follows, one_more_had, nothing_beside, follows_none, follows_then}
use Rattle.mama_work.proofs.AllHands.{knows_empty}
use Rattle.mama_work.proofs.hands.empty.Goals as goal

pub loop-init : goal.loop-init
loop-init g c =
    let a = c.number-own.ensures.number in let b = c.number-own.ensures.there in
    record { there = omega arith; follows = follows_none c.args.hand.now _ }

pub returns-then-is_err-clause-hand : goal.returns-then-is_err-clause-hand
returns-then-is_err-clause-hand g c =
    let f = g.D.Numbered.numbered in
    subst (λ (xs : List g.row.D.Denot). Follows c.args.hand.now c.loop.hand (map f c.args.taken.now.items) (map f xs)) (sym {A = List g.row.D.Denot} c.reserve.ensures.items) c.loop.invariant.follows

pub loop-preserved : goal.loop-preserved
loop-preserved g c =
    let f = g.D.Numbered.numbered in
    let h = c.args.hand.now in let k = c.loop.hand in let l = c.pop.new.self in
    let more = c.push_reserved.ensures.items ∙ ap (λ (xs : List g.row.D.Denot). xs ++ c.in-Some-pop.item ∷ []) c.reserve.ensures.items in
    let took = took_follows k l k.number (f c.in-Some-pop.item) c.loop.invariant.there c.in-Some-pop.ensures.some c.in-Some-pop.ensures.places in
    let w = same_width k l c.in-Some-pop.ensures.places in let n = c.in-Some-pop.ensures.places.0 in let t = c.loop.invariant.there in
    record {
      there = omega arith;
      follows = follows_then h k l (map f c.args.taken.now.items) (map f c.loop.taken.items) (map f c.push_reserved.new.self.items) c.loop.invariant.follows (one_more_had f k l c.loop.taken.items c.push_reserved.new.self.items c.in-Some-pop.item more took);
    }

pub returns-in-None-pop-clause-hand : goal.returns-in-None-pop-clause-hand
returns-in-None-pop-clause-hand g c =
    let f = g.D.Numbered.numbered in
    let h = c.args.hand.now in let k = c.loop.hand in let l = c.pop.new.self in
    let looked = looked_follows k l k.number c.in-None-pop.ensures.none.look c.in-None-pop.ensures.places in
    let all = follows_then h k l (map f c.args.taken.now.items) (map f c.loop.taken.items) (map f c.loop.taken.items) c.loop.invariant.follows (nothing_beside k l (map f c.loop.taken.items) looked) in
    subst (λ (xs : List g.row.D.Denot). Follows h l (map f c.args.taken.now.items) (map f xs)) (sym {A = List g.row.D.Denot} c.reserve.ensures.items) all

pub returns-in-None-pop-clause-all : goal.returns-in-None-pop-clause-all
returns-in-None-pop-clause-all g c = λ holds. knows_empty c.loop.hand c.pop.new.self c.in-None-pop.ensures.none
