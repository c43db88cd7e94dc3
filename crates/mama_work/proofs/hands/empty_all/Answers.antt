use Rattle.std.proofs.Common.{◌<◌, length, map, refl, ◌∙◌, arith}
use Rattle.std.proofs.lemmas.List.{length-set}
use Rattle.std.proofs.lemmas.List.Elements.{All-from_get_or}
use Rattle.mama_pool.specs.Values.{KnowsEmpty}
use Rattle.mama_pool.specs.Deal.{no_hand}
use Rattle.mama_work.proofs.AllHands.{all_none, all_then, read_follows, one_more_empty}
use Rattle.mama_work.proofs.hands.empty_all.Goals as goal

pub loop-i-init : goal.loop-i-init
loop-i-init g c = record { count = refl; follows = all_none c.args.hands.now.items _; empty = λ j below. absurd (omega arith) }

pub returns-then-not-empty-clause-hands : goal.returns-then-not-empty-clause-hands
returns-then-not-empty-clause-hands g c =
    let f = g.D.Numbered.numbered in
    let hands = c.loop-i.hands.items in let i = c.loop-i.i in
    let here : i < length hands = omega (arith, c.loop-i.invariant.count, c.len-i-end.ensures, c.args.hands.now.ok.0) in
    all_then c.args.hands.now.items hands _ (map f c.args.taken.now.items) (map f c.loop-i.taken.items) (map f c.empty.new.taken.items) c.loop-i.invariant.follows (read_follows hands i c.index_mut.result.now c.empty.new.hand _ _ here c.index_mut.ensures.value c.empty.ensures.hand)

pub loop-i-preserved : goal.loop-i-preserved
loop-i-preserved g c =
    let f = g.D.Numbered.numbered in
    let hands = c.loop-i.hands.items in let i = c.loop-i.i in
    let here : i < length hands = omega (arith, c.loop-i.invariant.count, c.len-i-end.ensures, c.args.hands.now.ok.0) in
    record {
      count = length-set hands i c.empty.new.hand ∙ c.loop-i.invariant.count;
      follows = all_then c.args.hands.now.items hands _ (map f c.args.taken.now.items) (map f c.loop-i.taken.items) (map f c.empty.new.taken.items) c.loop-i.invariant.follows
          (read_follows hands i c.index_mut.result.now c.empty.new.hand _ _ here c.index_mut.ensures.value c.empty.ensures.hand);
      empty = one_more_empty hands i c.empty.new.hand here (c.empty.ensures.all c.if-not-empty.false) c.loop-i.invariant.empty;
    }

pub returns-clause-hands : goal.returns-clause-hands
returns-clause-hands g c = c.loop-i.invariant.follows

pub returns-clause-all : goal.returns-clause-all
returns-clause-all g c = λ holds.
    All-from_get_or KnowsEmpty c.loop-i.hands.items no_hand (λ j lt. c.loop-i.invariant.empty j (omega (arith, c.loop-i.invariant.count, c.len-i-end.ensures, c.args.hands.now.ok.0, c.loop-i-test.false)))
