use Rattle.std.proofs.Common.{[], ◌∷◌, length, ap, ◌∙◌, subst, length-append, arith}
use Rattle.mama_pool.specs.Deal.{IsPart}
use Rattle.mama_pool.proofs.Closings.{part_whole, part_none, column_places, last_number, last_width, last_room, rest_numbered, last_column, rest_part, closed_next}
use Rattle.mama_pool.proofs.close.close_pool.Goals as goal

pub loop-hand-init : goal.loop-hand-init
loop-hand-init g c = record { part = part_whole c.args.hands.items c.requires; closed = λ i above below. absurd (omega arith) }

pub deal-requires-clause-hands : goal.deal-requires-clause-hands
deal-requires-clause-hands g c =
    let rest = c.pop.new.self.items in let h = c.in-Some.hand in
    let part = subst (IsPart c.args.hands.items) c.in-Some.ensures.items c.loop-hand.invariant.part in
    rest_numbered c.args.hands.items rest h part

pub deal-requires-clause-hand : goal.deal-requires-clause-hand
deal-requires-clause-hand g c =
    let rest = c.pop.new.self.items in let h = c.in-Some.hand in
    let part = subst (IsPart c.args.hands.items) c.in-Some.ensures.items c.loop-hand.invariant.part in
    let n = last_number c.args.hands.items rest h part in let w = last_width c.args.hands.items rest h part in let r = last_room c.args.hands.items rest h part in
    (n, omega arith)

pub close_deque-requires : goal.close_deque-requires
close_deque-requires g c =
    let hands = c.args.hands.items in let rest = c.pop.new.self.items in let h = c.in-Some.hand in
    let part = subst (IsPart hands) c.in-Some.ensures.items c.loop-hand.invariant.part in let S = c.deal.ensures.dealt in
    column_places hands c.requires c.deal.new.hand (length rest) (last_room hands rest h part) (S.number ∙ last_number hands rest h part) (last_column hands rest h part c.deal.new.hands.items c.deal.new.hand S)

pub loop-hand-preserved : goal.loop-hand-preserved
loop-hand-preserved g c =
    let hands = c.args.hands.items in let rest = c.pop.new.self.items in let h = c.in-Some.hand in
    let popped = c.in-Some.ensures.items in let i = c.loop-hand.invariant in
    let part = subst (IsPart hands) popped i.part in let S = c.deal.ensures.dealt in
    let l = ap length popped in record {
      part = rest_part hands rest h part c.deal.new.hands.items c.deal.new.hand S;
      closed = closed_next hands rest h part c.deal.new.hands.items c.deal.new.hand S c.close_deque.ensures (λ k above below. i.closed k (omega arith) below);
    }

pub loop-hand-smaller : goal.loop-hand-smaller
loop-hand-smaller g c =
    let popped = c.in-Some.ensures.items in let l = ap length popped in let a = length-append c.pop.new.self.items (c.in-Some.hand ∷ []) in let s = c.deal.ensures.dealt.count in omega arith

pub returns : goal.returns
returns g c = let none = c.in_default.ensures.cases.0 in part_none c.args.hands.items c.requires (λ i below. c.loop-hand.invariant.closed i (omega (arith, c.loop-hand.hands.ok.0)) below)
