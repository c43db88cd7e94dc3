use Rattle.std.proofs.Common.{ℕ, [], ◌∷◌, length, sym, ap, subst, length-append, arith}
use Rattle.mama_pool.specs.Deal.{AreNumbered, IsDealing, IsUndealt}
use Rattle.mama_pool.proofs.Openings.{dealing_none, dealing_numbered, undealt_number, undealt_width, dealing_more, dealing_all, new_is_pool}
use Rattle.mama_pool.proofs.open.open_pool.Goals as goal

pub loop-number-init : goal.loop-number-init
loop-number-init g c = let e = c.in_ok-hands.ensures.items in let x = c.in_ok-hands.ensures.exact in record {
  dealing = subst (IsDealing c.args.workers) (sym e) (dealing_none c.args.workers);
  count = ap length e;
  room = omega arith;
}

pub deal-requires-clause-hands : goal.deal-requires-clause-hands
deal-requires-clause-hands g c =
    let U = c.in_ok-hand.ensures in
    subst (λ (n : ℕ). AreNumbered n c.loop-number.hands.items) (sym (undealt_width c.loop-number.number c.args.workers c.in_ok-hand.hand U)) (dealing_numbered c.args.workers c.loop-number.hands.items c.loop-number.invariant.dealing)

pub deal-requires-clause-hand : goal.deal-requires-clause-hand
deal-requires-clause-hand g c =
    let U = c.in_ok-hand.ensures in let n = undealt_number c.loop-number.number c.args.workers c.in_ok-hand.hand U in let w = undealt_width c.loop-number.number c.args.workers c.in_ok-hand.hand U in let k = c.loop-number.invariant.count in
    (omega arith, omega arith)

pub loop-number-preserved : goal.loop-number-preserved
loop-number-preserved g c =
    let i = c.loop-number.invariant in let k = i.count in
    let U : IsUndealt (length c.loop-number.hands.items) c.args.workers c.in_ok-hand.hand = subst (λ (n : ℕ). IsUndealt n c.args.workers c.in_ok-hand.hand) (sym k) c.in_ok-hand.ensures in
    let S = c.deal.ensures.dealt in let e = c.push_reserved.ensures.items in
    let s = S.count in let a = length-append c.deal.new.hands.items (c.deal.new.hand ∷ []) in let l = ap length e in let r = i.room in let q = c.deal.ensures.room in record {
      dealing = subst (IsDealing c.args.workers) (sym e) (dealing_more c.args.workers c.loop-number.hands.items c.deal.new.hands.items c.in_ok-hand.hand c.deal.new.hand i.dealing U S (omega arith));
      count = omega arith;
      room = omega (arith, c.push_reserved.ensures.capacity);
    }

pub returns-clause-new : goal.returns-clause-new
returns-clause-new g c = let k = c.loop-number.invariant.count in dealing_all c.args.workers c.loop-number.hands.items c.loop-number.invariant.dealing (omega arith)

pub returns-clause-pool : goal.returns-clause-pool
returns-clause-pool g c = new_is_pool c.args.workers c.loop-number.hands.items (returns-clause-new g c)
