use Rattle.std.proofs.Common.{◌≡◌, ℕ, ◌<◌, length, refl, subst, arith}
use Rattle.mama_pool.specs.Deal.{IsDealt}
use Rattle.mama_pool.proofs.Deals.{deal_none, deal_read, deal_more}
use Rattle.mama_pool.proofs.open.deal.Goals as goal

pub loop-i-init : goal.loop-i-init
loop-i-init g c = record { dealt = deal_none _ _; room = refl }

pub exchange-requires-clause-apart : goal.exchange-requires-clause-apart
exchange-requires-clause-apart g c =
    let D = c.loop-i.invariant.dealt in
    let here : c.loop-i.i < length c.args.hands.now.items = omega (arith, c.len-i-end.ensures, c.args.hands.now.ok.0) in
    let r = deal_read c.loop-i.i _ c.args.hands.now.items c.loop-i.hands.items c.args.hand.now c.loop-i.hand c.index_mut.result.now D c.requires.hands here c.index_mut.ensures.value in
    let n = D.number in let h = c.requires.hand.0 in let x = r.0 in λ e. absurd (omega arith)

pub exchange-requires-clause-numbers : goal.exchange-requires-clause-numbers
exchange-requires-clause-numbers g c =
    let D = c.loop-i.invariant.dealt in
    let here : c.loop-i.i < length c.args.hands.now.items = omega (arith, c.len-i-end.ensures, c.args.hands.now.ok.0) in
    let r = deal_read c.loop-i.i _ c.args.hands.now.items c.loop-i.hands.items c.args.hand.now c.loop-i.hand c.index_mut.result.now D c.requires.hands here c.index_mut.ensures.value in
    let n = D.number in let h = c.requires.hand.0 in let b = c.requires.hand.1 in let w = D.width in let x = r.0 in let y = r.1 in (omega arith, omega arith)

pub loop-i-preserved : goal.loop-i-preserved
loop-i-preserved g c =
    let D = c.loop-i.invariant.dealt in
    let here : c.loop-i.i < length c.args.hands.now.items = omega (arith, c.len-i-end.ensures, c.args.hands.now.ok.0) in
    let b = c.requires.hand.1 in record {
      dealt = deal_more c.loop-i.i c.args.hands.now.items c.loop-i.hands.items c.args.hand.now c.loop-i.hand c.index_mut.result.now c.exchange.new.self c.exchange.new.other D c.requires.hands here (omega arith)
          c.index_mut.ensures.value c.exchange.ensures.mine c.exchange.ensures.theirs;
      room = c.loop-i.invariant.room;
    }

pub returns-clause-dealt : goal.returns-clause-dealt
returns-clause-dealt g c =
    let all : c.loop-i.i ≡ length c.args.hands.now.items = omega (arith, c.len-i-end.ensures, c.args.hands.now.ok.0) in
    subst (λ (k : ℕ). IsDealt k c.args.hands.now.items c.loop-i.hands.items c.args.hand.now c.loop-i.hand) all c.loop-i.invariant.dealt
