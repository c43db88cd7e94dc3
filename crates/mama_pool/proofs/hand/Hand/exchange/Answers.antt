use Rattle.std.proofs.Common.{◌≢◌, ◌<◌, length, sym, ap, ◌∙◌, subst}
use Rattle.crossbeam_deque.specs.Handles.{worker_view}
use Rattle.crossbeam_utils.specs.Seq.{cell_view}
use Rattle.mama_pool.specs.Values.{HandValue, share_of, with_share}
use Rattle.mama_pool.specs.Hand.{IsHand}
use Rattle.mama_pool.proofs.Shares.{hand_of, hand_else}
use Rattle.mama_pool.proofs.hand.Hand.exchange.Goals as goal

pub exchange_at-requires-clause-first : goal.exchange_at-requires-clause-first
exchange_at-requires-clause-first g c =
    subst (λ (h : HandValue). c.other.inside.number < length h.shares) (sym c.self.view_is) (subst (λ (o : HandValue). o.number < length c.args.self.now.shares) (sym c.other.view_is) c.requires.numbers.1)

pub exchange_at-requires-clause-other : goal.exchange_at-requires-clause-other
exchange_at-requires-clause-other g c =
    subst (λ (h : HandValue). c.self.inside.number < length h.shares) (sym c.other.view_is) (subst (λ (o : HandValue). o.number < length c.args.other.now.shares) (sym c.self.view_is) c.requires.numbers.0)

pub invariant_of-self : goal.invariant_of-self
invariant_of-self g c =
    let i = c.self.inside in let o = c.other.inside in
    let apart : i.number ≢ o.number = λ e. c.requires.apart (ap (λ (h : HandValue). h.number) (sym c.self.view_is) ∙ (e ∙ ap (λ (h : HandValue). h.number) c.other.view_is)) in
    (c.self.invariant.0, c.self.invariant.1, subst (IsHand i.number _ (worker_view i.home) (cell_view i.opener)) (sym c.exchange_at.ensures.first) (hand_else i.number _ (worker_view i.home) (cell_view i.opener) i.shares.items o.number _ c.self.invariant.2 apart))

pub invariant_of-other : goal.invariant_of-other
invariant_of-other g c =
    let i = c.self.inside in let o = c.other.inside in
    let apart : o.number ≢ i.number = λ e. c.requires.apart (ap (λ (h : HandValue). h.number) (sym c.self.view_is) ∙ (sym e ∙ ap (λ (h : HandValue). h.number) c.other.view_is)) in
    (c.other.invariant.0, c.other.invariant.1, subst (IsHand o.number _ (worker_view o.home) (cell_view o.opener)) (sym c.exchange_at.ensures.other) (hand_else o.number _ (worker_view o.home) (cell_view o.opener) o.shares.items i.number _ c.other.invariant.2 apart))

pub returns-clause-mine : goal.returns-clause-mine
returns-clause-mine g c =
    let i = c.self.inside in
    ap (hand_of i.number (worker_view i.home)) c.exchange_at.ensures.first ∙ (λ k. let h = c.self.view_is k in let o = c.other.view_is k in with_share h o.number (share_of o h.number))

pub returns-clause-theirs : goal.returns-clause-theirs
returns-clause-theirs g c =
    let o = c.other.inside in
    ap (hand_of o.number (worker_view o.home)) c.exchange_at.ensures.other ∙ (λ k. let h = c.self.view_is k in let o = c.other.view_is k in with_share o h.number (share_of h o.number))
