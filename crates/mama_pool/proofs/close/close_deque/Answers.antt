use Rattle.std.proofs.Common.{◌≡◌, ◌+◌, length, map, All, sym, ap, ◌∙◌, subst, arith}
use Rattle.crossbeam_deque.specs.Handles.{worker_deque, worker_view}
use Rattle.crossbeam_utils.specs.Seq.{cell_view}
use Rattle.mama_pool.specs.declared.view.View.{View}
use Rattle.mama_pool.specs.declared.view.Count.{Count}
use Rattle.mama_pool.specs.Values.{Place, HandValue, own_share, Closed}
use Rattle.mama_pool.specs.Steps.{joined_all, added_all}
use Rattle.mama_pool.specs.Rule.{AreSettled, IsSettled}
use Rattle.mama_pool.proofs.Shares.{hand_of, home_is, opener_is}
use Rattle.mama_pool.proofs.Joins.{joined_shares, added_shares, closes}
use Rattle.mama_pool.proofs.close.close_deque.Goals as goal

pub join_all-requires-clause-shares : goal.join_all-requires-clause-shares
join_all-requires-clause-shares g c =
    let shares = c.hand.inside.shares.items in
    let d : c.deref.result.now.table.shared.table_id ≡ c.hand.inside.tally.value.table.shared.table_id = λ k. (c.deref.ensures k).table.shared.table_id in
    let here : (own_share (hand_of c.hand.inside.number (worker_view c.hand.inside.home) shares)).place ≡ record { deque = worker_deque c.hand.inside.home; tally = c.deref.result.now.table.shared.table_id } =
    c.hand.invariant.2.here ∙ (λ k. record { deque = worker_deque c.hand.inside.home; tally = sym d k }) in
    subst (λ (p : Place). All (λ s. s.place ≡ p) shares) here (subst (λ (h : HandValue). All (λ s. s.place ≡ (own_share h).place) h.shares) (sym c.hand.view_is) c.requires)

pub settle_deque-requires-clause-whole : goal.settle_deque-requires-clause-whole
settle_deque-requires-clause-whole g c = ap (λ (v : View). v.shares) c.join_all.ensures.view ∙ (joined_shares c.hand.inside.shares.items (worker_view c.hand.inside.home) ∙ c.hand.invariant.2.whole)

pub settle_tally-requires-clause-whole : goal.settle_tally-requires-clause-whole
settle_tally-requires-clause-whole g c =
    let H = c.hand.invariant.2 in let w = H.whole in let r = H.rest in let a = added_shares c.hand.inside.shares.items (cell_view c.hand.inside.opener) in
    ap (λ (v : Count). v.shares) c.join_all.ensures.count ∙ (a ∙ (let e : (cell_view c.hand.inside.opener).shares + length c.hand.inside.shares.items ≡ 65 = omega arith in e))

pub returns : goal.returns
returns g c =
    let i = c.hand.inside in let H = c.hand.invariant.2 in let shares = i.shares.items in
    let home = home_is i.number _ (worker_view i.home) (cell_view i.opener) shares H in let opener = opener_is i.number _ (worker_view i.home) (cell_view i.opener) shares H in
    let A = c.settle_deque.ensures in let S = c.settle_tally.ensures in
    subst (λ (h : HandValue). Closed h.pushed h.shares) c.hand.view_is
    (closes (worker_view i.home).shares (worker_view i.home).pushed (map g.D.Numbered.numbered A.0) S.0 shares
    (subst (λ (v : View). AreSettled v (map g.D.Numbered.numbered A.0)) (c.join_all.ensures.view ∙ ap (λ (v : View). joined_all v shares) home) A.1)
    (subst (λ (v : Count). IsSettled v S.0) (c.join_all.ensures.count ∙ ap (λ (v : Count). added_all v shares) opener) S.1))
