use Rattle.std.proofs.Common.{◌≡◌, IfSome, IfNone, subst}
use Rattle.crossbeam_deque.specs.Handles.{worker_view}
use Rattle.mama_pool.specs.Values.{HandValue, after_take, KnowsAll, SamePlaces}
use Rattle.mama_pool.proofs.Shares.{hand_of, moved, moved_hand, moved_places, some_taken, none_looked, none_left}
use Rattle.mama_pool.proofs.hand.Hand.pop.Goals as goal

pub take_at-requires : goal.take_at-requires
take_at-requires g c = c.self.invariant.2.numbered

pub invariant_of-self : goal.invariant_of-self
invariant_of-self g c =
    let i = c.self.inside in let t = c.take_at.ensures in
    (c.self.invariant.0, c.self.invariant.1, moved_hand _ _ _ _ i.shares.items c.take_at.new.shares.items i.number c.self.invariant.2 (moved g.D.Numbered.numbered _ _ i.number c.take_at.result t.some t.none) c.self.invariant.2.numbered)

pub returns-clause-some : goal.returns-clause-some
returns-clause-some g c =
    let i = c.self.inside in let t = c.take_at.ensures in
    subst (λ (h : HandValue). IfSome c.take_at.result (λ x. hand_of i.number (worker_view i.home) c.take_at.new.shares.items ≡ after_take h h.number (g.D.Numbered.numbered x))) c.self.view_is
    (some_taken g.D.Numbered.numbered i.shares.items c.take_at.new.shares.items i.number c.take_at.result t.some t.none i.number (worker_view i.home))

pub returns-clause-none : goal.returns-clause-none
returns-clause-none g c =
    let i = c.self.inside in let t = c.take_at.ensures in
    subst (λ (h : HandValue). IfNone c.take_at.result (KnowsAll h (hand_of i.number (worker_view i.home) c.take_at.new.shares.items))) c.self.view_is
    (none_left i.number _ (worker_view i.home) _ i.shares.items c.take_at.new.shares.items c.take_at.result c.self.invariant.2 (none_looked g.D.Numbered.numbered i.shares.items c.take_at.new.shares.items i.number c.take_at.result t.some t.none i.number (worker_view i.home)))

pub returns-clause-places : goal.returns-clause-places
returns-clause-places g c =
    let i = c.self.inside in let t = c.take_at.ensures in
    subst (λ (h : HandValue). SamePlaces h (hand_of i.number (worker_view i.home) c.take_at.new.shares.items)) c.self.view_is
    (moved_places i.number (worker_view i.home) i.shares.items c.take_at.new.shares.items i.number (moved g.D.Numbered.numbered _ _ i.number c.take_at.result t.some t.none) c.self.invariant.2.numbered)
