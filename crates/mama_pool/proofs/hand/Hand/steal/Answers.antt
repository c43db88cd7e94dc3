use Rattle.std.proofs.Common.{◌≡◌, ◌<◌, length, IfSome, IfNone, sym, subst}
use Rattle.crossbeam_deque.specs.Handles.{worker_view}
use Rattle.mama_pool.specs.Values.{HandValue, after_take, HasLooked, SamePlaces}
use Rattle.mama_pool.proofs.Shares.{hand_of, moved, moved_hand, moved_places, some_taken, none_looked}
use Rattle.mama_pool.proofs.hand.Hand.steal.Goals as goal

pub take_at-requires : goal.take_at-requires
take_at-requires g c = subst (λ (h : HandValue). c.args.from < length h.shares) (sym c.self.view_is) c.requires.1

pub invariant_of-self : goal.invariant_of-self
invariant_of-self g c =
    let i = c.self.inside in let t = c.take_at.ensures in
    (c.self.invariant.0, c.self.invariant.1, moved_hand _ _ _ _ i.shares.items c.take_at.new.shares.items c.args.from c.self.invariant.2 (moved g.D.Numbered.numbered _ _ c.args.from c.take_at.result t.some t.none) (subst (λ (h : HandValue). c.args.from < length h.shares) (sym c.self.view_is) c.requires.1))

pub returns-clause-some : goal.returns-clause-some
returns-clause-some g c =
    let i = c.self.inside in let t = c.take_at.ensures in
    subst (λ (h : HandValue). IfSome c.take_at.result (λ x. hand_of i.number (worker_view i.home) c.take_at.new.shares.items ≡ after_take h c.args.from (g.D.Numbered.numbered x))) c.self.view_is
    (some_taken g.D.Numbered.numbered i.shares.items c.take_at.new.shares.items c.args.from c.take_at.result t.some t.none i.number (worker_view i.home))

pub returns-clause-none : goal.returns-clause-none
returns-clause-none g c =
    let i = c.self.inside in let t = c.take_at.ensures in
    subst (λ (h : HandValue). IfNone c.take_at.result (HasLooked h c.args.from (hand_of i.number (worker_view i.home) c.take_at.new.shares.items))) c.self.view_is
    ((none_looked g.D.Numbered.numbered i.shares.items c.take_at.new.shares.items c.args.from c.take_at.result t.some t.none i.number (worker_view i.home)))

pub returns-clause-places : goal.returns-clause-places
returns-clause-places g c =
    let i = c.self.inside in let t = c.take_at.ensures in
    subst (λ (h : HandValue). SamePlaces h (hand_of i.number (worker_view i.home) c.take_at.new.shares.items)) c.self.view_is
    (moved_places i.number (worker_view i.home) i.shares.items c.take_at.new.shares.items c.args.from (moved g.D.Numbered.numbered _ _ c.args.from c.take_at.result t.some t.none) (subst (λ (h : HandValue). c.args.from < length h.shares) (sym c.self.view_is) c.requires.1))
