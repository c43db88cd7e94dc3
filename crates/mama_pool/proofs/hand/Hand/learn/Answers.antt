use Rattle.std.proofs.Common.{◌≡◌, ◌≢◌, ◌-◌, ◌<◌, length, refl, sym, ap, ◌∙◌, subst}
use Rattle.crossbeam_deque.specs.Handles.{worker_view}
use Rattle.crossbeam_utils.specs.Seq.{cell_view}
use Rattle.mama_pool.specs.Values.{HandValue, NoteValue, ShareValue, share_in, share_of, learnt_more, after_learn, SamePlaces}
use Rattle.mama_pool.specs.Hand.{IsHand}
use Rattle.mama_pool.proofs.Shares.{hand_of, hand_else, same_places}
use Rattle.mama_pool.proofs.hand.Hand.learn.Goals as goal

pub learn_at-requires-clause-at : goal.learn_at-requires-clause-at
learn_at-requires-clause-at g c =
    subst (λ (h : HandValue). c.note.inside.from < length h.shares) (sym c.self.view_is) (subst (λ (n : NoteValue). n.from < length c.args.self.now.shares) (sym c.note.view_is) c.requires.from.1)

pub learn_at-requires-clause-note : goal.learn_at-requires-clause-note
learn_at-requires-clause-note g c =
    (subst (λ (h : HandValue). c.note.inside.pass.table_id ≡ (share_of h c.note.inside.from).place.tally) (sym c.self.view_is) (subst (λ (n : NoteValue). n.tally ≡ (share_of c.args.self.now n.from).place.tally) (sym c.note.view_is) c.requires.note), c.note.invariant.0)

pub learn_at-requires-clause-plain : goal.learn_at-requires-clause-plain
learn_at-requires-clause-plain g c = c.note.invariant.1

pub invariant_of-self : goal.invariant_of-self
invariant_of-self g c =
    let i = c.self.inside in let from = c.note.inside.from in
    let apart : i.number ≢ from = λ e. c.requires.from.0 (ap (λ (n : NoteValue). n.from) (sym c.note.view_is) ∙ (sym e ∙ ap (λ (h : HandValue). h.number) c.self.view_is)) in
    (c.self.invariant.0, c.self.invariant.1, subst (IsHand i.number _ (worker_view i.home) (cell_view i.opener)) (sym c.learn_at.ensures) (hand_else i.number _ (worker_view i.home) (cell_view i.opener) i.shares.items from _ c.self.invariant.2 apart))

pub returns-clause-learnt : goal.returns-clause-learnt
returns-clause-learnt g c =
    let i = c.self.inside in
    ap (hand_of i.number (worker_view i.home)) c.learn_at.ensures ∙ (λ k. after_learn (c.self.view_is k) (c.note.view_is k))

pub returns-clause-places : goal.returns-clause-places
returns-clause-places g c =
    let i = c.self.inside in
    let room : c.note.inside.from < length i.shares.items = subst (λ (h : HandValue). c.note.inside.from < length h.shares) (sym c.self.view_is) (subst (λ (n : NoteValue). n.from < length c.args.self.now.shares) (sym c.note.view_is) c.requires.from.1) in
    subst (λ (h : HandValue). SamePlaces h (hand_of i.number (worker_view i.home) c.learn_at.new.shares.items)) c.self.view_is
    (refl, ap (Rattle.std.proofs.Common.map (λ (s : ShareValue). s.place)) c.learn_at.ensures ∙ same_places i.shares.items c.note.inside.from (learnt_more (share_in i.shares.items c.note.inside.from) (cell_view c.note.inside.pass).learnt) room refl)
