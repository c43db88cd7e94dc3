use Rattle.std.proofs.Common.{◌≡◌, OnOk, OnErr, sym, ap, ◌∙◌, subst, arith}
use Rattle.crossbeam_deque.specs.Handles.{worker_deque, worker_view}
use Rattle.crossbeam_utils.specs.Seq.{cell_view}
use Rattle.mama_pool.specs.Values.{Place, HandValue, after_push, SamePlaces}
use Rattle.mama_pool.specs.Hand.{IsHand}
use Rattle.mama_pool.proofs.Shares.{hand_of, push_hand, push_ok, push_err, push_places}
use Rattle.mama_pool.proofs.hand.Hand.push.Goals as goal

pub push_at-requires-clause-opener : goal.push_at-requires-clause-opener
push_at-requires-clause-opener g c = let d : c.deref.result.now.table.shared.table_id ≡ c.self.inside.tally.value.table.shared.table_id = λ k. (c.deref.ensures k).table.shared.table_id in let H = c.self.invariant.2 in let r = H.rest in let s = H.spare in (c.self.invariant.1 ∙ sym d, omega arith)

pub push_at-requires-clause-own : goal.push_at-requires-clause-own
push_at-requires-clause-own g c = let d : c.deref.result.now.table.shared.table_id ≡ c.self.inside.tally.value.table.shared.table_id = λ k. (c.deref.ensures k).table.shared.table_id in let H = c.self.invariant.2 in (H.numbered, ap (λ (p : Place). p.tally) H.here ∙ sym d)

pub invariant_of-self : goal.invariant_of-self
invariant_of-self g c =
    let i = c.self.inside in let t = c.push_at.ensures in let n = c.push_at.new in
    let place : Place = record { deque = worker_deque i.home; tally = i.tally.value.table.shared.table_id } in
    let now : Place = record { deque = worker_deque n.home; tally = i.tally.value.table.shared.table_id } in
    let same : now ≡ place = λ k. record { deque = t.home.0 k; tally = i.tally.value.table.shared.table_id } in (
      t.home.1,
      t.opener ∙ c.self.invariant.1,
      subst (λ (p : Place). IsHand i.number p (worker_view n.home) (cell_view n.opener) n.shares.items) (sym same)
          (push_hand i.number (g.D.Numbered.numbered c.args.item) place (worker_view i.home) (worker_view n.home) (cell_view i.opener) (cell_view n.opener) i.shares.items n.shares.items c.self.invariant.2 c.push_at.result t.pushed t.counted t.learnt t.left t.uncounted t.unlearnt),
    )

pub returns-clause-ok : goal.returns-clause-ok
returns-clause-ok g c =
    let i = c.self.inside in let t = c.push_at.ensures in let n = c.push_at.new in
    subst (λ (h : HandValue). OnOk c.push_at.result (hand_of i.number (worker_view n.home) n.shares.items ≡ after_push h (g.D.Numbered.numbered c.args.item))) c.self.view_is
    (push_ok i.number (g.D.Numbered.numbered c.args.item) _ (worker_view i.home) (worker_view n.home) (cell_view i.opener) (cell_view n.opener) i.shares.items n.shares.items c.self.invariant.2 c.push_at.result t.pushed t.counted t.learnt)

pub returns-clause-err : goal.returns-clause-err
returns-clause-err g c =
    let i = c.self.inside in let t = c.push_at.ensures in let n = c.push_at.new in
    subst (λ (h : HandValue). OnErr c.push_at.result (hand_of i.number (worker_view n.home) n.shares.items ≡ h)) c.self.view_is
    (push_err i.number (g.D.Numbered.numbered c.args.item) _ (worker_view i.home) (worker_view n.home) (cell_view i.opener) (cell_view n.opener) i.shares.items n.shares.items c.self.invariant.2 c.push_at.result t.left t.unlearnt)

pub returns-clause-places : goal.returns-clause-places
returns-clause-places g c =
    let i = c.self.inside in let t = c.push_at.ensures in let n = c.push_at.new in
    subst (λ (h : HandValue). SamePlaces h (hand_of i.number (worker_view n.home) n.shares.items)) c.self.view_is
    (push_places i.number (g.D.Numbered.numbered c.args.item) _ (worker_view i.home) (worker_view n.home) (cell_view i.opener) (cell_view n.opener) i.shares.items n.shares.items c.self.invariant.2 c.push_at.result t.learnt t.unlearnt)
