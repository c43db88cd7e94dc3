use Rattle.std.proofs.Common.{sym, ap, ◌∙◌, subst}
use Rattle.crossbeam_deque.specs.Handles.{worker_deque, worker_view}
use Rattle.crossbeam_utils.specs.Seq.{cell_view}
use Rattle.mama_pool.specs.declared.view.Count.{Count}
use Rattle.mama_pool.specs.Values.{Place, note_of}
use Rattle.mama_pool.specs.Hand.{IsHand}
use Rattle.mama_pool.proofs.Shares.{noted_is, told}
use Rattle.mama_pool.proofs.hand.Hand.tell.Goals as goal

pub invariant_of-self : goal.invariant_of-self
invariant_of-self g c =
    let t = c.tell-pass.ensures in let i = c.self.inside in
    let place : Place = record { deque = worker_deque i.home; tally = i.tally.value.table.shared.table_id } in
    (c.self.invariant.0, t.pass ∙ c.self.invariant.1, subst (λ (o : Count). IsHand i.number place (worker_view i.home) o i.shares.items) (sym t.view) c.self.invariant.2)

pub invariant_of-result : goal.invariant_of-result
invariant_of-result g c = let t = c.tell-pass.ensures in (t.note.1, noted_is (cell_view c.self.inside.opener) (cell_view c.tell-pass.result) t.note.2)

pub returns-clause-note : goal.returns-clause-note
returns-clause-note g c =
    let i = c.self.inside in let t = c.tell-pass.ensures in
    told i.number _ (worker_view i.home) (cell_view i.opener) i.shares.items c.tell-pass.result.table_id (cell_view c.tell-pass.result) c.self.invariant.2 (t.note.0 ∙ c.self.invariant.1) t.note.2 ∙ ap note_of c.self.view_is
