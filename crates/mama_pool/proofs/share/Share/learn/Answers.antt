use Rattle.std.proofs.Common.{ap, ◌∙◌}
use Rattle.crossbeam_deque.specs.Handles.{view, stealer_deque}
use Rattle.crossbeam_utils.specs.Seq.{cell_view}
use Rattle.mama_pool.specs.Values.{Place, ShareValue, learnt_more}
use Rattle.mama_pool.proofs.Shares.{share_at, learnt_share}
use Rattle.mama_pool.proofs.share.Share.learn.Goals as goal

pub learn-requires-clause-plain : goal.learn-requires-clause-plain
learn-requires-clause-plain g c = c.requires.plain.part

pub invariant_of-self : goal.invariant_of-self
invariant_of-self g c =
    let i = c.self.inside in
    (c.self.invariant.0, c.learn.ensures.pass ∙ c.self.invariant.1, learnt_share (view i.pass) (cell_view i.count) (cell_view c.learn.new.pass) (cell_view c.args.note) c.self.invariant.2 c.learn.ensures.view)

pub returns : goal.returns
returns g c =
    let i = c.self.inside in let place : Place = record { deque = stealer_deque i.reach; tally = i.tally.value.table.shared.table_id } in
    ap (share_at place (view i.pass)) c.learn.ensures.view ∙ ap (λ (s : ShareValue). learnt_more s (cell_view c.args.note).learnt) c.self.view_is
