use Rattle.std.proofs.Common.{◌≡◌, ap, ◌∙◌, subst}
use Rattle.crossbeam_deque.specs.Handles.{IsPassOf, stealer_deque, worker_deque, worker_view}
use Rattle.crossbeam_utils.specs.Seq.{cell_view}
use Rattle.atomic_blocks.specs.Lent.{RowsId}
use Rattle.std.specs.declared.alloc.Global.{Global}
use Rattle.mama_pool.specs.Values.{Place, ShareValue}
use Rattle.mama_pool.specs.Steps.{joined, added, share_view, share_count}
use Rattle.mama_pool.proofs.Shares.{view_is, count_is}
use Rattle.mama_pool.proofs.close.join.Goals as goal

pub join_deque-requires-clause-pass : goal.join_deque-requires-clause-pass
join_deque-requires-clause-pass g c =
    let e : stealer_deque c.share.inside.reach ≡ worker_deque c.args.home.now = ap (λ (s : ShareValue). s.place.deque) c.share.view_is ∙ ap (λ (p : Place). p.deque) c.requires.share in
    subst (λ (d : RowsId × Global). IsPassOf d c.share.inside.pass) e c.share.invariant.0

pub join_tally-requires-clause-other : goal.join_tally-requires-clause-other
join_tally-requires-clause-other g c = c.share.invariant.1 ∙ (ap (λ (s : ShareValue). s.place.tally) c.share.view_is ∙ ap (λ (p : Place). p.tally) c.requires.share)

pub returns-clause-view : goal.returns-clause-view
returns-clause-view g c = c.join_deque.ensures.view ∙ ap (joined (worker_view c.args.home.now)) (view_is _ _ c.share.invariant.2 ∙ ap share_view c.share.view_is)

pub returns-clause-count : goal.returns-clause-count
returns-clause-count g c = c.join_tally.ensures.view ∙ ap (added (cell_view c.args.opener.now)) (count_is _ _ c.share.invariant.2 ∙ ap share_count c.share.view_is)
