use Rattle.std.proofs.Common.{◌≡◌, IfSome, IfNone, sym, ◌∙◌, subst, arith}
use Rattle.crossbeam_deque.specs.Handles.{view, stealer_deque}
use Rattle.crossbeam_utils.specs.Seq.{cell_view}
use Rattle.mama_pool.specs.Values.{Place, ShareValue, taken_more, IsAfterLook}
use Rattle.mama_pool.proofs.Shares.{share_at, still_share, some_share, none_share}
use Rattle.mama_pool.proofs.share.Share.take.Goals as goal

pub take_or_look-requires-clause-pass : goal.take_or_look-requires-clause-pass
take_or_look-requires-clause-pass g c = let s = c.self.invariant.2.share in (c.self.invariant.0, omega arith)

pub take_or_look-requires-clause-count : goal.take_or_look-requires-clause-count
take_or_look-requires-clause-count g c = let d : c.deref.result.now.table.shared.table_id ≡ c.self.inside.tally.value.table.shared.table_id = λ k. (c.deref.ensures k).table.shared.table_id in let s = c.self.invariant.2.part in (c.self.invariant.1 ∙ sym d, omega arith)

pub invariant_of-self : goal.invariant_of-self
invariant_of-self g c =
    let i = c.self.inside in let t = c.take_or_look.ensures in
    (t.pass, t.count ∙ c.self.invariant.1, still_share g.D.Numbered.numbered (view i.pass) (view c.take_or_look.new.pass) (cell_view i.count) (cell_view c.take_or_look.new.count) c.take_or_look.result c.self.invariant.2 t.took t.counted t.left t.looked)

pub returns-clause-some : goal.returns-clause-some
returns-clause-some g c =
    let i = c.self.inside in let t = c.take_or_look.ensures in let place : Place = record { deque = stealer_deque i.reach; tally = i.tally.value.table.shared.table_id } in
    subst (λ (s : ShareValue). IfSome c.take_or_look.result (λ x. share_at place (view c.take_or_look.new.pass) (cell_view c.take_or_look.new.count) ≡ taken_more s (g.D.Numbered.numbered x))) c.self.view_is
    (some_share g.D.Numbered.numbered place (view i.pass) (view c.take_or_look.new.pass) (cell_view i.count) (cell_view c.take_or_look.new.count) c.take_or_look.result t.took t.counted)

pub returns-clause-none : goal.returns-clause-none
returns-clause-none g c =
    let i = c.self.inside in let t = c.take_or_look.ensures in let place : Place = record { deque = stealer_deque i.reach; tally = i.tally.value.table.shared.table_id } in
    subst (λ (s : ShareValue). IfNone c.take_or_look.result (IsAfterLook s (share_at place (view c.take_or_look.new.pass) (cell_view c.take_or_look.new.count)))) c.self.view_is
    (none_share place (view i.pass) (view c.take_or_look.new.pass) (cell_view i.count) (cell_view c.take_or_look.new.count) c.take_or_look.result t.left t.looked)
