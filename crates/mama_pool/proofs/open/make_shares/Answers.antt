use Rattle.std.proofs.Common.{◌≡◌, ℕ, ◌+◌, ◌-◌, [], ◌∷◌, ◌++◌, ap, ◌∙◌, arith}
use Rattle.crossbeam_deque.specs.Handles.{worker_deque}
use Rattle.mama_pool.specs.declared.view.View.{View}
use Rattle.mama_pool.specs.declared.view.Count.{Count}
use Rattle.mama_pool.specs.Values.{new_share}
use Rattle.mama_pool.specs.Steps.{without_share, without_part, view_of, count_of}
use Rattle.mama_pool.proofs.Shares.{replicate_more}
use Rattle.mama_pool.proofs.open.make_shares.Goals as goal

pub make_share-requires-clause-home : goal.make_share-requires-clause-home
make_share-requires-clause-home g c = let i = c.loop.invariant in let s = ap (λ (v : View). v.shares) i.home.2 in let w = c.requires.workers in (i.home.1, omega arith)

pub make_share-requires-clause-opener : goal.make_share-requires-clause-opener
make_share-requires-clause-opener g c = let i = c.loop.invariant in let s = ap (λ (v : Count). v.shares) i.opener.1 in let w = c.requires.workers in (i.opener.0 ∙ c.requires.opener.0, omega arith)

pub loop-preserved : goal.loop-preserved
loop-preserved g c =
    let i = c.loop.invariant in let e = c.in_ok-make_share.ensures in let p = c.push_reserved.ensures in
    let share : c.in_ok-make_share.field-0 ≡ new_share (record { deque = worker_deque c.args.home.now; tally = c.args.tally.now.value.table.shared.table_id }) = e.share ∙ (λ k. new_share (record { deque = i.home.0 k; tally = c.args.tally.now.value.table.shared.table_id })) in
    let less : 65 - c.loop.counter - 1 ≡ 65 - (c.loop.counter + 1) = omega arith in record {
      room = omega (arith, p.capacity, i.room);
      many = omega (arith, p.len, i.many);
      shares = p.items ∙ ((λ k. i.shares k ++ share k ∷ []) ∙ replicate_more c.loop.counter (new_share (record { deque = worker_deque c.args.home.now; tally = c.args.tally.now.value.table.shared.table_id })));
      home = (e.home.0 ∙ i.home.0, e.home.1, e.home.2 ∙ (ap without_share i.home.2 ∙ ap (λ (n : ℕ). view_of n [] []) less));
      opener = (e.opener.0 ∙ i.opener.0, e.opener.1 ∙ (ap without_part i.opener.1 ∙ ap (λ (n : ℕ). count_of n 0 0 0 0) less));
    }
